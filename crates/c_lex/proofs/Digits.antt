-- How large digits are.
use Rattle.std.proofs.Common.{◌≡◌, ℕ, ◌<◌, true, arith}
use Rattle.std.proofs.lemmas.Bool.Decides.{nat_tests}
use Rattle.c_lex.specs.Classes.{is_hex, is_octal, digit_value}

pub hex_digit : (b : ℕ) → is_hex b ≡ true → digit_value b < 16
unfolding is_hex digit_value
hex_digit b e = grind (arith, nat_tests)

pub octal_digit : (b : ℕ) → is_octal b ≡ true → digit_value b < 8
unfolding is_octal digit_value
octal_digit b e = grind (arith, nat_tests)

pub ruleset hex_small = (hex_digit)

pub ruleset octal_small = (octal_digit)
