-- The definitions at values that are known.
use Rattle.std.proofs.Common.{◌≡◌, ℕ, refl, List, [], ◌∷◌, Some, None, Ok, Err}
use Rattle.cm_base.specs.declared.stop.Stop.TheVariants.{Divide, Misaligned, Outside}
use Rattle.ns_types.specs.declared.event.CEvent.TheVariants.{Wrote}
use Rattle.ns_types.specs.State.{Memory}
use Rattle.ns_types.specs.Memory.{store, put_word, put_byte}
use Rattle.ns_types.specs.Operators.{add, subtract, negate, divide_unsigned, divide_signed, remainder_signed, shift_left, shift_right_signed, shift_right_unsigned, less_signed, less_unsigned, at_most_signed, to_signed, to_unsigned}
use Rattle.ns_types.specs.Access.{access_stop, may_read, may_write, write_access}
use Rattle.ns_types.specs.Range.{checked_range, row_of_all}

-- the least value by -1, and by 0
least_by_minus_one : divide_signed 0x80000000 0xFFFFFFFF ≡ Ok 0x80000000
least_by_minus_one = refl

least_rest : remainder_signed 0x80000000 0xFFFFFFFF ≡ Ok 0
least_rest = refl

by_zero : divide_signed 7 0 ≡ Err Divide
by_zero = refl

by_zero_unsigned : divide_unsigned 7 0 ≡ Err Divide
by_zero_unsigned = refl

-- -7 by 2, and 7 by -2
toward_zero : divide_signed 0xFFFFFFF9 2 ≡ Ok 0xFFFFFFFD
toward_zero = refl

rest_below : remainder_signed 0xFFFFFFF9 2 ≡ Ok 0xFFFFFFFF
rest_below = refl

toward_zero_other : divide_signed 7 0xFFFFFFFE ≡ Ok 0xFFFFFFFD
toward_zero_other = refl

rest_above : remainder_signed 7 0xFFFFFFFE ≡ Ok 1
rest_above = refl

wraps : add 0xFFFFFFFF 2 ≡ 1
wraps = refl

wraps_below : subtract 1 2 ≡ 0xFFFFFFFF
wraps_below = refl

least_negated : negate 0x80000000 ≡ 0x80000000
least_negated = refl

-- -8 and 8 shifted by 1, and by 33
shifts_signed : shift_right_signed 0xFFFFFFF8 33 ≡ 0xFFFFFFFC
shifts_signed = refl

shifts_unsigned : shift_right_unsigned 0xFFFFFFF8 1 ≡ 0x7FFFFFFC
shifts_unsigned = refl

shifts_left : shift_left 0x80000001 1 ≡ 2
shifts_left = refl

shifts_by_nothing : shift_right_signed 0xFFFFFFFF 32 ≡ 0xFFFFFFFF
shifts_by_nothing = refl

-- -1 is below 1 as a signed value, and above it as an unsigned one
below : less_signed 0xFFFFFFFF 1 ≡ 1
below = refl

above : less_unsigned 0xFFFFFFFF 1 ≡ 0
above = refl

at_most : at_most_signed 1 1 ≡ 1
at_most = refl

-- FFFFFF41 as an unsigned char, and FF as a signed one
as_unsigned_char : to_unsigned 1 0xFFFFFF41 ≡ 0x41
as_unsigned_char = refl

as_signed_char : to_signed 1 0xFF ≡ 0xFFFFFFFF
as_signed_char = refl

as_short : to_signed 2 0x7FFF ≡ 0x7FFF
as_short = refl

as_word : to_signed 4 0x80000001 ≡ 0x80000001
as_word = refl

-- a write of four bytes: beside a multiple of 4, behind Non-secure RAM, and both
beside : access_stop (may_write 0x1FFFFFFF 4) 0x1FFFFFFF 4 ≡ Some Misaligned
beside = refl

behind : access_stop (may_write 0x20020000 4) 0x20020000 4 ≡ Some Outside
behind = refl

beside_and_behind : access_stop (may_write 0x20020002 4) 0x20020002 4 ≡ Some Misaligned
beside_and_behind = refl

inside : access_stop (may_write 0x20000000 4) 0x20000000 4 ≡ None
inside = refl

-- Secure control is outside for C, and Non-secure ROM can be read alone
control : access_stop (may_read 0x30010000 4) 0x30010000 4 ≡ Some Outside
control = refl

rom_read : access_stop (may_read 0 4) 0 4 ≡ None
rom_read = refl

rom_write : access_stop (may_write 0 4) 0 4 ≡ Some Outside
rom_write = refl

abbrev zeros : List ℕ
zeros = 0 ∷ 0 ∷ 0 ∷ 0 ∷ []

abbrev memory : Memory
memory = record { ns_rom = zeros; ns_ram = zeros; secure_ram = zeros }

told : write_access 4 0x20000000 7 memory ≡ Ok (record { memory = record memory { ns_ram = 7 ∷ 0 ∷ 0 ∷ 0 ∷ [] }; events = Wrote 0x20000000 4 7 ∷ [] })
unfolding write_access store put_word
told = refl

untold : write_access 4 0x30000000 7 memory ≡ Ok (record { memory = record memory { secure_ram = 7 ∷ 0 ∷ 0 ∷ 0 ∷ [] }; events = [] })
unfolding write_access store put_word
untold = refl

low_byte_told : write_access 1 0x20000002 0xFFFFFFFF memory ≡ Ok (record { memory = record memory { ns_ram = 0 ∷ 0 ∷ 0xFF ∷ 0 ∷ [] }; events = Wrote 0x20000002 1 0xFF ∷ [] })
unfolding write_access store put_byte
low_byte_told = refl

-- ranges: the last byte of Non-secure RAM, with size 0 and 1, and one byte more
last_byte : checked_range 0x2001FFFF 0 1 ≡ 0x2001FFFF
unfolding checked_range row_of_all
last_byte = refl

last_byte_non_secure : checked_range 0x2001FFFF 1 0x13 ≡ 0x2001FFFF
unfolding checked_range row_of_all
last_byte_non_secure = refl

leaves_row : checked_range 0x2001FFFF 2 1 ≡ 0
unfolding checked_range row_of_all
leaves_row = refl

past_the_end : checked_range 0xFFFFFFFF 2 0 ≡ 0
unfolding checked_range row_of_all
past_the_end = refl

two_rows : checked_range 0x103FEFFC 8 8 ≡ 0
unfolding checked_range row_of_all
two_rows = refl

unknown_flag : checked_range 0x20000000 4 0x20 ≡ 0
unfolding checked_range row_of_all
unknown_flag = refl

rom_is_non_secure : checked_range 0x10 4 2 ≡ 0x10
unfolding checked_range row_of_all
rom_is_non_secure = refl

rom_is_read_only : checked_range 0x10 4 1 ≡ 0
unfolding checked_range row_of_all
rom_is_read_only = refl

secure_not_asked : checked_range 0x30000000 4 1 ≡ 0x30000000
unfolding checked_range row_of_all
secure_not_asked = refl

is_secure_memory : checked_range 0x30000000 4 0x12 ≡ 0
unfolding checked_range row_of_all
is_secure_memory = refl
