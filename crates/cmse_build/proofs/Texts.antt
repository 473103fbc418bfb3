-- How the text of one constant entry is taken apart in one way alone.
use Rattle.std.proofs.Common.{◌≡◌, ℕ, ◌<◌, ◌≤◌, ◌^◌, Bool, true, false, ◌&&◌, zero, suc, List, [], ◌∷◌, ◌++◌, length, get_or, take, drop, codes, refl, sym, ap, ◌∙◌, arith, IfNone, Option, Some, None, Result, Ok, Err, ⊎_elim, lit<}
use Rattle.std.specs.Fmt.{decimal}
use Rattle.std.specs.Str.Parse.{digits_value, ParsesUnsigned}
use Rattle.std.specs.Result.{OkIff}
use Rattle.std.specs.List.{prefix_len, list_all}
use Rattle.std.proofs.lemmas.List.{append_cancel_left, take_at, drop_at}
use Rattle.std.proofs.lemmas.Fmt.{digits_decimal, decimal_nonempty, first_decimal, decimal_digit, decimal-digits_value, digits_value-decimal}
use Rattle.std.proofs.lemmas.Str.Parse.{IsNumeralModel, IsDigitsTest, numerals_by_value, parse_digits}
use Rattle.std.proofs.lemmas.Bool.Decides.{nat_tests}
use Rattle.cmse_build.specs.Constant.{IsConstant, IsEnd, is_digit, is_letter, is_word_byte, is_c_name, is_entry_name, is_decimal}

-- what a reader that found nothing owes, also where it isn't known yet that it found nothing
pub no_constant : {T : Type 0} (r : Option T) (text : List ℕ) → ((name : List ℕ) (n : ℕ) → IsConstant text name n → ⊥) → IfNone r ((name : List ℕ) (n : ℕ) → IsConstant text name n → ⊥)
no_constant None text none = none
no_constant (Some x) text none = tt

pub and_left : (a b : Bool) → (a && b) ≡ true → a ≡ true
and_left true b e = refl
and_left false b e = e

pub and_right : (a b : Bool) → (a && b) ≡ true → b ≡ true
and_right true b e = e
and_right false b e = absurd cc

-- the longest front that passes, where all of a and not the beginning of b passes
pub prefix_len-append : (p : ℕ → Bool) (a b : List ℕ) → list_all p a ≡ true → prefix_len p b ≡ 0 → prefix_len p (a ++ b) ≡ length a
prefix_len-append p [] b all stops = stops
prefix_len-append p (x ∷ xs) b all stops =
    let here = and_left (p x) (list_all p xs) all in
    let rest = prefix_len-append p xs b (and_right (p x) (list_all p xs) all) stops in
    rw here (omega (arith, rest))

pub cut_front : (p : ℕ → Bool) (s a b : List ℕ) → s ≡ a ++ b → list_all p a ≡ true → prefix_len p b ≡ 0 → (take (prefix_len p s) s ≡ a) × (drop (prefix_len p s) s ≡ b)
cut_front p s a b is all stops =
    let n : prefix_len p s ≡ length a = ap (prefix_len p) is ∙ prefix_len-append p a b all stops in
    (rw (n, is) (take_at a b (length a) refl), rw (n, is) (drop_at a b (length a) refl))

pub letter_goes_on : (b : ℕ) → is_letter b ≡ true → is_word_byte b ≡ true
letter_goes_on b e = rw e refl

pub is_word-from_c_name : (name : List ℕ) → is_c_name name ≡ true → list_all is_word_byte name ≡ true
is_word-from_c_name [] e = refl
is_word-from_c_name (b ∷ bs) e =
    let first = letter_goes_on b (and_left (is_letter b) _ e) in
    rw (first, and_right (is_letter b) (list_all is_word_byte bs) e) refl

pub is_word-from_entry_name : (name : List ℕ) → is_entry_name name ≡ true → list_all is_word_byte name ≡ true
unfolding is_entry_name
is_word-from_entry_name name e = is_word-from_c_name name (and_left (is_c_name name) _ e)

tells_digits : IsDigitsTest (λ ds. list_all is_digit ds ≡ true)
tells_digits = record {
  empty = refl;
  parts = λ c cs e. (grind (arith, nat_tests, and_left (is_digit c) (list_all is_digit cs) e), and_right (is_digit c) (list_all is_digit cs) e);
  more = λ c cs r e. rw e (grind (arith, nat_tests));
}

own : IsNumeralModel (λ ds. list_all is_digit ds ≡ true) (digits_value 10)
own = numerals_by_value _ tells_digits

-- an `int` is far below what std's lemmas on decimal digits allow
fits : (n : ℕ) → n ≤ 2147483647 → n < 2 ^ 64
fits n le = omega arith

pub is_digits-decimal : (n : ℕ) → n ≤ 2147483647 → list_all is_digit (decimal n) ≡ true
is_digits-decimal n le = digits_decimal own n (fits n le)

is_decimal-from : (ds : List ℕ) → list_all is_digit ds ≡ true → 0 < length ds → (get_or ds 0 0 ≡ 48 → length ds ≡ 1) → is_decimal ds ≡ true
is_decimal-from [] all some lone = absurd (omega arith)
is_decimal-from (b ∷ bs) all some lone = rw all (grind (arith, nat_tests))

is_decimal-parts : (ds : List ℕ) → is_decimal ds ≡ true → (list_all is_digit ds ≡ true) × (0 < length ds) × (get_or ds 0 0 ≡ 48 → length ds ≡ 1)
is_decimal-parts [] e = absurd cc
is_decimal-parts (b ∷ bs) e =
    (and_left (list_all is_digit (b ∷ bs)) _ e, omega arith, λ zero. let r = and_right (list_all is_digit (b ∷ bs)) _ e in grind (arith, nat_tests))

lone_zero : (n : ℕ) → n ≤ 2147483647 → get_or (decimal n) 0 0 ≡ 48 → length (decimal n) ≡ 1
lone_zero zero le e = ap length (decimal_digit 0 (lit< tt))
lone_zero (suc n) le e = absurd (omega (arith, first_decimal (suc n) (omega arith) (fits (suc n) le)))

pub is_decimal-decimal : (n : ℕ) → n ≤ 2147483647 → is_decimal (decimal n) ≡ true
is_decimal-decimal n le = is_decimal-from (decimal n) (is_digits-decimal n le) (decimal_nonempty n (fits n le)) (lone_zero n le)

-- what parsing says of digits without a leading 0
pub parsed : {E : Type 0} (ds : List ℕ) (r : Result ℕ E) → ParsesUnsigned 32 10 ds r → is_decimal ds ≡ true → OkIff r (digits_value 10 ds < 2 ^ 32) (digits_value 10 ds)
parsed {E} ds (Ok x) h e =
    let p = is_decimal-parts ds e in
    let k = parse_digits own {E = E} 32 ds (Ok x) h p.0 in
    (k.0.1, k.1)
parsed {E} ds (Err y) h e =
    let p = is_decimal-parts ds e in
    λ below. parse_digits own {E = E} 32 ds (Err y) h p.0 (p.1, below)

pub decimal-parsed : (ds : List ℕ) → is_decimal ds ≡ true → digits_value 10 ds < 2 ^ 32 → ds ≡ decimal (digits_value 10 ds)
decimal-parsed ds e below =
    let p = is_decimal-parts ds e in
    sym (decimal-digits_value own ds p.0 p.1 p.2 (omega arith))

pub digits_value-decimal_int : (n : ℕ) → n ≤ 2147483647 → digits_value 10 (decimal n) ≡ n
digits_value-decimal_int n le = digits_value-decimal own n (fits n le)

-- the text of a constant, taken apart from its front
pub name_at : (text name s : List ℕ) (n : ℕ) (k : IsConstant text name n) → text ≡ codes "int __attribute__((cmse_nonsecure_entry)) " ++ s → (take (prefix_len is_word_byte s) s ≡ name) × (drop (prefix_len is_word_byte s) s ≡ codes "(void) { return " ++ (decimal n ++ k.rest))
name_at text name s n k is =
    let same = append_cancel_left (codes "int __attribute__((cmse_nonsecure_entry)) ") s _ (sym is ∙ k.spelled) in
    cut_front is_word_byte s name (codes "(void) { return " ++ (decimal n ++ k.rest)) same (is_word-from_entry_name name k.is_name) refl

stops_at_end : (rest : List ℕ) → IsEnd rest → prefix_len is_digit rest ≡ 0
stops_at_end rest h = ⊎_elim (λ e. rw e refl) (λ e. rw e refl) h

pub number_at : (text name s : List ℕ) (n : ℕ) (k : IsConstant text name n) → codes "(void) { return " ++ (decimal n ++ k.rest) ≡ codes "(void) { return " ++ s → (take (prefix_len is_digit s) s ≡ decimal n) × (drop (prefix_len is_digit s) s ≡ k.rest)
number_at text name s n k is =
    let same = append_cancel_left (codes "(void) { return ") s (decimal n ++ k.rest) (sym is) in
    cut_front is_digit s (decimal n) k.rest same (is_digits-decimal n k.is_int) (stops_at_end k.rest k.is_end)

pub one_reading : (text a b : List ℕ) (m n : ℕ) → IsConstant text a m → IsConstant text b n → (a ≡ b) × (m ≡ n)
one_reading text a b m n j k =
    let first = name_at text a _ m j j.spelled in
    let second = name_at text b _ n k j.spelled in
    let middle = sym first.1 ∙ second.1 in
    let ds = number_at text a _ m j refl in
    let es = number_at text b (decimal m ++ j.rest) n k (sym middle) in
    let same = sym ds.0 ∙ es.0 in
    (sym first.0 ∙ second.0, sym (digits_value-decimal_int m j.is_int) ∙ (ap (digits_value 10) same ∙ digits_value-decimal_int n k.is_int))
