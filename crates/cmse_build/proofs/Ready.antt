-- The name of a constant entry is fit for an import library and for an image.
use Rattle.std.proofs.Common.{◌≡◌, ℕ, ◌+◌, ◌%◌, ◌<◌, ◌≤◌, ◌^◌, true, not, ◌&&◌, List, [], ◌∷◌, ◌++◌, length, refl, sym, ap, codes, suc, ◌∙◌, arith, Contains, length-append}
use Rattle.std.specs.Prelude.{nat_le}
use Rattle.std.proofs.lemmas.Bool.{false≢true}
use Rattle.std.proofs.lemmas.Bool.Decides.{nat_tests}
use Rattle.std.proofs.lemmas.List.Elements.{All-nil, All-cons}
use Rattle.std.proofs.lemmas.List.Sums.{AllPass-from_list_all}
use Rattle.cm_base.specs.declared.regions.TheConstants.{NSC}
use Rattle.ns_types.specs.declared.event.Veneer.{Veneer}
use Rattle.elf32.specs.Structures.{symbol_bytes}
use Rattle.elf32.specs.Tables.{names_of, symbol_table, string_table}
use Rattle.elf32.proofs.TableLaws.{aligned_below}
use Rattle.import_lib.specs.Library.{CanWrite, library_size}
use Rattle.cmse_build.specs.declared.image.Gate.{Gate}
use Rattle.cmse_build.specs.Image as image
use Rattle.cmse_build.specs.Constant.{is_c_name, is_entry_name, is_kept_name, is_word_byte}
use Rattle.cmse_build.proofs.Texts.{and_left, and_right, is_word-from_entry_name}

pub short_name : (name : List ℕ) → is_entry_name name ≡ true → length name ≤ 31
unfolding is_entry_name
short_name name e =
    let rest = and_right (is_c_name name) (nat_le (length name) 31 && not (is_kept_name name)) e in
    let short = and_left (nat_le (length name) 31) (not (is_kept_name name)) rest in
    grind (arith, nat_tests)

c_name_some : (name : List ℕ) → is_c_name name ≡ true → 0 < length name
c_name_some [] e = absurd (false≢true e)
c_name_some (b ∷ bs) e = omega arith

pub some_name : (name : List ℕ) → is_entry_name name ≡ true → 0 < length name
unfolding is_entry_name
some_name name e = c_name_some name (and_left (is_c_name name) _ e)

pub no_zero : (name : List ℕ) → is_entry_name name ≡ true → Contains name 0 → ⊥
no_zero name e c =
    let all = AllPass-from_list_all is_word_byte name (is_word-from_entry_name name e) c.0 0 c.1 in
    false≢true (sym (ap is_word_byte c.2) ∙ all)

abbrev pub one_veneer : List ℕ → Veneer
one_veneer name = record { name = name; address = NSC.from }

library_fits : (name : List ℕ) → length name ≤ 31 → library_size (one_veneer name ∷ []) < 2 ^ 32
unfolding symbol_table symbol_bytes
library_fits name short = omega (arith, aligned_below, length-append (name ++ 0 ∷ []) [], length-append name (0 ∷ []))

pub library_ready : (name : List ℕ) → is_entry_name name ≡ true → CanWrite (one_veneer name ∷ [])
library_ready name e = record {
  even = All-cons (λ v. v.address % 2 ≡ 0) (one_veneer name) [] refl (All-nil _);
  ascending = λ k h. absurd (omega arith);
  named = All-cons (λ v. (0 < length v.name) × (Contains v.name 0 → ⊥)) (one_veneer name) [] (some_name name e, no_zero name e) (All-nil _);
  differ = λ i j d less below. absurd (omega arith);
  fits = library_fits name (short_name name e);
}

abbrev pub one_gate : List ℕ → ℕ → Gate
one_gate name code = record { name = name; address = NSC.from; code = code }

two_names : (a b : List ℕ) → length ((a ++ 0 ∷ []) ++ ((b ++ 0 ∷ []) ++ [])) ≡ length a + length b + 2
two_names a b =
    omega (arith, length-append (a ++ 0 ∷ []) ((b ++ 0 ∷ []) ++ []), length-append a (0 ∷ []), length-append (b ++ 0 ∷ []) [], length-append b (0 ∷ []))

strings_size : (name : List ℕ) (code : ℕ) → length (string_table (names_of (image.symbols_of (one_gate name code ∷ [])))) ≡ suc (length name + length (codes "__acle_se_" ++ name) + 2)
strings_size name code = ap (λ n. suc n) (two_names name (codes "__acle_se_" ++ name))

image_fits : (name rom gateways : List ℕ) (code : ℕ) → length name ≤ 31 → length rom + length gateways ≤ 8000000 → length rom + length gateways + length (symbol_table (image.symbols_of (one_gate name code ∷ []))) + length (string_table (names_of (image.symbols_of (one_gate name code ∷ [])))) + 500 < 2 ^ 32
unfolding symbol_table symbol_bytes
image_fits name rom gateways code short few =
    omega (arith, strings_size name code, length-append (codes "__acle_se_") name)

pub image_ready : (name rom gateways : List ℕ) (code : ℕ) → is_entry_name name ≡ true → code + 1 < 2 ^ 32 → length rom + length gateways ≤ 8000000 → image.CanWrite rom gateways (one_gate name code ∷ [])
image_ready name rom gateways code e low few = record {
  addresses = All-cons (λ g. g.address + 1 < 2 ^ 32) (one_gate name code) [] (omega arith) (All-nil _);
  codes = All-cons (λ g. g.code + 1 < 2 ^ 32) (one_gate name code) [] low (All-nil _);
  fits = image_fits name rom gateways code (short_name name e) few;
}
