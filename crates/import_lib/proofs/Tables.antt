-- Section headers and symbols, one by one.
use Rattle.std.proofs.Common.{◌≡◌, ℕ, ◌+◌, ◌-◌, ◌<◌, ◌==◌, false, suc, List, Option, Some, Result, Ok, Err, if◌then◌else◌, sym, subst, ap, ◌∙◌, arith}
use Rattle.std.specs.Result.{IsErrAnd}
use Rattle.elf32.specs.Constants.{SHT_SYMTAB}
use Rattle.elf32.specs.declared.structures.SectionHeader.{SectionHeader}
use Rattle.ns_types.specs.declared.event.Veneer.{Veneer}
use Rattle.import_lib.specs.declared.read.ImplibFault.{ImplibFault}
use Rattle.import_lib.specs.declared.read.ImplibFault.TheVariants.{Malformed, NoMemory}
use Rattle.import_lib.specs.Reading.{◌>>=◌, GivesOrNoMemory, Leaves, section_of, first_table, with_symbol, with_symbols}

pub table_next : (bytes : List ℕ) (n k : ℕ) (r : Option ℕ) → first_table bytes (n - k) k ≡ r → k < n → ((section_of bytes k).sh_type == SHT_SYMTAB) ≡ false → first_table bytes (n - (k + 1)) (k + 1) ≡ r
table_next bytes n k r inv lt other =
    let m : n - k ≡ suc (n - (k + 1)) = omega arith in
    let next : first_table bytes (n - k) k ≡ (if (section_of bytes k).sh_type == SHT_SYMTAB then Some k else first_table bytes (n - (k + 1)) (k + 1)) = ap (λ j. first_table bytes j k) m in
    sym (next ∙ ap (λ b. if b then Some k else first_table bytes (n - (k + 1)) (k + 1)) other) ∙ inv

module _ (bytes strings : List ℕ) (table : SectionHeader) (n k : ℕ) (old : List Veneer) (all : Result (List Veneer) ℕ) (inv : with_symbols bytes table strings (n - k) k old ≡ all) (lt : k < n) where
  first : with_symbol bytes table strings k old >>= with_symbols bytes table strings (n - (k + 1)) (k + 1) ≡ all
  first =
      let m : n - k ≡ suc (n - (k + 1)) = omega arith in
      let one : with_symbols bytes table strings (n - k) k old ≡ (with_symbol bytes table strings k old >>= with_symbols bytes table strings (n - (k + 1)) (k + 1)) = ap (λ j. with_symbols bytes table strings j k old) m in
      sym one ∙ inv

  pub symbols_next : (new : List Veneer) → with_symbol bytes table strings k old ≡ Ok new → with_symbols bytes table strings (n - (k + 1)) (k + 1) new ≡ all
  symbols_next new e = ap (λ r. r >>= with_symbols bytes table strings (n - (k + 1)) (k + 1)) (sym e) ∙ first

  pub symbols_end : (fault : ImplibFault) (new : List Veneer) → Leaves (Err fault) new (with_symbol bytes table strings k old) → GivesOrNoMemory {X = List Veneer} (λ x. x) (Err fault) all
  symbols_end (Malformed at) new e = sym first ∙ ap (λ r. r >>= with_symbols bytes table strings (n - (k + 1)) (k + 1)) e
  symbols_end NoMemory new e = tt

-- a fault that is passed on
pub passed_on : (r : Result (List Veneer) ImplibFault) (fault : ImplibFault) (all : Result (List Veneer) ℕ) → IsErrAnd r (λ x. x ≡ fault) → GivesOrNoMemory {X = List Veneer} (λ x. x) (Err fault) all → GivesOrNoMemory (λ x. x) r all
passed_on (Ok x) fault all h gives = absurd h
passed_on (Err x) fault all h gives = subst (λ y. GivesOrNoMemory {X = List Veneer} (λ x. x) (Err y) all) (sym h) gives
