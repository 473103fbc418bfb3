-- What is joined has no fault.
use Rattle.std.proofs.Common.{◌≡◌, ℕ, ◌≤◌, Bool, true, false, cond, nat_le, List, [], length, subst, refl, Option, None, Some, All, Ok, Err, leb-true}
use Rattle.c_tree.specs.Conditions.{IsProgram, IsUnit, Program, TUnit}
use Rattle.c_tree.specs.Globals.{globals_bytes}
use Rattle.c_tree.specs.Limits.{capped}
use Rattle.join_laws.specs.declared.fault.JoinFault.TheVariants as faults
use Rattle.join_laws.specs.Joined.{Checked, Numbered, all_functions, all_globals, at_most, defined_twice, disputed, entry_names, joined, name_in, named_or, program, undefined_use, units_nodes}
use Rattle.join_laws.specs.Uses.{Named}
use Rattle.join_laws.proofs.ProgramLaws.{program_holds}

abbrev fine : Program → Checked
fine p = Ok p

abbrev fails : ℕ → ℕ → Checked
fails code n = Err (faults.Count code (capped n))

same : (p q : Program) → fine p ≡ fine q → p ≡ q
same p q h = cc

named_fine : (code : ℕ) (o : Option (List ℕ)) (rest : Checked) (p : Program) → named_or code o rest ≡ fine p → (o ≡ None) × (rest ≡ fine p)
named_fine code None rest p h = (refl, h)
named_fine code (Some n) rest p h = cc

most_fine : (code most n : ℕ) (rest : Checked) (p : Program) → at_most code most n rest ≡ fine p → (n ≤ most) × (rest ≡ fine p)
most_fine code most n rest p h = by (nat_le n most) refl h
  where
    by : (b : Bool) → nat_le n most ≡ b → cond b rest (fails code n) ≡ fine p → (n ≤ most) × (rest ≡ fine p)
    by true k g = (leb-true n most k, g)
    by false k g = cc

no_name : (a : Option Named) → name_in a ≡ None → a ≡ None
no_name None h = refl
no_name (Some x) h = cc

pub joined_holds : (us : List TUnit) (p : Program) → All IsUnit us → Numbered 0 us → joined us ≡ fine p → IsProgram p
joined_holds us p all numbered h =
    let a = named_fine 61 (name_in (defined_twice us)) _ p h in
    let b = named_fine 62 (disputed [] us) _ p a.1 in
    let c = named_fine 60 (name_in (undefined_use us)) _ p b.1 in
    let d = most_fine 51 _ (units_nodes us) _ p c.1 in
    let e = most_fine 52 _ (globals_bytes (all_globals us)) _ p d.1 in
    let f = most_fine 54 _ (length (entry_names (all_functions us))) _ p e.1 in
    subst IsProgram (same (program us) p f.1) (program_holds us all numbered (no_name (defined_twice us) a.0) b.0 (no_name (undefined_use us) c.0) d.0 e.0 f.0)
