-- Each fault of a join has its cause.
use Rattle.std.proofs.Common.{◌≡◌, ◌⊎◌, inl, inr, ℕ, ◌<◌, ◌≤◌, Bool, true, false, cond, nat_le, List, [], length, ap, sym, ◌∙◌, subst, refl, Option, None, Some, Result, Ok, Err, IfErr, leb-true, leb-false}
use Rattle.c_tree.specs.Conditions.{TUnit}
use Rattle.c_tree.specs.Globals.{globals_bytes}
use Rattle.c_tree.specs.Limits.{capped}
use Rattle.join_laws.specs.declared.fault.JoinFault.{JoinFault}
use Rattle.join_laws.specs.declared.fault.JoinFault.TheVariants as fault
use Rattle.join_laws.specs.Joined.{Checked, all_functions, all_globals, at_most, defined_twice, disputed, entry_names, joined, name_in, named_or, program, undefined_use, units_nodes}
use Rattle.c_join.specs.Causes.{Cause, No_memory, Defined_twice, Disputed, Undefined, Many_nodes, Many_bytes, Many_entries, FewBytes, FewNodes, NoneDisputed, NoneTwice, NoneUndefined, entries_of}

named_err : (code : ℕ) (o : Option (List ℕ)) (rest : Checked) (e : JoinFault) → named_or code o rest ≡ Err e → ((o ≡ None) × (rest ≡ Err e)) ⊎ ((name : List ℕ) × (o ≡ Some name) × (e ≡ fault.Named code name))
named_err code None rest e h = inl (refl, h)
named_err code (Some name) rest e h = let is : e ≡ fault.Named code name = cc in inr (name, refl, is)

count_err : (code most n : ℕ) (rest : Checked) (e : JoinFault) → at_most code most n rest ≡ Err e → ((n ≤ most) × (rest ≡ Err e)) ⊎ ((most < n) × (e ≡ fault.Count code (capped n)))
count_err code most n rest e h = by (nat_le n most) refl h
  where
    by : (b : Bool) → nat_le n most ≡ b → cond b rest (Err (fault.Count code (capped n))) ≡ Err e → ((n ≤ most) × (rest ≡ Err e)) ⊎ ((most < n) × (e ≡ fault.Count code (capped n)))
    by true k h = inl (leb-true n most k, h)
    by false k h = let is : e ≡ fault.Count code (capped n) = cc in inr (leb-false n most k, is)

module _ (us : List TUnit) (e : JoinFault) where
  abbrev at54 : Checked
  at54 = at_most 54 512 (entries_of us) (Ok (program us))

  abbrev at52 : Checked
  at52 = at_most 52 49152 (globals_bytes (all_globals us)) at54

  abbrev at51 : Checked
  at51 = at_most 51 16000 (units_nodes us) at52

  abbrev at60 : Checked
  at60 = named_or 60 (name_in (undefined_use us)) at51

  abbrev at62 : Checked
  at62 = named_or 62 (disputed [] us) at60

  why54 : FewBytes us → at54 ≡ Err e → Cause us e
  why54 few h = by (count_err 54 512 (entries_of us) (Ok (program us)) e h)
    where
      by : ((entries_of us ≤ 512) × (Ok (program us) ≡ Err e)) ⊎ ((512 < entries_of us) × (e ≡ fault.Count 54 (capped (entries_of us)))) → Cause us e
      by (inl q) = let no : Ok (program us) ≡ Err e = q.1 in cc
      by (inr q) = subst (Cause us) (sym q.1) (Many_entries few q.0)

  why52 : FewNodes us → at52 ≡ Err e → Cause us e
  why52 few h = by (count_err 52 49152 (globals_bytes (all_globals us)) at54 e h)
    where
      by : ((globals_bytes (all_globals us) ≤ 49152) × (at54 ≡ Err e)) ⊎ ((49152 < globals_bytes (all_globals us)) × (e ≡ fault.Count 52 (capped (globals_bytes (all_globals us))))) → Cause us e
      by (inl q) = why54 (few, q.0) q.1
      by (inr q) = subst (Cause us) (sym q.1) (Many_bytes few q.0)

  why51 : NoneUndefined us → at51 ≡ Err e → Cause us e
  why51 none h = by (count_err 51 16000 (units_nodes us) at52 e h)
    where
      by : ((units_nodes us ≤ 16000) × (at52 ≡ Err e)) ⊎ ((16000 < units_nodes us) × (e ≡ fault.Count 51 (capped (units_nodes us)))) → Cause us e
      by (inl q) = why52 (none, q.0) q.1
      by (inr q) = subst (Cause us) (sym q.1) (Many_nodes none q.0)

  why60 : NoneDisputed us → at60 ≡ Err e → Cause us e
  why60 none h = by (named_err 60 (name_in (undefined_use us)) at51 e h)
    where
      by : ((name_in (undefined_use us) ≡ None) × (at51 ≡ Err e)) ⊎ ((name : List ℕ) × (name_in (undefined_use us) ≡ Some name) × (e ≡ fault.Named 60 name)) → Cause us e
      by (inl q) = why51 (none, q.0) q.1
      by (inr q) = subst (Cause us) (sym q.2) (Undefined q.0 none q.1)

  why62 : NoneTwice us → at62 ≡ Err e → Cause us e
  why62 none h = by (named_err 62 (disputed [] us) at60 e h)
    where
      by : ((disputed [] us ≡ None) × (at60 ≡ Err e)) ⊎ ((name : List ℕ) × (disputed [] us ≡ Some name) × (e ≡ fault.Named 62 name)) → Cause us e
      by (inl q) = why60 (none, q.0) q.1
      by (inr q) = subst (Cause us) (sym q.2) (Disputed q.0 none q.1)

  pub why : joined us ≡ Err e → Cause us e
  why h = by (named_err 61 (name_in (defined_twice us)) at62 e h)
    where
      by : ((name_in (defined_twice us) ≡ None) × (at62 ≡ Err e)) ⊎ ((name : List ℕ) × (name_in (defined_twice us) ≡ Some name) × (e ≡ fault.Named 61 name)) → Cause us e
      by (inl q) = why62 q.0 q.1
      by (inr q) = subst (Cause us) (sym q.2) (Defined_twice q.0 q.1)

-- what is answered is no fault, or has its cause
pub told : (us : List TUnit) (r : Checked) → (r ≡ Err fault.NoMemory) ⊎ (r ≡ joined us) → IfErr r (Cause us)
told us (Ok p) h = tt
told us (Err e) (inl h) = let is : e ≡ fault.NoMemory = cc in subst (Cause us) (sym is) No_memory
told us (Err e) (inr h) = why us e (sym h)
