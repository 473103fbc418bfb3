-- When each fault of a join may come.
use Rattle.std.specs.Prelude.{◌≡◌, ◌⊎◌, ℕ, ◌≤◌, ◌<◌, List, [], length, Some, None, Err}
use Rattle.c_tree.specs.declared.program.TFunction.{TFunction}
use Rattle.c_tree.specs.declared.program.TGlobal.{TGlobal}
use Rattle.c_tree.specs.Conditions.{Program, TUnit}
use Rattle.c_tree.specs.Globals.{globals_bytes}
use Rattle.c_tree.specs.Limits.{capped}
use Rattle.join_laws.specs.declared.fault.JoinFault.{JoinFault}
use Rattle.join_laws.specs.declared.fault.JoinFault.TheVariants as fault
use Rattle.join_laws.specs.Joined.{Checked, all_functions, all_globals, defined_twice, disputed, entry_names, joined, name_in, undefined_use, units_nodes}

-- what these units join to, unless memory runs out
abbrev pub Joins : List TUnit → Checked → Type 0
Joins us r = (r ≡ Err fault.NoMemory) ⊎ (r ≡ joined us)

-- the program of these functions and globals
abbrev pub made : List TFunction → List TGlobal → Program
made fs gs = record { functions = fs; globals = gs; entries = entry_names fs }

-- no name has two definitions, and then none has two types, and then none is used without a definition
abbrev pub NoneTwice : List TUnit → Type 0
NoneTwice us = name_in (defined_twice us) ≡ None

abbrev pub NoneDisputed : List TUnit → Type 0
NoneDisputed us = NoneTwice us × (disputed [] us ≡ None)

abbrev pub NoneUndefined : List TUnit → Type 0
NoneUndefined us = NoneDisputed us × (name_in (undefined_use us) ≡ None)

-- and then there are not too many nodes, and then not too many bytes of globals
abbrev pub FewNodes : List TUnit → Type 0
FewNodes us = NoneUndefined us × (units_nodes us ≤ 16000)

abbrev pub FewBytes : List TUnit → Type 0
FewBytes us = FewNodes us × (globals_bytes (all_globals us) ≤ 49152)

-- the number of entry functions
abbrev pub entries_of : List TUnit → ℕ
entries_of us = length (entry_names (all_functions us))

-- Why units don't join: no memory, or the first of six tests that fails. A number that a fault tells is the whole of it, as far
-- as a u64 counts.
pub data Cause (us : List TUnit) : JoinFault → Type 0 where
  No_memory : Cause us fault.NoMemory
  Defined_twice : (name : List ℕ) → name_in (defined_twice us) ≡ Some name → Cause us (fault.Named 61 name)
  Disputed : (name : List ℕ) → NoneTwice us → disputed [] us ≡ Some name → Cause us (fault.Named 62 name)
  Undefined : (name : List ℕ) → NoneDisputed us → name_in (undefined_use us) ≡ Some name → Cause us (fault.Named 60 name)
  Many_nodes : NoneUndefined us → 16000 < units_nodes us → Cause us (fault.Count 51 (capped (units_nodes us)))
  Many_bytes : FewNodes us → 49152 < globals_bytes (all_globals us) → Cause us (fault.Count 52 (capped (globals_bytes (all_globals us))))
  Many_entries : FewBytes us → 512 < entries_of us → Cause us (fault.Count 54 (capped (entries_of us)))
