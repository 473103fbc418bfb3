-- The limits of functions of the middle form that hold whatever their names are.
use Rattle.std.specs.Prelude.{◌≡◌, ◌≤◌, ◌%◌, true, length}
use Rattle.std.specs.List.{list_all}
use Rattle.mid_ir.specs.declared.program.MidFn.{MidFn}
use Rattle.mid_ir.specs.Numbers.{is_kind}

-- the limits of a function, its name, its block's size and its numbers aside
pub record IsLimited (g : MidFn) : Type 0 where
  pub params : length g.narrow ≤ 8
  pub entry : g.entry ≡ true → length g.narrow ≤ 4
  pub kinds : list_all is_kind g.narrow ≡ true
  pub vars : length g.narrow ≤ g.vars
  pub aligned : g.block % 8 ≡ 0
