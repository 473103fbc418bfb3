-- What stands around an activation, from what the evaluator keeps of it.
use Rattle.std.specs.Prelude.{ℕ, true, false, Bool, List, slice_get, slice_index, Option}
use Rattle.ns_types.specs.CRun.{World, Outcome}
use Rattle.c_tree.specs.declared.program.TFunction.{TFunction}
use Rattle.c_mean.specs.Calls as calls
use Rattle.c_mean.specs.Calls.{Caller, called_out, entered, entry_functions}
use Rattle.c_mean.specs.Exprs.{Around}
use Rattle.c_mean.specs.Homes.{homes}
use Rattle.c_mean.specs.Values.{Spot, At, spot_in}
use Rattle.c_world.specs.declared.plan.At.{At as Place}
use Rattle.c_world.specs.declared.plan.Plan.{Plan}
use Rattle.c_world.specs.Plans.{finished}
use Rattle.c_world.specs.Setups.{Setup, enters}

-- what a call does, where at most so many functions may be active from it on
unfoldable pub call_at : Setup → ℕ → Caller
call_at s deep = calls.call s.program (enters s) s.turns deep

-- an entry that Non-secure code calls from here on
unfoldable pub entering : Setup → Place → ℕ → List ℕ → World → Outcome
entering s at e = call_at s at.deep true at.load at.top (slice_get (entry_functions s.program) e)

-- what stands around an activation
unfoldable pub here : Setup → Plan → Place → Around
here s plan at = record {
  block = at.block;
  offsets = plan.offsets;
  globals = homes s.program.globals;
  call = λ n. call_at s at.deep false at.load at.top (slice_get s.program.functions n);
  ns_call = called_out (entered s.program (enters s) s.turns (call_at s at.deep true at.load at.top));
  from_ns = at.from_ns;
  turns = s.turns;
  returned = finished plan.gives;
}

-- where a local and a global stand
abbrev pub local_spot : Around → ℕ → Spot
local_spot around n = spot_in around.block (slice_get around.offsets n) n

abbrev pub global_spot : Around → ℕ → Spot
global_spot around n = At (slice_index around.globals n)
