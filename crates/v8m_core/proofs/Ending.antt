-- How effects end.
use Rattle.std.proofs.Common.{◌≡◌, ℕ, Option, sym, subst}
use Rattle.cm_base.specs.declared.stop.Stop.{Stop}
use Rattle.ns_types.specs.State.{Device, State}
use Rattle.v8m_core.specs.declared.effect.Effect.{Effect}
use Rattle.v8m_core.specs.declared.effect.Effect.TheVariants as effect
use Rattle.v8m_core.specs.Step.{apply, write_register}
use Rattle.v8m_core.specs.Parts.{Ends, EndsBy, shown}

-- a write of a register
pub put_ends : (device : Device) (e : Effect) (size d v : ℕ) (s t : State) (why : Option Stop) → e ≡ effect.Put d v → Ends (write_register size d v s) s t why → EndsBy (shown e) (apply device e size s) s t why
unfolding apply
put_ends device e size d v s t why is h = subst (λ x. EndsBy (shown x) (apply device x size s) s t why) (sym is) h
