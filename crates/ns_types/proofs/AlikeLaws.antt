-- Runs of two programs that differ in their need of stack alone, where the second one needs no more.
use Rattle.std.proofs.Common.{ℕ, zero, suc, ◌*◌, ◌≤◌, Bool, true, false, cond, List, [], ◌∷◌, length, refl, sym, subst, arith, Option, Some, None}
use Rattle.std.specs.Prelude.{take, ltb}
use Rattle.cm_base.specs.declared.stop.Stop.{Stop}
use Rattle.cm_base.specs.declared.stop.Stop.TheVariants as stop
use Rattle.ns_types.specs.declared.goes.Goes.{Goes}
use Rattle.ns_types.specs.declared.goes.Goes.TheVariants as goes
use Rattle.ns_types.specs.declared.event.CEvent.TheVariants as c
use Rattle.ns_types.specs.declared.event.End.{End}
use Rattle.ns_types.specs.Turns.{Turn}
use Rattle.ns_types.specs.declared.turn.Start.{Start}
use Rattle.ns_types.specs.State.{Memory}
use Rattle.ns_types.specs.Platform.{aligned}
use Rattle.ns_types.specs.Boundary.{acted, goes_of, in_four, eight_zeros, kept_of, reset_address}
use Rattle.ns_types.specs.CRun.{World, Outcome, Gave, Over, then_go, mark_at, emit, counted, chain, phase, take_turn, turned, stop_or, stop_with, at_top, run_of, fresh, c_run}
use Rattle.ns_types.specs.Alike.{low, Alike, AlikeBodies, AlikePhases, AlikeRuns}

-- How outcomes are put together

pub alike_gave : (x p : ℕ) (w : World) → p ≤ w.peak → Alike (Gave x w) (Gave x (low p w))
alike_gave x p w le = record { by = (p, le, refl) }

pub alike_over : (e : End) (p : ℕ) (w : World) → p ≤ w.peak → Alike (Over e w) (Over e (low p w))
alike_over e p w le = record { by = (p, le, refl) }

pub alike_stop : (x : Stop) (p : ℕ) (w : World) → p ≤ w.peak → Alike (stop_with x w) (stop_with x (low p w))
alike_stop x p w le = record { by = (p, le, refl) }

pub alike_then : (a b : Outcome) (f g : ℕ → World → Outcome) → Alike a b → ((x p : ℕ) (w : World) → p ≤ w.peak → Alike (f x w) (g x (low p w))) → Alike (then_go a f) (then_go b g)
alike_then (Gave x w) b f g r h = subst (λ o. Alike (f x w) (then_go o g)) (sym r.by.2) (h x r.by.0 w r.by.1)
alike_then (Over e w) b f g r h = subst (λ o. Alike (Over e w) (then_go o g)) (sym r.by.2) (alike_over e r.by.0 w r.by.1)

pub alike_take : (a b : Outcome) (f g : Turn → List Turn → Outcome) (ts : List Turn) → Alike a b → ((t : Turn) (rest : List Turn) → Alike (f t rest) (g t rest)) → Alike (take_turn a f ts) (take_turn b g ts)
alike_take a b f g [] r h = r
alike_take a b f g (t ∷ ts) r h = h t ts

pub alike_or : (x : Option Stop) (p : ℕ) (w : World) (a b : Outcome) → p ≤ w.peak → Alike a b → Alike (stop_or x w a) (stop_or x (low p w) b)
alike_or None p w a b le r = r
alike_or (Some x) p w a b le r = alike_stop x p w le

pub alike_cond : (x : Bool) (a b a' b' : Outcome) → Alike a a' → Alike b b' → Alike (cond x a b) (cond x a' b')
alike_cond true a b a' b' r h = r
alike_cond false a b a' b' r h = h

module _ (enters : ℕ → Option ℕ) (one two : ℕ → List ℕ → World → Outcome) (same : AlikeBodies one two) where
  pub alike_chain : (next next' : World → Outcome) → AlikePhases next next' → (turns exit : ℕ) (kept : List ℕ) (left : ℕ) (g : Goes) (args : List ℕ) (w : World) (p : ℕ) → p ≤ w.peak → Alike (chain enters one next turns exit kept left g args w) (chain enters two next' turns exit kept left g args (low p w))
  alike_chain next next' on turns exit kept zero (goes.Enter e) args w p le = alike_over _ p w le
  alike_chain next next' on turns exit kept (suc left) (goes.Enter e) args w p le =
      alike_cond (ltb w.entries turns) _ _ _ _
      (alike_then _ _ _ _ (same e args (counted w) p le)
      (λ r q u h. alike_chain next next' on turns exit kept left (goes_of enters exit) (in_four (r ∷ [])) (emit (c.Result e r) (mark_at exit kept u) u) q h))
      (alike_over _ p w le)
  alike_chain next next' on turns exit kept zero goes.Return args w p le = alike_gave _ p w le
  alike_chain next next' on turns exit kept (suc left) goes.Return args w p le = alike_gave _ p w le
  alike_chain next next' on turns exit kept zero goes.Turn args w p le = on w p le
  alike_chain next next' on turns exit kept (suc left) goes.Turn args w p le = on w p le
  alike_chain next next' on turns exit kept zero goes.EntryPoint args w p le = alike_stop _ p w le
  alike_chain next next' on turns exit kept (suc left) goes.EntryPoint args w p le = alike_stop _ p w le
  alike_chain next next' on turns exit kept zero goes.Astray args w p le = alike_stop _ p w le
  alike_chain next next' on turns exit kept (suc left) goes.Astray args w p le = alike_stop _ p w le

  pub alike_phase : (turns fuel : ℕ) → AlikePhases (phase enters one turns fuel) (phase enters two turns fuel)
  alike_phase turns zero w p le = alike_take _ _ _ _ w.turns (alike_over _ p w le) (λ t rest. alike_over _ p w le)
  alike_phase turns (suc fuel) w p le =
      alike_take _ _ _ _ w.turns (alike_over _ p w le)
      (λ t rest.
      let acts = acted t.items w.memory.ns_ram in
      let u = turned t rest acts.ram w in
      alike_or acts.stop p u _ _ le (alike_chain (phase enters one turns fuel) (phase enters two turns fuel) (alike_phase turns fuel) turns (aligned 2 t.lr) (kept_of t) (turns * suc fuel) (goes_of enters t.target) (take 4 t.r) u p le))

pub alike_top : (a b : Outcome) → Alike a b → Alike (at_top a) (at_top b)
alike_top (Gave x w) b r = subst (λ o. Alike (stop_with stop.ReturnFault w) (at_top o)) (sym r.by.2) (alike_stop stop.ReturnFault r.by.0 w r.by.1)
alike_top (Over e w) b r = subst (λ o. Alike (Over e w) (at_top o)) (sym r.by.2) (alike_over e r.by.0 w r.by.1)

pub alike_run : (a b : Outcome) → Alike a b → AlikeRuns (run_of a) (run_of b)
alike_run (Gave x w) b r = subst (λ o. AlikeRuns (run_of (Gave x w)) (run_of o)) (sym r.by.2) (record { list = refl; end = refl; peak = r.by.1 })
alike_run (Over e w) b r = subst (λ o. AlikeRuns (run_of (Over e w)) (run_of o)) (sym r.by.2) (record { list = refl; end = refl; peak = r.by.1 })

-- whole runs
pub runs_alike : (enters : ℕ → Option ℕ) (one two : ℕ → List ℕ → World → Outcome) → AlikeBodies one two → (turns : ℕ) (start : Start) (memory : Memory) (ts : List Turn) → AlikeRuns (run_of (c_run enters one turns start memory ts)) (run_of (c_run enters two turns start memory ts))
runs_alike enters one two same turns start memory ts =
    let exit = reset_address start in
    alike_run _ _ (alike_top _ _ (alike_chain enters one two same (phase enters one turns (length ts)) (phase enters two turns (length ts)) (alike_phase enters one two same turns (length ts)) turns exit eight_zeros (turns * suc (length ts)) (goes_of enters exit) (in_four []) (fresh start memory ts) 0 (omega arith)))
