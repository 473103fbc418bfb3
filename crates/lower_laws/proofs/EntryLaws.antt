-- Runs of two programs that differ in their need of stack alone, where only so many entries are entered.
use Rattle.std.proofs.Common.{◌≡◌, ℕ, zero, suc, ◌*◌, ◌<◌, ◌≤◌, Bool, true, false, cond, List, [], ◌∷◌, length, refl, subst, arith, Option, Some, None}
use Rattle.std.specs.Prelude.{take, ltb, eqb}
use Rattle.ns_types.specs.declared.goes.Goes.{Goes}
use Rattle.ns_types.specs.declared.goes.Goes.TheVariants as goes
use Rattle.ns_types.specs.declared.event.CEvent.TheVariants as c
use Rattle.ns_types.specs.Turns.{Turn}
use Rattle.ns_types.specs.declared.turn.Start.{Start}
use Rattle.ns_types.specs.State.{Memory}
use Rattle.ns_types.specs.Platform.{aligned, is_nonsecure, is_secure}
use Rattle.ns_types.specs.Boundary.{acted, goes_of, goes_or, function_return, in_four, eight_zeros, kept_of, reset_address}
use Rattle.ns_types.specs.CRun.{World, Outcome, mark_at, emit, counted, chain, phase, turned, run_of, fresh, c_run}
use Rattle.ns_types.specs.Alike.{low, Alike, AlikePhases, AlikeRuns}
use Rattle.ns_types.proofs.AlikeLaws.{alike_gave, alike_over, alike_stop, alike_then, alike_take, alike_or, alike_cond, alike_top, alike_run}

-- bodies of the first entries
abbrev pub AlikeFirst : ℕ → (f g : ℕ → List ℕ → World → Outcome) → Type 0
AlikeFirst many f g = (e : ℕ) → e < many → (args : List ℕ) (w : World) (p : ℕ) → p ≤ w.peak → Alike (f e args w) (g e args (low p w))

-- only these are entered
abbrev pub Enters : ℕ → (ℕ → Option ℕ) → Type 0
Enters many enters = (a e : ℕ) → enters a ≡ Some e → e < many

module _ (many : ℕ) (enters : ℕ → Option ℕ) (fits : Enters many enters) where
  outside : (a e : ℕ) (x y z : Bool) → cond x goes.Return (cond y goes.Turn (cond z goes.EntryPoint goes.Astray)) ≡ goes.Enter e → e < many
  outside a e true y z h = absurd cc
  outside a e false true z h = absurd cc
  outside a e false false true h = absurd cc
  outside a e false false false h = absurd cc

  arrived : (o : Option ℕ) (a e : ℕ) → ((k : ℕ) → o ≡ Some k → k < many) → goes_or o a ≡ goes.Enter e → e < many
  arrived (Some k) a e h q = let is : k ≡ e = cc in subst (λ n. n < many) is (h k refl)
  arrived None a e h q = outside a e (eqb a function_return) (is_nonsecure a) (is_secure a) q

  goes_fits : (t e : ℕ) → goes_of enters t ≡ goes.Enter e → e < many
  unfolding goes_of
  goes_fits t e h = arrived (enters (aligned 2 t)) (aligned 2 t) e (λ k q. fits (aligned 2 t) k q) h

  abbrev Fits : Goes → Type 0
  Fits g = (e : ℕ) → g ≡ goes.Enter e → e < many

  module _ (one two : ℕ → List ℕ → World → Outcome) (same : AlikeFirst many one two) where
    first_chain : (next next' : World → Outcome) → AlikePhases next next' → (turns exit : ℕ) (kept : List ℕ) (left : ℕ) (g : Goes) → Fits g → (args : List ℕ) (w : World) (p : ℕ) → p ≤ w.peak → Alike (chain enters one next turns exit kept left g args w) (chain enters two next' turns exit kept left g args (low p w))
    first_chain next next' on turns exit kept zero (goes.Enter e) f args w p le = alike_over _ p w le
    first_chain next next' on turns exit kept (suc left) (goes.Enter e) f args w p le =
        alike_cond (ltb w.entries turns) _ _ _ _
        (alike_then _ _ _ _ (same e (f e refl) args (counted w) p le)
        (λ r q u h. first_chain next next' on turns exit kept left (goes_of enters exit) (goes_fits exit) (in_four (r ∷ [])) (emit (c.Result e r) (mark_at exit kept u) u) q h))
        (alike_over _ p w le)
    first_chain next next' on turns exit kept zero goes.Return f args w p le = alike_gave _ p w le
    first_chain next next' on turns exit kept (suc left) goes.Return f args w p le = alike_gave _ p w le
    first_chain next next' on turns exit kept zero goes.Turn f args w p le = on w p le
    first_chain next next' on turns exit kept (suc left) goes.Turn f args w p le = on w p le
    first_chain next next' on turns exit kept zero goes.EntryPoint f args w p le = alike_stop _ p w le
    first_chain next next' on turns exit kept (suc left) goes.EntryPoint f args w p le = alike_stop _ p w le
    first_chain next next' on turns exit kept zero goes.Astray f args w p le = alike_stop _ p w le
    first_chain next next' on turns exit kept (suc left) goes.Astray f args w p le = alike_stop _ p w le

    pub first_phase : (turns fuel : ℕ) → AlikePhases (phase enters one turns fuel) (phase enters two turns fuel)
    first_phase turns zero w p le = alike_take _ _ _ _ w.turns (alike_over _ p w le) (λ t rest. alike_over _ p w le)
    first_phase turns (suc fuel) w p le =
        alike_take _ _ _ _ w.turns (alike_over _ p w le)
        (λ t rest.
        let acts = acted t.items w.memory.ns_ram in
        let u = turned t rest acts.ram w in
        alike_or acts.stop p u _ _ le (first_chain (phase enters one turns fuel) (phase enters two turns fuel) (first_phase turns fuel) turns (aligned 2 t.lr) (kept_of t) (turns * suc fuel) (goes_of enters t.target) (goes_fits t.target) (take 4 t.r) u p le))

    -- whole runs
    pub first_runs : (turns : ℕ) (start : Start) (memory : Memory) (ts : List Turn) → AlikeRuns (run_of (c_run enters one turns start memory ts)) (run_of (c_run enters two turns start memory ts))
    first_runs turns start memory ts =
        let exit = reset_address start in
        alike_run _ _ (alike_top _ _ (first_chain (phase enters one turns (length ts)) (phase enters two turns (length ts)) (first_phase turns (length ts)) turns exit eight_zeros (turns * suc (length ts)) (goes_of enters exit) (goes_fits exit) (in_four []) (fresh start memory ts) 0 (omega arith)))
