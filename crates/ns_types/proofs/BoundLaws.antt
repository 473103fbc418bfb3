-- A larger bound only lets a run go further.
use Rattle.std.proofs.Common.{◌≡◌, ℕ, zero, suc, ◌*◌, ◌≤◌, Bool, true, false, cond, List, [], ◌∷◌, ◌++◌, length, refl, sym, ap, ◌∙◌, subst, arith, append_assoc, Option, Some, None}
use Rattle.std.specs.Prelude.{take, ltb}
use Rattle.std.proofs.lemmas.Bool.Decides.{nat_tests}
use Rattle.std.proofs.lemmas.List.{append-nil}
use Rattle.std.proofs.Math.Nat.{mul-le-mul_right}
use Rattle.cm_base.specs.declared.stop.Stop.{Stop}
use Rattle.cm_base.specs.declared.stop.Stop.TheVariants as stop
use Rattle.ns_types.specs.declared.goes.Goes.{Goes}
use Rattle.ns_types.specs.declared.goes.Goes.TheVariants as goes
use Rattle.ns_types.specs.declared.event.CEvent.TheVariants as c
use Rattle.ns_types.specs.declared.event.Bound.{Bound}
use Rattle.ns_types.specs.declared.event.End.TheVariants as end
use Rattle.ns_types.specs.Turns.{Turn}
use Rattle.ns_types.specs.declared.turn.Start.{Start}
use Rattle.ns_types.specs.State.{Memory}
use Rattle.ns_types.specs.Platform.{aligned}
use Rattle.ns_types.specs.Boundary.{acted, goes_of, in_four, eight_zeros, kept_of, reset_address}
use Rattle.ns_types.specs.CRun.{World, Outcome, Gave, Over, then_go, mark_at, emit, counted, chain, phase, take_turn, turned, stop_or, stop_with, at_top, run_of, fresh, c_run}
use Rattle.ns_types.specs.Prefix.{IsFront}
use Rattle.ns_types.specs.Bounds.{world_of, Adds, Reaches, Meaning, IsWithin, GoesFurther, Extends}

pub front_same : {X : Type 0} (xs : List X) → IsFront xs xs
front_same xs = ([], append-nil xs)

pub front_trans : {X : Type 0} (xs ys zs : List X) → IsFront xs ys → IsFront ys zs → IsFront xs zs
front_trans xs ys zs f g = (f.0 ++ g.0, sym (append_assoc xs f.0 g.0) ∙ ap (λ l. l ++ g.0) f.1 ∙ g.1)

-- What only adds events

pub adds_trans : (w : World) (o p : Outcome) → Adds w o → Adds (world_of o) p → Adds w p
adds_trans w o p x y = record { front = front_trans w.events (world_of o).events (world_of p).events x.front y.front }

pub adds_stop : (x : Stop) (w : World) → Adds w (stop_with x w)
adds_stop x w = record { front = (_, refl) }

pub adds_take : (w : World) (a : Outcome) (f : Turn → List Turn → Outcome) (ts : List Turn) → Adds w a → ((t : Turn) (rest : List Turn) → Adds w (f t rest)) → Adds w (take_turn a f ts)
adds_take w a f [] x y = x
adds_take w a f (t ∷ ts) x y = y t ts

pub adds_or : (w : World) (o : Option Stop) (u : World) (rest : Outcome) → IsFront w.events u.events → Adds w rest → Adds w (stop_or o u rest)
adds_or w None u rest f x = x
adds_or w (Some y) u rest f x = record { front = front_trans w.events u.events (world_of (stop_with y u)).events f ((adds_stop y u).front) }

pub adds_then : (w : World) (o : Outcome) (f : ℕ → World → Outcome) → Adds w o → ((x : ℕ) (u : World) → Adds u (f x u)) → Adds w (then_go o f)
adds_then w (Gave x u) f a g = record { front = front_trans w.events u.events (world_of (f x u)).events a.front ((g x u).front) }
adds_then w (Over e u) f a g = a

pub adds_cond : (w : World) (b : Bool) (x y : Outcome) → Adds w x → Adds w y → Adds w (cond b x y)
adds_cond w true x y f g = f
adds_cond w false x y f g = g

module _ (enters : ℕ → Option ℕ) (enter : ℕ → List ℕ → World → Outcome) (adds : (e : ℕ) (args : List ℕ) (w : World) → Adds w (enter e args w)) where
  pub adds_chain : (next : World → Outcome) → ((w : World) → Adds w (next w)) → (turns exit : ℕ) (kept : List ℕ) (left : ℕ) (g : Goes) (args : List ℕ) (w : World) → Adds w (chain enters enter next turns exit kept left g args w)
  adds_chain next later turns exit kept zero (goes.Enter e) args w = record { front = front_same w.events }
  adds_chain next later turns exit kept zero goes.Return args w = record { front = front_same w.events }
  adds_chain next later turns exit kept zero goes.Turn args w = later w
  adds_chain next later turns exit kept zero goes.EntryPoint args w = adds_stop stop.EntryPoint w
  adds_chain next later turns exit kept zero goes.Astray args w = adds_stop stop.Astray w
  adds_chain next later turns exit kept (suc left) (goes.Enter e) args w =
      adds_cond w (ltb w.entries turns) _ _
      (adds_then w (enter e args (counted w)) _ (record { front = (adds e args (counted w)).front })
      (λ r u.
      let v = emit (c.Result e r) (mark_at exit kept u) u in
      let rest = adds_chain next later turns exit kept left (goes_of enters exit) (in_four (r ∷ [])) v in
      record { front = front_trans u.events v.events (world_of (chain enters enter next turns exit kept left (goes_of enters exit) (in_four (r ∷ [])) v)).events (_, refl) rest.front }))
      (record { front = front_same w.events })
  adds_chain next later turns exit kept (suc left) goes.Return args w = record { front = front_same w.events }
  adds_chain next later turns exit kept (suc left) goes.Turn args w = later w
  adds_chain next later turns exit kept (suc left) goes.EntryPoint args w = adds_stop stop.EntryPoint w
  adds_chain next later turns exit kept (suc left) goes.Astray args w = adds_stop stop.Astray w

  pub adds_phase : (turns fuel : ℕ) (w : World) → Adds w (phase enters enter turns fuel w)
  adds_phase turns zero w =
      adds_take w _ _ w.turns (record { front = front_same w.events }) (λ t rest. record { front = front_same w.events })
  adds_phase turns (suc fuel) w =
      adds_take w _ _ w.turns (record { front = front_same w.events })
      (λ t rest.
      let acts = acted t.items w.memory.ns_ram in
      let u = turned t rest acts.ram w in
      adds_or w acts.stop u _ (front_same w.events)
      (record { front = (adds_chain (phase enters enter turns fuel) (adds_phase turns fuel) turns (aligned 2 t.lr) (kept_of t) (turns * suc fuel) (goes_of enters t.target) (take 4 t.r) u).front }))

-- What a larger bound changes

pub reaches_same : (a : Outcome) → Reaches a a
reaches_same a = record { front = front_same (world_of a).events; same = λ e. refl }

pub reaches_take : (a b : Outcome) (f g : Turn → List Turn → Outcome) (ts : List Turn) → Reaches a b → ((t : Turn) (rest : List Turn) → Reaches (f t rest) (g t rest)) → Reaches (take_turn a f ts) (take_turn b g ts)
reaches_take a b f g [] x y = x
reaches_take a b f g (t ∷ ts) x y = y t ts

pub reaches_or : (o : Option Stop) (u : World) (a b : Outcome) → Reaches a b → Reaches (stop_or o u a) (stop_or o u b)
reaches_or None u a b x = x
reaches_or (Some y) u a b x = reaches_same (stop_with y u)

pub reaches_then : (a b : Outcome) (f g : ℕ → World → Outcome) → Reaches a b → ((x : ℕ) (u : World) → Reaches (f x u) (g x u)) → ((x : ℕ) (u : World) → Adds u (g x u)) → Reaches (then_go a f) (then_go b g)
reaches_then (Gave x u) b f g r more adds = subst (λ o. Reaches (f x u) (then_go o g)) (sym (r.same refl)) (more x u)
reaches_then (Over end.Spent u) b f g r more adds = record { front = (adds_then u b g (record { front = r.front }) adds).front; same = λ e. cc }
reaches_then (Over end.Stopped u) b f g r more adds = subst (λ o. Reaches (Over end.Stopped u) (then_go o g)) (sym (r.same refl)) (reaches_same (Over end.Stopped u))
reaches_then (Over end.Waiting u) b f g r more adds = subst (λ o. Reaches (Over end.Waiting u) (then_go o g)) (sym (r.same refl)) (reaches_same (Over end.Waiting u))

at_most_times : (a b n : ℕ) → a ≤ b → a * n ≤ b * n
at_most_times a b n le = mul-le-mul_right n le

-- where the smaller bound lets a run go on, so does the larger one
reaches_cond : (x y : Bool) (w : World) (a b : Outcome) → (x ≡ true → y ≡ true) → Adds w b → Reaches a b → Reaches (cond x a (Over end.Spent w)) (cond y b (Over end.Spent w))
reaches_cond true y w a b h f r = rw (h refl) r
reaches_cond false true w a b h f r = record { front = f.front; same = λ e. cc }
reaches_cond false false w a b h f r = reaches_same _

still_below : (e a b : ℕ) → a ≤ b → ltb e a ≡ true → ltb e b ≡ true
still_below e a b le h = grind (arith, nat_tests)

module _ (enters : ℕ → Option ℕ) (low high : ℕ → List ℕ → World → Outcome) (adds : (e : ℕ) (args : List ℕ) (w : World) → Adds w (high e args w)) (more : (e : ℕ) (args : List ℕ) (w : World) → Reaches (low e args w) (high e args w)) (turns turns' : ℕ) (most : turns ≤ turns') where
  pub reaches_chain : (next next' : World → Outcome) → ((w : World) → Reaches (next w) (next' w)) → ((w : World) → Adds w (next' w)) → (exit : ℕ) (kept : List ℕ) (left left' : ℕ) → left ≤ left' → (g : Goes) (args : List ℕ) (w : World) → Reaches (chain enters low next turns exit kept left g args w) (chain enters high next' turns' exit kept left' g args w)
  reaches_chain next next' onward later exit kept zero left' le (goes.Enter e) args w = record { front = (adds_chain enters high adds next' later turns' exit kept left' (goes.Enter e) args w).front; same = λ s. cc }
  reaches_chain next next' onward later exit kept zero zero le goes.Return args w = reaches_same _
  reaches_chain next next' onward later exit kept zero zero le goes.Turn args w = onward w
  reaches_chain next next' onward later exit kept zero zero le goes.EntryPoint args w = reaches_same _
  reaches_chain next next' onward later exit kept zero zero le goes.Astray args w = reaches_same _
  reaches_chain next next' onward later exit kept zero (suc left') le goes.Return args w = reaches_same _
  reaches_chain next next' onward later exit kept zero (suc left') le goes.Turn args w = onward w
  reaches_chain next next' onward later exit kept zero (suc left') le goes.EntryPoint args w = reaches_same _
  reaches_chain next next' onward later exit kept zero (suc left') le goes.Astray args w = reaches_same _
  reaches_chain next next' onward later exit kept (suc left) zero le g args w = absurd (omega arith)
  reaches_chain next next' onward later exit kept (suc left) (suc left') le (goes.Enter e) args w =
      let rest = λ (r : ℕ) (u : World). chain enters high next' turns' exit kept left' (goes_of enters exit) (in_four (r ∷ [])) (emit (c.Result e r) (mark_at exit kept u) u) in
      let grows = λ (r : ℕ) (u : World). front_trans u.events (emit (c.Result e r) (mark_at exit kept u) u).events (world_of (rest r u)).events (_, refl) (adds_chain enters high adds next' later turns' exit kept left' (goes_of enters exit) (in_four (r ∷ [])) (emit (c.Result e r) (mark_at exit kept u) u)).front in
      reaches_cond (ltb w.entries turns) (ltb w.entries turns') w _ _ (still_below w.entries turns turns' most)
      (adds_then w (high e args (counted w)) rest (record { front = (adds e args (counted w)).front }) (λ r u. record { front = grows r u }))
      (reaches_then (low e args (counted w)) (high e args (counted w)) _ rest (more e args (counted w))
      (λ r u. reaches_chain next next' onward later exit kept left left' (omega arith) (goes_of enters exit) (in_four (r ∷ [])) (emit (c.Result e r) (mark_at exit kept u) u))
      (λ r u. record { front = grows r u }))
  reaches_chain next next' onward later exit kept (suc left) (suc left') le goes.Return args w = reaches_same _
  reaches_chain next next' onward later exit kept (suc left) (suc left') le goes.Turn args w = onward w
  reaches_chain next next' onward later exit kept (suc left) (suc left') le goes.EntryPoint args w = reaches_same _
  reaches_chain next next' onward later exit kept (suc left) (suc left') le goes.Astray args w = reaches_same _

  pub reaches_phase : (fuel : ℕ) (w : World) → Reaches (phase enters low turns fuel w) (phase enters high turns' fuel w)
  reaches_phase zero w = reaches_same _
  reaches_phase (suc fuel) w =
      reaches_take _ _ _ _ w.turns (reaches_same _)
      (λ t rest.
      let acts = acted t.items w.memory.ns_ram in
      let u = turned t rest acts.ram w in
      reaches_or acts.stop u _ _
      (reaches_chain (phase enters low turns fuel) (phase enters high turns' fuel) (reaches_phase fuel) (adds_phase enters high adds turns' fuel) (aligned 2 t.lr) (kept_of t) (turns * suc fuel) (turns' * suc fuel) (at_most_times turns turns' (suc fuel) most) (goes_of enters t.target) (take 4 t.r) u))

reaches_top : (a b : Outcome) → Reaches a b → Reaches (at_top a) (at_top b)
reaches_top (Gave x w) b r = subst (λ o. Reaches (stop_with stop.ReturnFault w) (at_top o)) (sym (r.same refl)) (reaches_same _)
reaches_top (Over end.Spent w) b r = record { front = top b r.front; same = λ e. cc }
  where
    top : (o : Outcome) → IsFront w.events (world_of o).events → IsFront w.events (world_of (at_top o)).events
    top (Gave x u) f = front_trans w.events u.events (world_of (stop_with stop.ReturnFault u)).events f (_, refl)
    top (Over e u) f = f
reaches_top (Over end.Stopped w) b r = subst (λ o. Reaches (Over end.Stopped w) (at_top o)) (sym (r.same refl)) (reaches_same _)
reaches_top (Over end.Waiting w) b r = subst (λ o. Reaches (Over end.Waiting w) (at_top o)) (sym (r.same refl)) (reaches_same _)

extends_run : (a b : Outcome) → Reaches a b → Extends (run_of a) (run_of b)
extends_run (Gave x w) b r = subst (λ o. Extends (run_of (Gave x w)) (run_of o)) (sym (r.same refl)) (record { front = front_same w.events; same = λ e. refl })
extends_run (Over end.Spent w) b r = record { front = list b r.front; same = λ ne. absurd (ne refl) }
  where
    list : (o : Outcome) → IsFront w.events (world_of o).events → IsFront w.events (run_of o).list
    list (Gave x u) f = f
    list (Over e u) f = f
extends_run (Over end.Stopped w) b r = subst (λ o. Extends (run_of (Over end.Stopped w)) (run_of o)) (sym (r.same refl)) (record { front = front_same w.events; same = λ e. refl })
extends_run (Over end.Waiting w) b r = subst (λ o. Extends (run_of (Over end.Waiting w)) (run_of o)) (sym (r.same refl)) (record { front = front_same w.events; same = λ e. refl })

pub extends : (meaning : Meaning) → GoesFurther meaning → (enters : ℕ → Option ℕ) (start : Start) (memory : Memory) (ts : List Turn) (a b : Bound) → IsWithin a b → Extends (run_of (c_run enters (meaning a) a.turns start memory ts)) (run_of (c_run enters (meaning b) b.turns start memory ts))
extends meaning law enters start memory ts a b within =
    let low = meaning a in
    let high = meaning b in
    let adds = law.adds b in
    let more = law.more a b within in
    let exit = reset_address start in
    let fuel = length ts in
    extends_run _ _
    (reaches_top _ _
    (reaches_chain enters low high adds more a.turns b.turns within.0 (phase enters low a.turns fuel) (phase enters high b.turns fuel) (reaches_phase enters low high adds more a.turns b.turns within.0 fuel) (adds_phase enters high adds b.turns fuel) exit eight_zeros (a.turns * suc fuel) (b.turns * suc fuel) (at_most_times a.turns b.turns (suc fuel) within.0) (goes_of enters exit) (in_four []) (fresh start memory ts)))
