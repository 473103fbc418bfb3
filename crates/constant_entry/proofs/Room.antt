-- The program needs no more stack than there is, and does the same whatever Secure memory holds at reset.
use Rattle.std.proofs.Common.{◌≡◌, ℕ, zero, suc, ◌*◌, ◌≤◌, Bool, true, false, cond, List, [], ◌∷◌, length, refl, sym, ap, ◌∙◌, arith, Option, Some, None}
use Rattle.std.specs.Prelude.{max, take, ltb}
use Rattle.cm_base.specs.declared.stop.Stop.{Stop}
use Rattle.ns_types.specs.declared.goes.Goes.{Goes}
use Rattle.ns_types.specs.declared.goes.Goes.TheVariants as goes
use Rattle.ns_types.specs.declared.event.CEvent.TheVariants as c
use Rattle.ns_types.specs.Turns.{Turn}
use Rattle.ns_types.specs.declared.turn.Start.{Start}
use Rattle.ns_types.specs.Platform.{aligned}
use Rattle.ns_types.specs.Boundary.{acted, goes_of, in_four, eight_zeros, kept_of, reset_address}
use Rattle.ns_types.specs.CRun.{World, Outcome, Gave, Over, then_go, mark_at, emit, reach, counted, chain, phase, take_turn, turned, stop_or, at_top, Run, run_of, fresh}
use Rattle.ns_types.specs.Bounds.{world_of}
use Rattle.ns_types.specs.Memory.{memory_of}
use Rattle.ns_types.specs.SecureRam.{room}
use Rattle.ns_turns.specs.Unseen.{IgnoresSecure, HasRoom}
use Rattle.constant_entry.specs.Meaning.{need, gives, constant_run}

-- The need of stack

record IsLow (o : Outcome) : Type 0 where
  by : (world_of o).peak ≤ need

low_take : (a : Outcome) (f : Turn → List Turn → Outcome) (ts : List Turn) → IsLow a → ((t : Turn) (rest : List Turn) → IsLow (f t rest)) → IsLow (take_turn a f ts)
low_take a f [] x y = x
low_take a f (t ∷ ts) x y = y t ts

low_or : (o : Option Stop) (w : World) (rest : Outcome) → w.peak ≤ need → IsLow rest → IsLow (stop_or o w rest)
low_or None w rest h r = r
low_or (Some x) w rest h r = record { by = h }

low_cond : (b : Bool) (x y : Outcome) → IsLow x → IsLow y → IsLow (cond b x y)
low_cond true x y f g = f
low_cond false x y f g = g

reached : (p : ℕ) → p ≤ need → max p need ≤ need
reached p h = omega arith

low_gives : (n deep e : ℕ) (args : List ℕ) (w : World) (f : ℕ → World → Outcome) → w.peak ≤ need → ((u : World) → u.peak ≤ need → IsLow (f n u)) → IsLow (then_go (gives n deep e args w) f)
low_gives n zero e args w f h g = record { by = h }
low_gives n (suc deep) e args w f h g = g (reach need w) (reached w.peak h)

module _ (enters : ℕ → Option ℕ) (n deep turns : ℕ) where
  low_chain : (next : World → Outcome) → ((w : World) → w.peak ≤ need → IsLow (next w)) → (exit : ℕ) (kept : List ℕ) (left : ℕ) (g : Goes) (args : List ℕ) (w : World) → w.peak ≤ need → IsLow (chain enters (gives n deep) next turns exit kept left g args w)
  low_chain next later exit kept zero (goes.Enter e) args w h = record { by = h }
  low_chain next later exit kept zero goes.Return args w h = record { by = h }
  low_chain next later exit kept zero goes.Turn args w h = later w h
  low_chain next later exit kept zero goes.EntryPoint args w h = record { by = h }
  low_chain next later exit kept zero goes.Astray args w h = record { by = h }
  low_chain next later exit kept (suc left) (goes.Enter e) args w h =
      low_cond (ltb w.entries turns) _ _
      (low_gives n deep e args (counted w) _ h (λ u k. low_chain next later exit kept left (goes_of enters exit) (in_four (n ∷ [])) (emit (c.Result e n) (mark_at exit kept u) u) k))
      (record { by = h })
  low_chain next later exit kept (suc left) goes.Return args w h = record { by = h }
  low_chain next later exit kept (suc left) goes.Turn args w h = later w h
  low_chain next later exit kept (suc left) goes.EntryPoint args w h = record { by = h }
  low_chain next later exit kept (suc left) goes.Astray args w h = record { by = h }

  low_phase : (fuel : ℕ) (w : World) → w.peak ≤ need → IsLow (phase enters (gives n deep) turns fuel w)
  low_phase zero w h = low_take _ _ w.turns (record { by = h }) (λ t rest. record { by = h })
  low_phase (suc fuel) w h =
      low_take _ _ w.turns (record { by = h })
      (λ t rest.
      let acts = acted t.items w.memory.ns_ram in
      let u = turned t rest acts.ram w in
      low_or acts.stop u _ h (low_chain (phase enters (gives n deep) turns fuel) (low_phase fuel) (aligned 2 t.lr) (kept_of t) (turns * suc fuel) (goes_of enters t.target) (take 4 t.r) u h))

low_top : (o : Outcome) → IsLow o → (run_of (at_top o)).peak ≤ need
low_top (Gave x w) h = h.by
low_top (Over e w) h = h.by

pub has_room : (enters : ℕ → Option ℕ) (n : ℕ) → HasRoom (constant_run enters n)
has_room enters n start whole ts are b =
    let exit = reset_address start in
    let next = phase enters (gives n b.deep) b.turns (length ts) in
    let low = low_top _ (low_chain enters n b.deep b.turns next (low_phase enters n b.deep b.turns (length ts)) exit eight_zeros (b.turns * suc (length ts)) (goes_of enters exit) (in_four []) (fresh start (memory_of start) ts) none) in
    enough (run_of (at_top (chain enters (gives n b.deep) next b.turns exit eight_zeros (b.turns * suc (length ts)) (goes_of enters exit) (in_four []) (fresh start (memory_of start) ts)))).peak low
  where
    none : 0 ≤ need
    none = omega arith

    enough : (p : ℕ) → p ≤ need → p ≤ room
    enough p h = omega arith

-- Secure memory

abbrev with_secure : List ℕ → World → World
with_secure r w = record w { memory = record w.memory { secure_ram = r } }

abbrev other : List ℕ → Outcome → Outcome
other r (Gave x w) = Gave x (with_secure r w)
other r (Over e w) = Over e (with_secure r w)

other_take : (r : List ℕ) (a a' : Outcome) (f f' : Turn → List Turn → Outcome) (ts : List Turn) → a' ≡ other r a → ((t : Turn) (rest : List Turn) → f' t rest ≡ other r (f t rest)) → take_turn a' f' ts ≡ other r (take_turn a f ts)
other_take r a a' f f' [] x y = x
other_take r a a' f f' (t ∷ ts) x y = y t ts

other_or : (r : List ℕ) (o : Option Stop) (w : World) (a a' : Outcome) → a' ≡ other r a → stop_or o (with_secure r w) a' ≡ other r (stop_or o w a)
other_or r None w a a' x = x
other_or r (Some y) w a a' x = refl

other_cond : (r : List ℕ) (b : Bool) (x y x' y' : Outcome) → x' ≡ other r x → y' ≡ other r y → cond b x' y' ≡ other r (cond b x y)
other_cond r true x y x' y' p q = p
other_cond r false x y x' y' p q = q

other_gives : (r : List ℕ) (n deep e : ℕ) (args : List ℕ) (w : World) (f : ℕ → World → Outcome) → ((u : World) → f n (with_secure r u) ≡ other r (f n u)) → then_go (gives n deep e args (with_secure r w)) f ≡ other r (then_go (gives n deep e args w) f)
other_gives r n zero e args w f g = refl
other_gives r n (suc deep) e args w f g = g (reach need w)

module _ (r : List ℕ) (enters : ℕ → Option ℕ) (n deep turns : ℕ) where
  other_chain : (next : World → Outcome) → ((w : World) → next (with_secure r w) ≡ other r (next w)) → (exit : ℕ) (kept : List ℕ) (left : ℕ) (g : Goes) (args : List ℕ) (w : World)
      → chain enters (gives n deep) next turns exit kept left g args (with_secure r w) ≡ other r (chain enters (gives n deep) next turns exit kept left g args w)
  other_chain next later exit kept zero (goes.Enter e) args w = refl
  other_chain next later exit kept zero goes.Return args w = refl
  other_chain next later exit kept zero goes.Turn args w = later w
  other_chain next later exit kept zero goes.EntryPoint args w = refl
  other_chain next later exit kept zero goes.Astray args w = refl
  other_chain next later exit kept (suc left) (goes.Enter e) args w =
      other_cond r (ltb w.entries turns) _ _ _ _
      (other_gives r n deep e args (counted w) _ (λ u. other_chain next later exit kept left (goes_of enters exit) (in_four (n ∷ [])) (emit (c.Result e n) (mark_at exit kept u) u)))
      refl
  other_chain next later exit kept (suc left) goes.Return args w = refl
  other_chain next later exit kept (suc left) goes.Turn args w = later w
  other_chain next later exit kept (suc left) goes.EntryPoint args w = refl
  other_chain next later exit kept (suc left) goes.Astray args w = refl

  other_phase : (fuel : ℕ) (w : World) → phase enters (gives n deep) turns fuel (with_secure r w) ≡ other r (phase enters (gives n deep) turns fuel w)
  other_phase zero w = other_take r _ _ _ _ w.turns refl (λ t rest. refl)
  other_phase (suc fuel) w =
      other_take r _ _ _ _ w.turns refl
      (λ t rest.
      let acts = acted t.items w.memory.ns_ram in
      let u = turned t rest acts.ram w in
      other_or r acts.stop u _ _ (other_chain (phase enters (gives n deep) turns fuel) (other_phase fuel) (aligned 2 t.lr) (kept_of t) (turns * suc fuel) (goes_of enters t.target) (take 4 t.r) u))

other_run : (r : List ℕ) (o : Outcome) → run_of (at_top (other r o)) ≡ run_of (at_top o)
other_run r (Gave x w) = refl
other_run r (Over e w) = refl

pub ignores_secure : (enters : ℕ → Option ℕ) (n : ℕ) → IgnoresSecure (constant_run enters n)
ignores_secure enters n a b whole whole' outside ts are bound =
    ap (λ x. runs x a.ns_ram a.secure_ram) outside.ns_rom ∙ ap (λ y. runs b.ns_rom y a.secure_ram) outside.ns_ram ∙ sym (secure b.ns_rom b.ns_ram a.secure_ram b.secure_ram)
  where
    begun : List ℕ → List ℕ → List ℕ → Start
    begun x y z = record { secure_ram = z; ns_ram = y; ns_rom = x }

    runs : List ℕ → List ℕ → List ℕ → Run
    runs x y z = constant_run enters n (begun x y z) ts bound

    secure : (x y z z' : List ℕ) → runs x y z' ≡ runs x y z
    secure x y z z' =
        let start = begun x y z in
        let exit = reset_address start in
        let next = phase enters (gives n bound.deep) bound.turns (length ts) in
        let left = bound.turns * suc (length ts) in
        let w = fresh start (memory_of start) ts in
        ap (λ o. run_of (at_top o)) (other_chain z' enters n bound.deep bound.turns next (other_phase z' enters n bound.deep bound.turns (length ts)) exit eight_zeros left (goes_of enters exit) (in_four []) w)
        ∙ other_run z' (chain enters (gives n bound.deep) next bound.turns exit eight_zeros left (goes_of enters exit) (in_four []) w)
