-- Each number that is enough for a chain or a phase gives the same outcome, where bodies of entries only go on.
use Rattle.std.proofs.Common.{◌≡◌, ℕ, zero, suc, ◌+◌, ◌*◌, ◌<◌, ◌≤◌, ◌⊎◌, inl, inr, Bool, true, false, cond, List, [], ◌∷◌, length, refl, sym, ap, subst, arith, Option, Some, None}
use Rattle.std.specs.Prelude.{take, ltb}
use Rattle.std.proofs.lemmas.Bool.Decides.{nat_tests}
use Rattle.std.proofs.Math.Nat.{eq-or-lt_of_le, mul-le-mul_left}
use Rattle.cm_base.specs.declared.stop.Stop.{Stop}
use Rattle.ns_types.specs.declared.goes.Goes.{Goes}
use Rattle.ns_types.specs.declared.goes.Goes.TheVariants as goes
use Rattle.ns_types.specs.declared.event.CEvent.TheVariants as c
use Rattle.ns_types.specs.Turns.{Turn}
use Rattle.ns_types.specs.declared.turn.Start.{Start}
use Rattle.ns_types.specs.State.{Memory}
use Rattle.ns_types.specs.Platform.{aligned}
use Rattle.ns_types.specs.Boundary.{acted, goes_of, in_four, eight_zeros, kept_of, reset_address}
use Rattle.ns_types.specs.CRun.{World, Outcome, Gave, Over, then_go, mark_at, emit, counted, chain, phase, take_turn, turned, stop_or, at_top, fresh, c_run}
use Rattle.ns_types.specs.Counters.{IsEnough, GoesOnTo, GoesOn, OnlyGoOn, run_by}

-- What only goes on

pub stays : (w : World) → GoesOnTo w w
stays w = record { turns = omega arith; entries = λ e. omega arith }

pub later_than : (w u v : World) → GoesOnTo w u → GoesOnTo u v → GoesOnTo w v
later_than w u v f g = record { turns = omega (f.turns, g.turns, arith); entries = λ e. by (omega (f.turns, g.turns, e, arith)) (omega (f.turns, g.turns, e, arith)) }
  where
    by : length u.turns ≡ length w.turns → length v.turns ≡ length u.turns → w.entries ≤ v.entries
    by a b = let x = f.entries a in let y = g.entries b in omega arith

pub after_counted : (w u : World) → GoesOnTo (counted w) u → GoesOnTo w u
after_counted w u f = record { turns = f.turns; entries = λ e. let x = f.entries e in omega arith }

-- what an earlier world can go on to
pub earlier : (w u : World) (o : Outcome) → GoesOnTo w u → GoesOn u o → GoesOn w o
earlier w u (Gave x v) f g = record { by = later_than w u v f g.by }
earlier w u (Over e v) f g = record { by = tt }

pub on_then : (w : World) (o : Outcome) (f : ℕ → World → Outcome) → GoesOn w o → ((x : ℕ) (u : World) → GoesOn u (f x u)) → GoesOn w (then_go o f)
on_then w (Gave x u) f a g = earlier w u (f x u) a.by (g x u)
on_then w (Over e u) f a g = a

pub on_cond : (w : World) (b : Bool) (x y : Outcome) → GoesOn w x → GoesOn w y → GoesOn w (cond b x y)
on_cond w true x y f g = f
on_cond w false x y f g = g

pub on_take : (w : World) (a : Outcome) (f : Turn → List Turn → Outcome) (ts : List Turn) → GoesOn w a → ((t : Turn) (rest : List Turn) → ts ≡ t ∷ rest → GoesOn w (f t rest)) → GoesOn w (take_turn a f ts)
on_take w a f [] x y = x
on_take w a f (t ∷ ts) x y = y t ts refl

pub on_or : (w : World) (o : Option Stop) (u : World) (rest : Outcome) → GoesOn w rest → GoesOn w (stop_or o u rest)
on_or w None u rest x = x
on_or w (Some y) u rest x = record { by = tt }

-- after a turn there is one less
pub turn_taken : (t : Turn) (rest : List Turn) (ram : List ℕ) (w : World) → w.turns ≡ t ∷ rest → GoesOnTo w (turned t rest ram w)
turn_taken t rest ram w e = let x = ap length e in record { turns = omega (x, arith); entries = λ s. absurd (omega (x, s, arith)) }

-- How much is enough

none_left : (turns l e : ℕ) → turns * suc l ≤ 0 + e → ltb e turns ≡ false
none_left turns l e le = let x : turns * 1 ≤ turns * suc l = mul-le-mul_left turns (omega arith) in grind (arith, nat_tests)

one_used : (turns n l l' e e' : ℕ) → ltb e turns ≡ true → turns * suc l ≤ suc n + e → l' ≤ l → (l' ≡ l → suc e ≤ e') → turns * suc l' ≤ n + e'
one_used turns n l l' e e' b enough le same = by (eq-or-lt_of_le le)
  where
    by : (l' ≡ l) ⊎ (l' < l) → turns * suc l' ≤ n + e'
    by (inl x) = let y = same x in subst (λ k. turns * suc k ≤ n + e') (sym x) (omega (y, enough, arith))
    by (inr x) =
        let y : turns * suc (suc l') ≤ turns * suc l = mul-le-mul_left turns (omega (x, arith)) in
        let z : e < turns = grind (arith, nat_tests) in
        omega (y, z, enough, arith)

still_enough : (turns n : ℕ) (w u : World) → ltb w.entries turns ≡ true → IsEnough turns (suc n) w → GoesOnTo (counted w) u → IsEnough turns n u
still_enough turns n w u b enough f = one_used turns n (length w.turns) (length u.turns) w.entries u.entries b enough f.turns f.entries

-- Equal outcomes

same_cond : (b : Bool) (x y z : Outcome) → (b ≡ true → x ≡ y) → cond b x z ≡ cond b y z
same_cond true x y z f = f refl
same_cond false x y z f = refl

same_then : (w : World) (o : Outcome) (f g : ℕ → World → Outcome) → GoesOn w o → ((x : ℕ) (u : World) → GoesOnTo w u → f x u ≡ g x u) → then_go o f ≡ then_go o g
same_then w (Gave x u) f g on h = h x u on.by
same_then w (Over e u) f g on h = refl

same_take : (a : Outcome) (f g : Turn → List Turn → Outcome) (ts : List Turn) → ((t : Turn) (rest : List Turn) → ts ≡ t ∷ rest → f t rest ≡ g t rest) → take_turn a f ts ≡ take_turn a g ts
same_take a f g [] h = refl
same_take a f g (t ∷ ts) h = h t ts refl

no_turn : (t : Turn) (rest ts : List Turn) → ts ≡ t ∷ rest → length ts ≤ 0 → ⊥
no_turn t rest ts e le = let x = ap length e in omega (x, le, arith)

fewer : (n : ℕ) (t : Turn) (rest ts : List Turn) → ts ≡ t ∷ rest → length ts ≤ suc n → length rest ≤ n
fewer n t rest ts e le = let x = ap length e in omega (x, le, arith)

module _ (enters : ℕ → Option ℕ) (enter : ℕ → List ℕ → World → Outcome) (on : OnlyGoOn enter) (turns : ℕ) where
  pub chain_goes_on : (next : World → Outcome) → ((w : World) → GoesOn w (next w)) → (exit : ℕ) (kept : List ℕ) (n : ℕ) (g : Goes) (args : List ℕ) (w : World) → GoesOn w (chain enters enter next turns exit kept n g args w)
  chain_goes_on next later exit kept zero (goes.Enter e) args w = record { by = tt }
  chain_goes_on next later exit kept (suc n) (goes.Enter e) args w =
      on_cond w (ltb w.entries turns) _ _
      (earlier w (counted w) _ (after_counted w (counted w) (stays (counted w)))
      (on_then (counted w) (enter e args (counted w)) _ (on.by e args (counted w))
      (λ r u. let v = emit (c.Result e r) (mark_at exit kept u) u in earlier u v _ (record { turns = omega arith; entries = λ s. omega arith }) (chain_goes_on next later exit kept n (goes_of enters exit) (in_four (r ∷ [])) v))))
      (record { by = tt })
  chain_goes_on next later exit kept zero goes.Return args w = record { by = stays w }
  chain_goes_on next later exit kept zero goes.Turn args w = later w
  chain_goes_on next later exit kept zero goes.EntryPoint args w = record { by = tt }
  chain_goes_on next later exit kept zero goes.Astray args w = record { by = tt }
  chain_goes_on next later exit kept (suc n) goes.Return args w = record { by = stays w }
  chain_goes_on next later exit kept (suc n) goes.Turn args w = later w
  chain_goes_on next later exit kept (suc n) goes.EntryPoint args w = record { by = tt }
  chain_goes_on next later exit kept (suc n) goes.Astray args w = record { by = tt }

  pub phase_goes_on : (fuel : ℕ) (w : World) → GoesOn w (phase enters enter turns fuel w)
  phase_goes_on zero w = on_take w _ _ w.turns (record { by = tt }) (λ t rest e. record { by = tt })
  phase_goes_on (suc fuel) w =
      on_take w _ _ w.turns (record { by = tt })
      (λ t rest e.
      let acts = acted t.items w.memory.ns_ram in
      let u = turned t rest acts.ram w in
      on_or w acts.stop u _ (earlier w u _ (turn_taken t rest acts.ram w e) (chain_goes_on (phase enters enter turns fuel) (phase_goes_on fuel) (aligned 2 t.lr) (kept_of t) (turns * suc fuel) (goes_of enters t.target) (take 4 t.r) u)))

  -- two chains whose phases agree while at most k turns are left
  pub same_chain : (next next' : World → Outcome) (k : ℕ) → ((v : World) → length v.turns ≤ k → next v ≡ next' v) → (exit : ℕ) (kept : List ℕ) (n m : ℕ) (g : Goes) (args : List ℕ) (w : World) → IsEnough turns n w → IsEnough turns m w → length w.turns ≤ k → chain enters enter next turns exit kept n g args w ≡ chain enters enter next' turns exit kept m g args w
  same_chain next next' k same exit kept zero zero (goes.Enter e) args w p q le = refl
  same_chain next next' k same exit kept zero (suc m) (goes.Enter e) args w p q le = rw (none_left turns (length w.turns) w.entries p) refl
  same_chain next next' k same exit kept (suc n) zero (goes.Enter e) args w p q le = rw (none_left turns (length w.turns) w.entries q) refl
  same_chain next next' k same exit kept (suc n) (suc m) (goes.Enter e) args w p q le =
      same_cond (ltb w.entries turns) _ _ _
      (λ b.
      same_then (counted w) (enter e args (counted w)) _ _ (on.by e args (counted w))
      (λ r u f.
      same_chain next next' k same exit kept n m (goes_of enters exit) (in_four (r ∷ [])) (emit (c.Result e r) (mark_at exit kept u) u) (still_enough turns n w u b p f) (still_enough turns m w u b q f) (let x = f.turns in omega (x, le, arith))))
  same_chain next next' k same exit kept zero zero goes.Return args w p q le = refl
  same_chain next next' k same exit kept zero zero goes.Turn args w p q le = same w le
  same_chain next next' k same exit kept zero zero goes.EntryPoint args w p q le = refl
  same_chain next next' k same exit kept zero zero goes.Astray args w p q le = refl
  same_chain next next' k same exit kept zero (suc m) goes.Return args w p q le = refl
  same_chain next next' k same exit kept zero (suc m) goes.Turn args w p q le = same w le
  same_chain next next' k same exit kept zero (suc m) goes.EntryPoint args w p q le = refl
  same_chain next next' k same exit kept zero (suc m) goes.Astray args w p q le = refl
  same_chain next next' k same exit kept (suc n) zero goes.Return args w p q le = refl
  same_chain next next' k same exit kept (suc n) zero goes.Turn args w p q le = same w le
  same_chain next next' k same exit kept (suc n) zero goes.EntryPoint args w p q le = refl
  same_chain next next' k same exit kept (suc n) zero goes.Astray args w p q le = refl
  same_chain next next' k same exit kept (suc n) (suc m) goes.Return args w p q le = refl
  same_chain next next' k same exit kept (suc n) (suc m) goes.Turn args w p q le = same w le
  same_chain next next' k same exit kept (suc n) (suc m) goes.EntryPoint args w p q le = refl
  same_chain next next' k same exit kept (suc n) (suc m) goes.Astray args w p q le = refl

  pub same_phase : (fuel fuel' : ℕ) (w : World) → length w.turns ≤ fuel → length w.turns ≤ fuel' → phase enters enter turns fuel w ≡ phase enters enter turns fuel' w
  same_phase zero zero w p q = refl
  same_phase zero (suc fuel') w p q = same_take _ _ _ w.turns (λ t rest e. absurd (no_turn t rest w.turns e p))
  same_phase (suc fuel) zero w p q = same_take _ _ _ w.turns (λ t rest e. absurd (no_turn t rest w.turns e q))
  same_phase (suc fuel) (suc fuel') w p q =
      same_take _ _ _ w.turns
      (λ t rest e.
      let acts = acted t.items w.memory.ns_ram in
      let u = turned t rest acts.ram w in
      let a = fewer fuel t rest w.turns e p in
      let b = fewer fuel' t rest w.turns e q in
      ap (λ o. stop_or acts.stop u o)
      (same_chain (phase enters enter turns fuel) (phase enters enter turns fuel') (length rest) (λ v le. same_phase fuel fuel' v (omega (le, a, arith)) (omega (le, b, arith))) (aligned 2 t.lr) (kept_of t) (turns * suc fuel) (turns * suc fuel') (goes_of enters t.target) (take 4 t.r) u (times_enough fuel (length rest) a) (times_enough fuel' (length rest) b) (omega arith)))
    where
      times_enough : (m l : ℕ) → l ≤ m → turns * suc l ≤ turns * suc m + 0
      times_enough m l le = let x : turns * suc l ≤ turns * suc m = mul-le-mul_left turns (omega (le, arith)) in omega (x, arith)

  pub same_run : (start : Start) (memory : Memory) (ts : List Turn) (fuel n : ℕ) → length ts ≤ fuel → turns * suc (length ts) ≤ n → c_run enters enter turns start memory ts ≡ run_by enters enter turns fuel n start memory ts
  same_run start memory ts fuel n p q =
      let exit = reset_address start in
      ap at_top
      (same_chain (phase enters enter turns (length ts)) (phase enters enter turns fuel) (length ts) (λ v le. same_phase (length ts) fuel v le (omega (le, p, arith))) exit eight_zeros (turns * suc (length ts)) n (goes_of enters exit) (in_four []) (fresh start memory ts) (omega arith) (omega (q, arith)) (omega arith))
