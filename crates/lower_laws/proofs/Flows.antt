-- How a statement of the middle form ends where a statement of the tree does.
use Rattle.std.proofs.Common.{◌≡◌, ℕ, zero, suc, ◌+◌, ◌≤◌, Bool, List, refl, sym, ap, ◌∙◌, subst, arith, Option, Some, None}
use Rattle.ns_types.specs.declared.event.End.TheVariants as end
use Rattle.ns_types.specs.CRun.{World, Gave}
use Rattle.ns_types.specs.Alike.{low, Alike}
use Rattle.c_mean.specs.declared.flow.Flow.{Flow}
use Rattle.c_mean.specs.declared.flow.Flow.TheVariants as flow
use Rattle.c_mean.specs.Parts as tree
use Rattle.c_mean.specs.Parts.{Has, Ends, Part, then_with, chosen, and_next, after_body, after_turn}
use Rattle.mid_ir.specs.Activation.{Vars, where_set}
use Rattle.mid_ir.specs.Run.{Out, Next, Broke, Gives, Stops, then_do, caught}
use Rattle.mid_ir.specs.Run as mid
use Rattle.mid_ir.specs.Whole.{given}
use Rattle.mid_ir.specs.Whole as whole
use Rattle.lower_code.specs.Frames.{Frame}
use Rattle.lower_code.specs.Stmts.{Ways, farther, in_loop, in_first}
use Rattle.lower_code.specs.Programs.{outermost}
use Rattle.lower_laws.proofs.Relate.{Agrees, Halts, halts, Runs, Value}

-- it goes this way, and the locals agree
pub record At (fr : Frame) (way : Vars → World → Out) (l : List ℕ) (w : World) (o : Out) : Type 0 where
  pub new : Vars
  pub peak : ℕ
  pub less : peak ≤ w.peak
  pub is : o ≡ way new (low peak w)
  pub locals : Agrees fr l new

-- it leaves the function with what becomes x, by whether the function gives anything
pub record Given (gives : Bool) (x : ℕ) (w : World) (o : Out) : Type 0 where
  pub value : ℕ
  pub peak : ℕ
  pub less : peak ≤ w.peak
  pub is : o ≡ Gives value (low peak w)
  pub holds : given gives value ≡ x

-- the ways of what goes on, of `break`, and of `continue`, and how many loops and blocks `return` leaves, if it stays inside
pub record Leads : Type 0 where
  pub next : Vars → World → Out
  pub breaks : Vars → World → Out
  pub continues : Vars → World → Out
  pub returns : Option ℕ

abbrev pub leading : Ways → Leads
leading y = record { next = Next; breaks = Broke y.breaks; continues = Broke y.continues; returns = y.returns }

-- of a turn of a loop
abbrev pub turning : Option ℕ → Leads
turning r = record { next = Next; breaks = Broke 0; continues = Next; returns = r }

-- of a whole body
abbrev pub ending : Leads
ending = record { next = Next; breaks = Next; continues = Next; returns = None }

module _ (fr : Frame) (gives : Bool) where
  abbrev pub Returned : Option ℕ → ℕ → List ℕ → World → Out → Type 0
  Returned None x l w o = Given gives x w o
  Returned (Some k) x l w o = At fr (Broke k) l w o

  abbrev pub Flows : Leads → tree.Out Flow → Out → Type 0
  Flows y (Has flow.Next l w) o = At fr y.next l w o
  Flows y (Has flow.Break l w) o = At fr y.breaks l w o
  Flows y (Has flow.Continue l w) o = At fr y.continues l w o
  Flows y (Has (flow.Return x) l w) o = Returned y.returns x l w o
  Flows y (Ends e w) o = Halts e w o

  pub record Acts (y : Leads) (a : tree.Out Flow) (o : Out) : Type 0 where
    pub by : Flows y a o

  -- from any variables that agree with the locals
  abbrev pub Onward : Leads → Part Flow → (Vars → World → Out) → Type 0
  Onward y f g = (l : List ℕ) (vs : Vars) (w : World) (p : ℕ) → p ≤ w.peak → Agrees fr l vs → Acts y (f l w) (g vs (low p w))

  pub at : (way : Vars → World → Out) (l : List ℕ) (new : Vars) (w : World) (p : ℕ) → p ≤ w.peak → Agrees fr l new → At fr way l w (way new (low p w))
  at way l new w p le g = record { new = new; peak = p; less = le; is = refl; locals = g }

  pub goes_next : (y : Leads) (l : List ℕ) (new : Vars) (w : World) (p : ℕ) → p ≤ w.peak → Agrees fr l new → Acts y (Has flow.Next l w) (y.next new (low p w))
  goes_next y l new w p le g = record { by = at y.next l new w p le g }

  pub goes_break : (y : Leads) (l : List ℕ) (new : Vars) (w : World) (p : ℕ) → p ≤ w.peak → Agrees fr l new → Acts y (Has flow.Break l w) (y.breaks new (low p w))
  goes_break y l new w p le g = record { by = at y.breaks l new w p le g }

  pub goes_continue : (y : Leads) (l : List ℕ) (new : Vars) (w : World) (p : ℕ) → p ≤ w.peak → Agrees fr l new → Acts y (Has flow.Continue l w) (y.continues new (low p w))
  goes_continue y l new w p le g = record { by = at y.continues l new w p le g }

  -- an expression, and a statement that follows
  pub value_acts : (t : ℕ) (vs : Vars) (y : Leads) (a : tree.Out ℕ) (o : Out) (f : ℕ → Part Flow) (g : Vars → World → Out) → Runs (Value fr t vs) a o
      → ((l : List ℕ) (new : Vars) (w : World) (p : ℕ) → p ≤ w.peak → Agrees fr l new → Acts y (f (new t) l w) (g new (low p w))) → Acts y (then_with a f) (then_do o g)
  value_acts t vs y (Has x l w) o f g r h =
      let e = r.by in
      subst (λ z. Acts y (f z l w) (then_do o g)) e.good.holds (subst (λ z. Acts y (f (e.new t) l w) (then_do z g)) (sym e.is) (h l e.new w e.peak e.less e.good.locals))
  value_acts t vs y (Ends q w) o f g r h = let e = r.by in subst (λ z. Acts y (Ends q w) (then_do z g)) (sym e.is) (record { by = halts q w e.peak e.less })

  -- an expression alone
  pub value_alone : (t : ℕ) (vs : Vars) (y : Leads) (a : tree.Out ℕ) (o : Out) → y.next ≡ Next → Runs (Value fr t vs) a o → Acts y (then_with a (λ x m u. Has flow.Next m u)) o
  value_alone t vs y (Has x l w) o n r = let e = r.by in record { by = record { new = e.new; peak = e.peak; less = e.less; is = e.is ∙ ap (λ z. z e.new (low e.peak w)) (sym n); locals = e.good.locals } }
  value_alone t vs y (Ends q w) o n r = record { by = r.by }

  pub chosen_acts : (y : Leads) (x : ℕ) (f g : Part Flow) (l : List ℕ) (w : World) (o q : Out) → Acts y (f l w) o → Acts y (g l w) q → Acts y (chosen x f g l w) (where_set x o q)
  chosen_acts y zero f g l w o q r h = h
  chosen_acts y (suc x) f g l w o q r h = r

  -- what returns passes all that would follow
  returned_then : (r : Option ℕ) (x : ℕ) (l : List ℕ) (w : World) (o : Out) (g : Vars → World → Out) → Returned r x l w o → Returned r x l w (then_do o g)
  returned_then None x l w o g h = record { value = h.value; peak = h.peak; less = h.less; is = ap (λ z. then_do z g) h.is; holds = h.holds }
  returned_then (Some k) x l w o g h = record { new = h.new; peak = h.peak; less = h.less; is = ap (λ z. then_do z g) h.is; locals = h.locals }

  -- one statement of a block, and then the others
  pub then_acts : (y : Ways) (a : tree.Out Flow) (o : Out) (f : Part Flow) (g : Vars → World → Out) → Acts (leading y) a o → Onward (leading y) f g → Acts (leading y) (then_with a (λ x m u. and_next x f m u)) (then_do o g)
  then_acts y (Has flow.Next l w) o f g r h = let e = r.by in subst (λ z. Acts (leading y) (f l w) (then_do z g)) (sym e.is) (h l e.new w e.peak e.less e.locals)
  then_acts y (Has flow.Break l w) o f g r h = let e = r.by in record { by = record { new = e.new; peak = e.peak; less = e.less; is = ap (λ z. then_do z g) e.is; locals = e.locals } }
  then_acts y (Has flow.Continue l w) o f g r h = let e = r.by in record { by = record { new = e.new; peak = e.peak; less = e.less; is = ap (λ z. then_do z g) e.is; locals = e.locals } }
  then_acts y (Has (flow.Return x) l w) o f g r h = record { by = returned_then y.returns x l w o g r.by }
  then_acts y (Ends q w) o f g r h = let e = r.by in record { by = record { peak = e.peak; less = e.less; is = ap (λ z. then_do z g) e.is } }

  -- one block less around
  pub returned_caught : (r : Option ℕ) (a b x : ℕ) (l : List ℕ) (w : World) (o : Out) → a ≡ suc b → Returned (farther a r) x l w o → Returned (farther b r) x l w (caught o)
  returned_caught None a b x l w o e h = record { value = h.value; peak = h.peak; less = h.less; is = ap caught h.is; holds = h.holds }
  returned_caught (Some k) a b x l w o e h =
      let f : k + a ≡ suc (k + b) = omega (arith, e) in
      record { new = h.new; peak = h.peak; less = h.less; is = ap caught h.is ∙ ap (λ z. caught (Broke z h.new (low h.peak w))) f; locals = h.locals }

  -- the body of a loop, in its block
  pub body_acts : (y : Ways) (a : tree.Out Flow) (o : Out) → Acts (leading (in_loop y)) a o → Acts (turning (farther 1 y.returns)) a (caught o)
  body_acts y (Has flow.Next l w) o r = let e = r.by in record { by = record { new = e.new; peak = e.peak; less = e.less; is = ap caught e.is; locals = e.locals } }
  body_acts y (Has flow.Break l w) o r = let e = r.by in record { by = record { new = e.new; peak = e.peak; less = e.less; is = ap caught e.is; locals = e.locals } }
  body_acts y (Has flow.Continue l w) o r = let e = r.by in record { by = record { new = e.new; peak = e.peak; less = e.less; is = ap caught e.is; locals = e.locals } }
  body_acts y (Has (flow.Return x) l w) o r = record { by = returned_caught y.returns 2 1 x l w o refl r.by }
  body_acts y (Ends q w) o r = let e = r.by in record { by = record { peak = e.peak; less = e.less; is = ap caught e.is } }

  -- and what follows it
  pub after_acts : (r : Option ℕ) (a : tree.Out Flow) (o : Out) (f : Part Flow) (g : Vars → World → Out) → Acts (turning r) a o → Onward (turning r) f g → Acts (turning r) (then_with a (λ x m u. after_body x f m u)) (then_do o g)
  after_acts r (Has flow.Next l w) o f g b h = let e = b.by in subst (λ z. Acts (turning r) (f l w) (then_do z g)) (sym e.is) (h l e.new w e.peak e.less e.locals)
  after_acts r (Has flow.Break l w) o f g b h = let e = b.by in record { by = record { new = e.new; peak = e.peak; less = e.less; is = ap (λ z. then_do z g) e.is; locals = e.locals } }
  after_acts r (Has flow.Continue l w) o f g b h = let e = b.by in subst (λ z. Acts (turning r) (f l w) (then_do z g)) (sym e.is) (h l e.new w e.peak e.less e.locals)
  after_acts r (Has (flow.Return x) l w) o f g b h = record { by = returned_then r x l w o g b.by }
  after_acts r (Ends q w) o f g b h = let e = b.by in record { by = record { peak = e.peak; less = e.less; is = ap (λ z. then_do z g) e.is } }

  -- a turn of a loop, and the next ones
  returned_again : (r : Option ℕ) (x : ℕ) (l : List ℕ) (w : World) (o : Out) (g : Vars → World → Out) → Returned (farther 1 r) x l w o → Returned r x l w (mid.again o g)
  returned_again None x l w o g h = record { value = h.value; peak = h.peak; less = h.less; is = ap (λ z. mid.again z g) h.is; holds = h.holds }
  returned_again (Some k) x l w o g h =
      let f : k + 1 ≡ suc k = omega arith in
      record { new = h.new; peak = h.peak; less = h.less; is = ap (λ z. mid.again z g) h.is ∙ ap (λ n. mid.again (Broke n h.new (low h.peak w)) g) f; locals = h.locals }

  again_acts : (y : Ways) (a : tree.Out Flow) (o : Out) (f : Part Flow) (g : Vars → World → Out) → Acts (turning (farther 1 y.returns)) a o → Onward (leading y) f g → Acts (leading y) (then_with a (λ x m u. after_turn x f m u)) (mid.again o g)
  again_acts y (Has flow.Next l w) o f g b h = let e = b.by in subst (λ z. Acts (leading y) (f l w) (mid.again z g)) (sym e.is) (h l e.new w e.peak e.less e.locals)
  again_acts y (Has flow.Break l w) o f g b h = let e = b.by in record { by = record { new = e.new; peak = e.peak; less = e.less; is = ap (λ z. mid.again z g) e.is; locals = e.locals } }
  again_acts y (Has flow.Continue l w) o f g b h = let e = b.by in subst (λ z. Acts (leading y) (f l w) (mid.again z g)) (sym e.is) (h l e.new w e.peak e.less e.locals)
  again_acts y (Has (flow.Return x) l w) o f g b h = record { by = returned_again y.returns x l w o g b.by }
  again_acts y (Ends q w) o f g b h = let e = b.by in record { by = record { peak = e.peak; less = e.less; is = ap (λ z. mid.again z g) e.is } }

  pub loop_acts : (y : Ways) (f : Part Flow) (g : Vars → World → Out) → Onward (turning (farther 1 y.returns)) f g → (n : ℕ) → Onward (leading y) (tree.loop f n) (mid.loop g n)
  loop_acts y f g h zero l vs w p le a = record { by = halts end.Spent w p le }
  loop_acts y f g h (suc n) l vs w p le a = again_acts y (f l w) (g vs (low p w)) (tree.loop f n) (mid.loop g n) (h l vs w p le a) (loop_acts y f g h n)

  -- what a `for` does first, and what follows whatever ends it
  pub first_acts : (y : Leads) (a : tree.Out Flow) (o : Out) (f : Part Flow) (g : Vars → World → Out) → Acts (leading in_first) a o → Onward y f g → Acts y (then_with a (λ x. f)) (then_do (caught o) g)
  first_acts y (Has flow.Next l w) o f g b h = let e = b.by in subst (λ z. Acts y (f l w) (then_do (caught z) g)) (sym e.is) (h l e.new w e.peak e.less e.locals)
  first_acts y (Has flow.Break l w) o f g b h = let e = b.by in subst (λ z. Acts y (f l w) (then_do (caught z) g)) (sym e.is) (h l e.new w e.peak e.less e.locals)
  first_acts y (Has flow.Continue l w) o f g b h = let e = b.by in subst (λ z. Acts y (f l w) (then_do (caught z) g)) (sym e.is) (h l e.new w e.peak e.less e.locals)
  first_acts y (Has (flow.Return x) l w) o f g b h = let e = b.by in subst (λ z. Acts y (f l w) (then_do (caught z) g)) (sym e.is) (h l e.new w e.peak e.less e.locals)
  first_acts y (Ends q w) o f g b h = let e = b.by in record { by = record { peak = e.peak; less = e.less; is = ap (λ z. then_do (caught z) g) e.is } }

  -- a body in its block
  pub whole_acts : (a : tree.Out Flow) (o : Out) → Acts (leading outermost) a o → Acts ending a (caught o)
  whole_acts (Has flow.Next l w) o r = let e = r.by in record { by = record { new = e.new; peak = e.peak; less = e.less; is = ap caught e.is; locals = e.locals } }
  whole_acts (Has flow.Break l w) o r = let e = r.by in record { by = record { new = e.new; peak = e.peak; less = e.less; is = ap caught e.is; locals = e.locals } }
  whole_acts (Has flow.Continue l w) o r = let e = r.by in record { by = record { new = e.new; peak = e.peak; less = e.less; is = ap caught e.is; locals = e.locals } }
  whole_acts (Has (flow.Return x) l w) o r = let e = r.by in record { by = record { value = e.value; peak = e.peak; less = e.less; is = ap caught e.is; holds = e.holds } }
  whole_acts (Ends q w) o r = let e = r.by in record { by = record { peak = e.peak; less = e.less; is = ap caught e.is } }

  -- its end
  pub closes : (a : tree.Out Flow) (o : Out) → Acts ending a o → Alike (tree.closing a) (whole.closing gives o)
  closes (Has flow.Next l w) o r = let e = r.by in record { by = (e.peak, e.less, ap (whole.closing gives) e.is) }
  closes (Has flow.Break l w) o r = let e = r.by in record { by = (e.peak, e.less, ap (whole.closing gives) e.is) }
  closes (Has flow.Continue l w) o r = let e = r.by in record { by = (e.peak, e.less, ap (whole.closing gives) e.is) }
  closes (Has (flow.Return x) l w) o r = let e = r.by in record { by = (e.peak, e.less, ap (whole.closing gives) e.is ∙ ap (λ z. Gave z (low e.peak w)) e.holds) }
  closes (Ends q w) o r = let e = r.by in record { by = (e.peak, e.less, ap (whole.closing gives) e.is) }
