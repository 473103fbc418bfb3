-- How a statement of the middle form ends where a part of the tree does.
use Rattle.std.proofs.Common.{◌≡◌, ℕ, zero, suc, ◌<◌, ◌≤◌, ◌⊎◌, List, length, refl, sym, ◌∙◌, subst, arith, Some, slice_get, slice_index}
use Rattle.cm_base.specs.declared.stop.Stop.{Stop}
use Rattle.ns_types.specs.declared.event.End.{End}
use Rattle.ns_types.specs.CRun.{World}
use Rattle.ns_types.specs.Alike.{low}
use Rattle.c_mean.specs.Parts as tree
use Rattle.c_mean.specs.Parts.{Has, Ends, Part, then_with, or_halt, chosen, called}
use Rattle.mid_ir.specs.Activation.{Vars, put, where_set}
use Rattle.mid_ir.specs.Run.{Out, Next, Broke, Gives, Stops, then_do}
use Rattle.mid_ir.specs.Run as mid
use Rattle.lower_code.specs.Frames.{Variable, Frame}

pub put_same : (vs : Vars) (v x : ℕ) → put vs v x v ≡ x
put_same vs v x = grind (arith)

pub put_other : (vs : Vars) (v x i : ℕ) → (i < v) ⊎ (v < i) → put vs v x i ≡ vs i
put_other vs v x i h = grind (arith, h)

-- each local that isn't placed stands in its variable
pub record Agrees (fr : Frame) (l : List ℕ) (vs : Vars) : Type 0 where
  pub many : length l ≡ length fr.homes
  pub at : (i v : ℕ) → slice_get fr.homes i ≡ Some (Variable v) → vs v ≡ slice_index l i

-- the variables of locals are below the free ones, and no two locals have one
pub record IsFrame (fr : Frame) : Type 0 where
  pub below : (i v : ℕ) → slice_get fr.homes i ≡ Some (Variable v) → v < fr.free
  pub apart : (i j v : ℕ) → slice_get fr.homes i ≡ Some (Variable v) → slice_get fr.homes j ≡ Some (Variable v) → i ≡ j

-- the variables from n on below t stay
pub record Kept (n t : ℕ) (vs new : Vars) : Type 0 where
  pub at : (i : ℕ) → n ≤ i → i < t → new i ≡ vs i

pub kept_self : (n t : ℕ) (vs : Vars) → Kept n t vs vs
kept_self n t vs = record { at = λ i a b. refl }

pub kept_on : (n t u : ℕ) (a b d : Vars) → t ≤ u → Kept n t a b → Kept n u b d → Kept n t a d
kept_on n t u a b d le h k = record { at = λ i x y. k.at i x (omega arith) ∙ h.at i x y }

pub kept_less : (n t u : ℕ) (vs new : Vars) → t ≤ u → Kept n u vs new → Kept n t vs new
kept_less n t u vs new le k = record { at = λ i a b. k.at i a (omega arith) }

-- where the variables below the free ones stay, the locals do
pub agrees_on : (fr : Frame) (l : List ℕ) (vs new : Vars) → IsFrame fr → ((i : ℕ) → i < fr.free → new i ≡ vs i) → Agrees fr l vs → Agrees fr l new
agrees_on fr l vs new good same g = record { many = g.many; at = λ i v h. same v (good.below i v h) ∙ g.at i v h }

-- ---- how parts end

-- the part gives x, and what G says of it holds
pub record Left {A : Type 0} (G : A → List ℕ → Vars → Type 0) (x : A) (l : List ℕ) (w : World) (o : Out) : Type 0 where
  pub new : Vars
  pub peak : ℕ
  pub less : peak ≤ w.peak
  pub is : o ≡ Next new (low peak w)
  pub good : G x l new

pub record Halts (e : End) (w : World) (o : Out) : Type 0 where
  pub peak : ℕ
  pub less : peak ≤ w.peak
  pub is : o ≡ Stops e (low peak w)

abbrev pub EndsAs : {A : Type 0} (G : A → List ℕ → Vars → Type 0) → tree.Out A → Out → Type 0
EndsAs G (Has x l w) o = Left G x l w o
EndsAs G (Ends e w) o = Halts e w o

pub record Runs {A : Type 0} (G : A → List ℕ → Vars → Type 0) (a : tree.Out A) (o : Out) : Type 0 where
  pub by : EndsAs G a o

pub halts : (e : End) (w : World) (p : ℕ) → p ≤ w.peak → Halts e w (Stops e (low p w))
halts e w p le = record { peak = p; less = le; is = refl }

pub left : {A : Type 0} (G : A → List ℕ → Vars → Type 0) (x : A) (l : List ℕ) (new : Vars) (w : World) (p : ℕ) → p ≤ w.peak → G x l new → Runs G (Has x l w) (Next new (low p w))
left G x l new w p le g = record { by = record { new = new; peak = p; less = le; is = refl; good = g } }

pub stops : {A : Type 0} (G : A → List ℕ → Vars → Type 0) (x : Stop) (w : World) (p : ℕ) → p ≤ w.peak → Runs G (tree.halt x w) (mid.stop_at x (low p w))
stops G x w p le = record { by = halts _ _ p le }

-- what holds of all that it gives
pub weaker : {A : Type 0} (G H : A → List ℕ → Vars → Type 0) (a : tree.Out A) (o : Out) → ((x : A) (l : List ℕ) (new : Vars) → G x l new → H x l new) → Runs G a o → Runs H a o
weaker G H (Has x l w) o h r = let e = r.by in record { by = record { new = e.new; peak = e.peak; less = e.less; is = e.is; good = h x l e.new e.good } }
weaker G H (Ends e w) o h r = record { by = r.by }

-- one part, and then another
pub then_runs : {A B : Type 0} (G : A → List ℕ → Vars → Type 0) (H : B → List ℕ → Vars → Type 0) (a : tree.Out A) (o : Out) (f : A → Part B) (g : Vars → World → Out)
    → Runs G a o
    → ((x : A) (l : List ℕ) (new : Vars) (w : World) (p : ℕ) → p ≤ w.peak → G x l new → Runs H (f x l w) (g new (low p w)))
    → Runs H (then_with a f) (then_do o g)
then_runs G H (Has x l w) o f g r h =
    let e = r.by in
    subst (λ z. Runs H (f x l w) (then_do z g)) (sym e.is) (h x l e.new w e.peak e.less e.good)
then_runs G H (Ends q w) o f g r h = let e = r.by in subst (λ z. Runs H (Ends q w) (then_do z g)) (sym e.is) (record { by = halts q w e.peak e.less })

-- ---- values

-- x is in t, the locals agree, and the variables from the free ones on below t are kept
pub record Value (fr : Frame) (t : ℕ) (vs : Vars) (x : ℕ) (l : List ℕ) (new : Vars) : Type 0 where
  pub holds : new t ≡ x
  pub locals : Agrees fr l new
  pub kept : Kept fr.free t vs new

-- a part whose value is in t, and then another part of it
pub then_value : {B : Type 0} (fr : Frame) (t : ℕ) (vs : Vars) (H : B → List ℕ → Vars → Type 0) (a : tree.Out ℕ) (o : Out) (f : ℕ → Part B) (g : Vars → World → Out)
    → Runs (Value fr t vs) a o
    → ((l : List ℕ) (new : Vars) (w : World) (p : ℕ) → p ≤ w.peak → Agrees fr l new → Kept fr.free t vs new → Runs H (f (new t) l w) (g new (low p w)))
    → Runs H (then_with a f) (then_do o g)
then_value fr t vs H a o f g r h =
    then_runs (Value fr t vs) H a o f g r
    (λ x l new w p le v. subst (λ y. Runs H (f y l w) (g new (low p w))) v.holds (h l new w p le v.locals v.kept))

-- what went before kept what had to be
pub keeps : (fr : Frame) (t : ℕ) (vs new : Vars) (a : tree.Out ℕ) (o : Out) → Kept fr.free t vs new → Runs (Value fr t new) a o → Runs (Value fr t vs) a o
keeps fr t vs new a o k r = weaker (Value fr t new) (Value fr t vs) a o (λ x l last v. record { holds = v.holds; locals = v.locals; kept = kept_on fr.free t t vs new last (omega arith) k v.kept }) r

-- one part or the other
pub chosen_runs : {A : Type 0} (G : A → List ℕ → Vars → Type 0) (x : ℕ) (f g : Part A) (l : List ℕ) (w : World) (o q : Out) → Runs G (f l w) o → Runs G (g l w) q → Runs G (chosen x f g l w) (where_set x o q)
chosen_runs G zero f g l w o q r h = h
chosen_runs G (suc x) f g l w o q r h = r
