-- Switches.
use Rattle.std.proofs.Common.{◌≡◌, ℕ, suc, ◌+◌, Bool, true, false, cond, not, List, [], ◌∷◌, ◌++◌, length, drop, refl, ap, ◌∙◌, inl, arith, Option, Some, None, nat_lt}
use Rattle.std.specs.Prelude.{eqb, ltb, is_some}
use Rattle.std.specs.List.{position_or_len}
use Rattle.std.specs.Option.{unwrap_or}
use Rattle.ns_types.specs.Operators.{truth, equal}
use Rattle.ns_types.specs.CRun.{World}
use Rattle.c_mean.specs.Stmts.{Arm, skipped}
use Rattle.mid_ir.specs.declared.stmt.MidStmt.{MidStmt}
use Rattle.mid_ir.specs.declared.stmt.MidStmt.TheVariants as mid
use Rattle.mid_ir.specs.declared.stmt.SetOp.TheVariants as op
use Rattle.mid_ir.specs.Activation.{Vars, put, where_set, Site}
use Rattle.mid_ir.specs.Run.{Out, Next, Broke, Gives, Stops, then_do, run, run_all}
use Rattle.mid_ir.proofs.RunLaws.{run_Const, run_Set, run_Break, run_all_append}
use Rattle.lower_code.specs.Frames.{Frame}
use Rattle.lower_code.specs.Pieces.{choose}
use Rattle.lower_code.specs.Stmts.{Piece, Case, Default, Code, jump, jumps, default_label, dispatch}
use Rattle.lower_laws.proofs.Relate.{put_same, put_other, Agrees, IsFrame, agrees_on}
use Rattle.lower_laws.proofs.Straight.{next}
use Rattle.lower_laws.proofs.Operands.{choose_is}

-- ---- where control enters

-- the parts from the first one on that passes
abbrev pub first : (Arm → Bool) → List Arm → Option (List Arm)
first p [] = None
first p (a ∷ arms) = cond (p a) (Some (a ∷ arms)) (first p arms)

abbrev pub rest_of : Option (List Arm) → List Arm
rest_of None = []
rest_of (Some arms) = arms

one_more : (n : ℕ) → 1 + n ≡ suc n
one_more n = omega arith

pub from_first : (p : Arm → Bool) (arms : List Arm) → drop (position_or_len p arms) arms ≡ rest_of (first p arms)
from_first p [] = refl
from_first p (a ∷ arms) = test (p a) (from_first p arms)
  where
    test : (b : Bool) → drop (position_or_len p arms) arms ≡ rest_of (first p arms) → drop (cond (not b) (1 + position_or_len p arms) 0) (a ∷ arms) ≡ rest_of (cond b (Some (a ∷ arms)) (first p arms))
    test true h = refl
    test false h = ap (λ k. drop k (a ∷ arms)) (one_more (position_or_len p arms)) ∙ h

within : (p : Arm → Bool) (arms : List Arm) (f : Option (List Arm)) → first p arms ≡ f → nat_lt (position_or_len p arms) (length arms) ≡ is_some f
within p [] None e = refl
within p [] (Some x) e = absurd cc
within p (a ∷ arms) f e = test (p a) f e (λ g. within p arms g)
  where
    smaller : (m n : ℕ) → ltb (1 + m) (suc n) ≡ ltb m n
    smaller m n = grind arith

    test : (b : Bool) (f : Option (List Arm)) → cond b (Some (a ∷ arms)) (first p arms) ≡ f → ((g : Option (List Arm)) → first p arms ≡ g → nat_lt (position_or_len p arms) (length arms) ≡ is_some g) → nat_lt (cond (not b) (1 + position_or_len p arms) 0) (suc (length arms)) ≡ is_some f
    test true None e h = absurd cc
    test true (Some x) e h = grind arith
    test false f e h = smaller (position_or_len p arms) (length arms) ∙ h f e

abbrev pub or_else : Option (List Arm) → List Arm → List Arm
or_else None d = d
or_else (Some arms) d = arms

pub skip_is : (x : ℕ) (arms : List Arm) → drop (skipped x arms) arms ≡ or_else (first (λ a. a.is_case x) arms) (rest_of (first (λ a. a.is_default) arms))
skip_is x arms = by (first (λ a. a.is_case x) arms) refl
  where
    p : Arm → Bool
    p a = a.is_case x

    d : ℕ
    d = position_or_len (λ (a : Arm). a.is_default) arms

    by : (f : Option (List Arm)) → first p arms ≡ f → drop (unwrap_or (cond (nat_lt (position_or_len p arms) (length arms)) (Some (position_or_len p arms)) None) d) arms ≡ or_else f (rest_of (first (λ a. a.is_default) arms))
    by None e = ap (λ b. drop (unwrap_or (cond b (Some (position_or_len p arms)) None) d) arms) (within p arms None e) ∙ from_first (λ a. a.is_default) arms
    by (Some rest) e = ap (λ b. drop (unwrap_or (cond b (Some (position_or_len p arms)) None) d) arms) (within p arms (Some rest) e) ∙ from_first p arms ∙ ap rest_of e

-- ---- the number of the label of a case

abbrev pub case_label : ℕ → ℕ → List Piece → Option ℕ
case_label x i [] = None
case_label x i (Case c ∷ ps) = cond (eqb x c) (Some i) (case_label x (i + 1) ps)
case_label x i (Default ∷ ps) = case_label x (i + 1) ps
case_label x i (Code d ∷ ps) = case_label x i ps

abbrev jump_out : Option ℕ → Vars → World → Out
jump_out None vs w = Next vs w
jump_out (Some k) vs w = Broke k vs w

-- the jumps keep the value and the locals
record Jumped (fr : Frame) (x : ℕ) (l : List ℕ) (w : World) (f : Option ℕ) (o : Out) : Type 0 where
  new : Vars
  is : o ≡ jump_out f new w
  holds : new fr.free ≡ x
  locals : Agrees fr l new

-- and then the default
pub record Sent (fr : Frame) (l : List ℕ) (w : World) (k : ℕ) (o : Out) : Type 0 where
  pub new : Vars
  pub is : o ≡ Broke k new w
  pub locals : Agrees fr l new

module _ (fr : Frame) (good : IsFrame fr) (r : Site) where
  pub last_is : (m : MidStmt) (vs : Vars) (w : World) → run_all r (m ∷ []) vs w ≡ run r m vs w
  last_is m vs w = ends (run r m vs w)
    where
      ends : (o : Out) → then_do o (λ us u. Next us u) ≡ o
      ends (Next us u) = refl
      ends (Broke k us u) = refl
      ends (Gives x u) = refl
      ends (Stops e u) = refl

  jumped : (ps : List Piece) (i : ℕ) (l : List ℕ) (vs : Vars) (w : World) → Agrees fr l vs → Jumped fr (vs fr.free) l w (case_label (vs fr.free) i ps) (run_all r (jumps fr.free i ps) vs w)
  jumped [] i l vs w g = record { new = vs; is = refl; holds = refl; locals = g }
  jumped (Default ∷ ps) i l vs w g = jumped ps (i + 1) l vs w g
  jumped (Code d ∷ ps) i l vs w g = jumped ps i l vs w g
  jumped (Case c ∷ ps) i l vs w g = test (eqb (vs n) c) refl (jumped ps (i + 1) l two w locals)
    where
      n : ℕ
      n = fr.free

      one : Vars
      one = put vs (n + 1) c

      two : Vars
      two = put one (n + 1) (equal (one n) (one (n + 1)))

      more : List MidStmt
      more = jumps n (i + 1) ps

      a : one n ≡ vs n
      a = put_other vs (n + 1) c n (inl (omega arith))

      b : two n ≡ vs n
      b = put_other one (n + 1) (equal (one n) (one (n + 1))) n (inl (omega arith)) ∙ a

      h : two (n + 1) ≡ truth (eqb (vs n) c)
      h = put_same one (n + 1) (equal (one n) (one (n + 1))) ∙ ap (λ z. equal z (one (n + 1))) a ∙ ap (λ z. equal (vs n) z) (put_same vs (n + 1) c)

      locals : Agrees fr l two
      locals = agrees_on fr l vs two good (λ j lt. put_other one (n + 1) _ j (inl (omega arith)) ∙ put_other vs (n + 1) c j (inl (omega arith))) g

      steps : run_all r (jump n c i ++ more) vs w ≡ then_do (where_set (two (n + 1)) (run_all r (mid.Break i ∷ []) two w) (run_all r [] two w)) (run_all r more)
      steps =
          next r (mid.Const (n + 1) c) (mid.Set (n + 1) op.Eq n (n + 1) ∷ choose (n + 1) (mid.Break i ∷ []) [] ∷ more) vs one w w (run_Const r (n + 1) c vs w)
          ∙ next r (mid.Set (n + 1) op.Eq n (n + 1)) (choose (n + 1) (mid.Break i ∷ []) [] ∷ more) one two w w (run_Set r (n + 1) op.Eq n (n + 1) one w)
          ∙ ap (λ o. then_do o (run_all r more)) (choose_is r (n + 1) (mid.Break i ∷ []) [] two w)

      test : (e : Bool) → eqb (vs n) c ≡ e → Jumped fr (two n) l w (case_label (two n) (i + 1) ps) (run_all r more two w) → Jumped fr (vs n) l w (cond e (Some i) (case_label (vs n) (i + 1) ps)) (run_all r (jump n c i ++ more) vs w)
      test true e j = record {
        new = two;
        is = steps ∙ ap (λ z. then_do (where_set z (run_all r (mid.Break i ∷ []) two w) (run_all r [] two w)) (run_all r more)) (h ∙ ap truth e) ∙ ap (λ o. then_do o (run_all r more)) (last_is (mid.Break i) two w ∙ run_Break r i two w);
        holds = b;
        locals = locals;
      }
      test false e j =
          let s = steps ∙ ap (λ z. then_do (where_set z (run_all r (mid.Break i ∷ []) two w) (run_all r [] two w)) (run_all r more)) (h ∙ ap truth e) in
          record { new = j.new; is = s ∙ j.is ∙ ap (λ z. jump_out (case_label z (i + 1) ps) j.new w) b; holds = j.holds ∙ b; locals = j.locals }

  pub sent : (ps : List Piece) (l : List ℕ) (vs : Vars) (w : World) → Agrees fr l vs → Sent fr l w (unwrap_or (case_label (vs fr.free) 0 ps) (default_label 0 ps)) (run_all r (dispatch fr.free ps) vs w)
  sent ps l vs w g = let j = jumped ps 0 l vs w g in by (case_label (vs fr.free) 0 ps) j.new j.is j.locals
    where
      last : MidStmt
      last = mid.Break (default_label 0 ps)

      by : (f : Option ℕ) (new : Vars) → run_all r (jumps fr.free 0 ps) vs w ≡ jump_out f new w → Agrees fr l new → Sent fr l w (unwrap_or f (default_label 0 ps)) (run_all r (dispatch fr.free ps) vs w)
      by None new e g = record { new = new; is = run_all_append r (jumps fr.free 0 ps) (last ∷ []) vs w ∙ ap (λ o. then_do o (run_all r (last ∷ []))) e ∙ last_is last new w ∙ run_Break r (default_label 0 ps) new w; locals = g }
      by (Some k) new e g = record { new = new; is = run_all_append r (jumps fr.free 0 ps) (last ∷ []) vs w ∙ ap (λ o. then_do o (run_all r (last ∷ []))) e; locals = g }
