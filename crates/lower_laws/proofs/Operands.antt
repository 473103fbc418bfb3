-- What the code of each kind of expression does, whatever its operands are.
use Rattle.std.proofs.Common.{◌≡◌, ℕ, zero, suc, ◌+◌, ◌%◌, ◌<◌, ◌≤◌, Bool, true, false, cond, not, List, [], ◌∷◌, ◌++◌, length, map, refl, sym, ap, ◌∙◌, subst, inl, arith, add-one, Result, Ok, Err}
use Rattle.std.specs.Prelude.{eqb}
use Rattle.cm_base.specs.declared.stop.Stop.{Stop}
use Rattle.cm_base.specs.declared.stop.Stop.TheVariants.{CallTarget}
use Rattle.ns_types.specs.declared.event.CEvent.TheVariants as c
use Rattle.ns_types.specs.Operators as ops
use Rattle.ns_types.specs.Operators.{truth}
use Rattle.ns_types.specs.Platform.{aligned, in_row}
use Rattle.ns_types.specs.Boundary.{eight_zeros}
use Rattle.ns_types.specs.Range.{checked_range}
use Rattle.ns_types.specs.CRun.{World, Outcome, Gave, Over, emit, mark_at}
use Rattle.ns_types.specs.Alike.{low, Alike}
use Rattle.c_types.specs.declared.ctype.CType.{CType}
use Rattle.c_types.specs.Kind.{arithmetic}
use Rattle.c_tree.specs.declared.expr.BinOp.{BinOp}
use Rattle.c_tree.specs.declared.expr.BinOp.TheVariants as bin
use Rattle.c_tree.specs.declared.expr.UnOp.{UnOp}
use Rattle.c_const.specs.Operate.{operate, operate_one}
use Rattle.c_const.specs.Constant.{pointer_sum}
use Rattle.c_mean.specs.Parts.{Has, Ends, Part, then_with, halt, or_halt, chosen, called}
use Rattle.c_mean.specs.Values.{converted}
use Rattle.c_mean.specs.Exprs.{Around, Sense, constant, values_from, ns_called}
use Rattle.mid_ir.specs.declared.stmt.MidStmt.{MidStmt}
use Rattle.mid_ir.specs.declared.stmt.MidStmt.TheVariants as mid
use Rattle.mid_ir.specs.declared.stmt.SetOp.TheVariants as op
use Rattle.mid_ir.specs.Activation.{Vars, put, where_set, ns_call, Site}
use Rattle.mid_ir.specs.Run.{Next, or_stop, from_call, after_call, from_outside, narrowed, run, run_all}
use Rattle.mid_ir.proofs.RunLaws.{run_Const, run_Set, run_If, run_Seq, run_Call, run_NsCall, run_Range, run_Caller, run_all_append}
use Rattle.lower_code.specs.Frames.{Frame}
use Rattle.lower_code.specs.Pieces as piece
use Rattle.lower_code.specs.Pieces.{places}
use Rattle.lower_code.specs.Exprs as code
use Rattle.lower_code.specs.Exprs.{Codes, Operand}
use Rattle.lower_laws.specs.Likeness.{Outside}
use Rattle.lower_laws.proofs.Relate.{put_same, put_other, Agrees, IsFrame, Kept, kept_self, kept_on, Runs, Value, left, stops, halts, then_runs, keeps, chosen_runs}
use Rattle.lower_laws.proofs.Straight.{Sets, next, kind_is, sets_runs, truth_sets, moved_sets, cleared_sets, is_even_sets, one_sets, convert_sets, operation_is}
use Rattle.lower_laws.proofs.Accesses.{result_puts}
use Rattle.lower_laws.proofs.Places.{Does, more, two, one_is, const_does, put_value, puts_value}

-- one of two lists of statements
pub choose_is : (r : Site) (v : ℕ) (on off : List MidStmt) (vs : Vars) (w : World) → run r (piece.choose v on off) vs w ≡ where_set (vs v) (run_all r on vs w) (run_all r off vs w)
choose_is r v on off vs w =
    run_If r v (mid.Seq on) (mid.Seq off) vs w
    ∙ ap (λ o. where_set (vs v) o (run r (mid.Seq off) vs w)) (run_Seq r on vs w)
    ∙ ap (λ o. where_set (vs v) (run_all r on vs w) o) (run_Seq r off vs w)

-- variables in which arguments stand
places_more : (vs : Vars) (t k : ℕ) → map vs (places t (k + 1)) ≡ map vs (places t k) ++ vs (t + k) ∷ []
places_more vs t zero = ap (λ z. vs z ∷ []) (omega arith)
places_more vs t (suc k) =
    ap (λ z. map vs (places t z)) (add-one (suc k))
    ∙ ap (λ z. vs t ∷ map vs (places (t + 1) z)) (sym (add-one k))
    ∙ ap (λ z. vs t ∷ z) (places_more vs (t + 1) k ∙ ap (λ z. map vs (places (t + 1) k) ++ vs z ∷ []) (omega arith))

places_same : (vs new : Vars) (t k : ℕ) → ((i : ℕ) → t ≤ i → i < t + k → new i ≡ vs i) → map new (places t k) ≡ map vs (places t k)
places_same vs new t zero h = refl
places_same vs new t (suc k) h =
    ap (λ z. z ∷ map new (places (t + 1) k)) (h t (omega arith) (omega arith))
    ∙ ap (λ z. vs t ∷ z) (places_same vs new (t + 1) k (λ i a b. h i (omega arith) (omega arith)))

-- the arguments stand in k variables from t on
pub record Args (fr : Frame) (t k : ℕ) (vs : Vars) (xs l : List ℕ) (new : Vars) : Type 0 where
  pub holds : map new (places t k) ≡ xs
  pub locals : Agrees fr l new
  pub kept : Kept fr.free t vs new

module _ (fr : Frame) (good : IsFrame fr) (r : Site) (room : r.block + fr.bytes < 4294967296) where
  abbrev D : Part ℕ → Codes → Type 0
  D = Does fr good r room

  -- ---- operators

  -- code for a value, and straight code that makes another of it
  pub after_does : (op : ℕ → ℕ) (a : Part ℕ) (c d : Codes) → D a c → ((t : ℕ) (vs : Vars) (w : World) → Sets t (t + 1) (op (vs t)) vs w (run_all r (d t) vs w)) → D (λ l w. then_with (a l w) (λ x. constant (op x))) (λ t. c t ++ d t)
  after_does op a c d h sets = record {
    by = λ t nt l vs w p le g.
        more fr good r room t vs (Value fr t vs) l w p a (c t) (d t) (λ x. constant (op x)) (h.by t nt l vs w p le g)
        (λ l new w p le g k. sets_runs fr good t (t + 1) (op (new t)) p l vs new w _ nt (omega arith) le g k (sets t new (low p w)));
  }

  pub convert_does : (y : CType) (a : Part ℕ) (c : Codes) → D a c → D (λ l w. then_with (a l w) (λ x. constant (converted y x))) (λ t. c t ++ piece.convert y t)
  convert_does y a c h = after_does (converted y) a c (piece.convert y) h (λ t vs w. convert_sets r y t (t + 1) vs w)

  pub unary_does : (o : UnOp) (a : Part ℕ) (c : Codes) → D a c → D (λ l w. then_with (a l w) (λ x. constant (operate_one o x))) (λ t. c t ++ piece.operation_one o t)
  unary_does o a c h = after_does (operate_one o) a c (piece.operation_one o) h (λ t vs w. one_sets r o t vs w)

  pub create_does : (a : Part ℕ) (c : Codes) → D a c → D (λ l w. then_with (a l w) (λ x. constant (aligned 2 x))) (λ t. c t ++ piece.cleared t)
  create_does a c h = after_does (aligned 2) a c piece.cleared h (λ t vs w. cleared_sets r t vs w)

  pub test_does : (a : Part ℕ) (c : Codes) → D a c → D (λ l w. then_with (a l w) (λ x. constant (truth (eqb (x % 2) 0)))) (λ t. c t ++ piece.is_even t)
  test_does a c h = after_does (λ x. truth (eqb (x % 2) 0)) a c piece.is_even h (λ t vs w. is_even_sets r t vs w)

  truth_does : (a : Part ℕ) (c : Codes) → D a c → D (λ l w. then_with (a l w) (λ x. constant (truth (not (eqb x 0))))) (λ t. c t ++ piece.truth t)
  truth_does a c h = after_does (λ x. truth (not (eqb x 0))) a c piece.truth h (λ t vs w. truth_sets r t vs w)

  -- what an operator answers comes to t
  result_value : (t p : ℕ) (l : List ℕ) (vs old : Vars) (w : World) (q : Result ℕ Stop) → fr.free ≤ t → p ≤ w.peak → Agrees fr l old → Kept fr.free t vs old → Runs (Value fr t vs) (or_halt q l w) (or_stop t old (low p w) q)
  result_value t p l vs old w q nt le g k = puts_value fr good r room t p l vs old w _ _ nt g k (result_puts t p l old w q le)

  pub binary_does : (o : BinOp) (g : Bool) (a b : Part ℕ) (c d : Codes) → D a c → D b d → D (λ l w. then_with (a l w) (λ x m u. then_with (b m u) (λ y. or_halt (operate o g x y)))) (λ t. c t ++ (d (t + 1) ++ piece.operation o g t t (t + 1) ∷ []))
  binary_does o g a b c d h k = record {
    by = λ t nt l vs w p le q.
        two fr good r room t vs (Value fr t vs) l w p a b c d (piece.operation o g t t (t + 1) ∷ []) (λ x y. or_halt (operate o g x y)) nt le q h k
        (λ l new w p le q kp.
        subst (λ z. Runs (Value fr t vs) (or_halt (operate o g (new t) (new (t + 1))) l w) z) (sym (one_is fr good r room (piece.operation o g t t (t + 1)) new (low p w) ∙ operation_is r o g t t (t + 1) new (low p w)))
        (result_value t p l vs new w (operate o g (new t) (new (t + 1))) nt le q kp));
  }

  pub sum_does : (size : ℕ) (a b : Part ℕ) (c d : Codes) → D a c → D b d → D (λ l w. then_with (a l w) (λ x m u. then_with (b m u) (λ y. constant (pointer_sum size x y)))) (λ t. c t ++ (d (t + 1) ++ piece.moved_by size t))
  sum_does size a b c d h k = record {
    by = λ t nt l vs w p le q.
        two fr good r room t vs (Value fr t vs) l w p a b c d (piece.moved_by size t) (λ x y. constant (pointer_sum size x y)) nt le q h k
        (λ l new w p le q kp. sets_runs fr good t (t + 1) (pointer_sum size (new t) (new (t + 1))) p l vs new w _ nt (omega arith) le q kp (moved_sets r size t new (low p w)));
  }

  pub difference_does : (size : ℕ) (a b : Part ℕ) (c d : Codes) → D a c → D b d → D (λ l w. then_with (a l w) (λ x m u. then_with (b m u) (λ y. or_halt (operate bin.Div true (ops.subtract x y) size)))) (λ t. c t ++ (d (t + 1) ++ piece.apart size t))
  difference_does size a b c d h k = record {
    by = λ t nt l vs w p le q.
        two fr good r room t vs (Value fr t vs) l w p a b c d (piece.apart size t) (λ x y. or_halt (operate bin.Div true (ops.subtract x y) size)) nt le q h k
        (λ l new w p le q kp.
        let x = ops.subtract (new t) (new (t + 1)) in
        let one = put new t x in
        let last = put one (t + 1) size in
        let v = put_value fr good r room t x l vs new nt q kp in
        let e : last t ≡ x = put_other one (t + 1) size t (inl (omega arith)) ∙ put_same new t x in
        subst (λ z. Runs (Value fr t vs) (or_halt (operate bin.Div true x size) l w) z)
        (sym (next r (mid.Set t op.Sub t (t + 1)) (mid.Const (t + 1) size ∷ mid.Set t op.DivS t (t + 1) ∷ []) new one (low p w) (low p w) (run_Set r t op.Sub t (t + 1) new (low p w))
        ∙ next r (mid.Const (t + 1) size) (mid.Set t op.DivS t (t + 1) ∷ []) one last (low p w) (low p w) (run_Const r (t + 1) size one (low p w))
        ∙ one_is fr good r room (mid.Set t op.DivS t (t + 1)) last (low p w) ∙ run_Set r t op.DivS t (t + 1) last (low p w)
        ∙ ap (λ z. or_stop t last (low p w) (ops.divide_signed z (last (t + 1)))) e ∙ ap (λ z. or_stop t last (low p w) (ops.divide_signed x z)) (put_same one (t + 1) size)))
        (result_value t p l vs last w (operate bin.Div true x size) nt le
        (record { many = v.locals.many; at = λ i u h. let lt = good.below i u h in put_other one (t + 1) size u (inl (omega arith)) ∙ v.locals.at i u h })
        (record { at = λ i a b. put_other one (t + 1) size i (inl (omega arith)) ∙ v.kept.at i a b })));
  }

  -- ---- what is evaluated where it is needed

  pub choose_does : (a b e : Part ℕ) (c d f : Codes) → D a c → D b d → D e f → D (λ l w. then_with (a l w) (λ x m u. chosen x b e m u)) (λ t. c t ++ piece.choose t (d t) (f t) ∷ [])
  choose_does a b e c d f h k i = record {
    by = λ t nt l vs w p le g.
        more fr good r room t vs (Value fr t vs) l w p a (c t) (piece.choose t (d t) (f t) ∷ []) (λ x m u. chosen x b e m u) (h.by t nt l vs w p le g)
        (λ l new w p le g kp.
        subst (λ o. Runs (Value fr t vs) (chosen (new t) b e l w) o) (sym (one_is fr good r room (piece.choose t (d t) (f t)) new (low p w) ∙ choose_is r t (d t) (f t) new (low p w)))
        (chosen_runs (Value fr t vs) (new t) b e l w _ _ (keeps fr t vs new _ _ kp (k.by t nt l new w p le g)) (keeps fr t vs new _ _ kp (i.by t nt l new w p le g))));
  }

  pub and_does : (a b : Part ℕ) (c d : Codes) → D a c → D b d → D (λ l w. then_with (a l w) (λ x m u. chosen x (λ n v. then_with (b n v) (λ y. constant (truth (not (eqb y 0))))) (constant 0) m u)) (λ t. c t ++ piece.choose t (d t ++ piece.truth t) (mid.Const t 0 ∷ []) ∷ [])
  and_does a b c d h k = choose_does a _ _ c (λ t. d t ++ piece.truth t) (λ t. mid.Const t 0 ∷ []) h (truth_does b d k) (const_does fr good r room 0)

  pub or_does : (a b : Part ℕ) (c d : Codes) → D a c → D b d → D (λ l w. then_with (a l w) (λ x m u. chosen x (constant 1) (λ n v. then_with (b n v) (λ y. constant (truth (not (eqb y 0))))) m u)) (λ t. c t ++ piece.choose t (mid.Const t 1 ∷ []) (d t ++ piece.truth t) ∷ [])
  or_does a b c d h k = choose_does a _ _ c (λ t. mid.Const t 1 ∷ []) (λ t. d t ++ piece.truth t) h (const_does fr good r room 1) (truth_does b d k)

  pub comma_does : (a b : Part ℕ) (c d : Codes) → D a c → D b d → D (λ l w. then_with (a l w) (λ x m u. b m u)) (λ t. c t ++ d t)
  comma_does a b c d h k = record {
    by = λ t nt l vs w p le g.
        more fr good r room t vs (Value fr t vs) l w p a (c t) (d t) (λ x m u. b m u) (h.by t nt l vs w p le g)
        (λ l new w p le g kp. keeps fr t vs new _ _ kp (k.by t nt l new w p le g));
  }

  -- ---- the range check

  pub range_does : (a b e : Part ℕ) (c d f : Codes) → D a c → D b d → D e f
      → D (λ l w. then_with (a l w) (λ x m u. then_with (b m u) (λ y n v. then_with (e n v) (λ z. constant (checked_range x y z))))) (λ t. c t ++ (d (t + 1) ++ (f (t + 2) ++ mid.Range t t (t + 1) (t + 2) ∷ [])))
  range_does a b e c d f h k i = record {
    by = λ t nt l vs w p le g.
        let tail = mid.Range t t (t + 1) (t + 2) ∷ [] in
        more fr good r room t vs (Value fr t vs) l w p a (c t) (d (t + 1) ++ (f (t + 2) ++ tail)) _ (h.by t nt l vs w p le g)
        (λ l one w p le g k1. more fr good r room (t + 1) one (Value fr t vs) l w p b (d (t + 1)) (f (t + 2) ++ tail) _ (k.by (t + 1) (omega arith) l one w p le g)
        (λ l two w p le g k2. more fr good r room (t + 2) two (Value fr t vs) l w p e (f (t + 2)) tail _ (i.by (t + 2) (omega arith) l two w p le g)
        (λ l new w p le g k3.
        let kept = kept_on fr.free t (t + 2) vs two new (omega arith) (kept_on fr.free t (t + 1) vs one two (omega arith) k1 k2) k3 in
        let x = checked_range (new t) (new (t + 1)) (new (t + 2)) in
        let first : new t ≡ one t = k3.at t nt (omega arith) ∙ k2.at t nt (omega arith) in
        let second : new (t + 1) ≡ two (t + 1) = k3.at (t + 1) (omega arith) (omega arith) in
        subst (λ o. Runs (Value fr t vs) (Has (checked_range (one t) (two (t + 1)) (new (t + 2))) l w) o) (sym (one_is fr good r room (mid.Range t t (t + 1) (t + 2)) new (low p w) ∙ run_Range r t t (t + 1) (t + 2) new (low p w)))
        (subst (λ y. Runs (Value fr t vs) (Has (checked_range y (two (t + 1)) (new (t + 2))) l w) (Next (put new t x) (low p w))) first
        (subst (λ y. Runs (Value fr t vs) (Has (checked_range (new t) y (new (t + 2))) l w) (Next (put new t x) (low p w))) second
        (left (Value fr t vs) x l (put new t x) w p le (put_value fr good r room t x l vs new nt g kept)))))));
  }

  pub caller_does : (n : ℕ) → r.caller ≡ n → D (λ l w. Has n l w) (λ t. mid.Caller t ∷ [])
  caller_does n e = record {
    by = λ t nt l vs w p le g.
        subst (λ o. Runs (Value fr t vs) (Has n l w) o) (sym (one_is fr good r room (mid.Caller t) vs (low p w) ∙ run_Caller r t vs (low p w) ∙ ap (λ x. Next (put vs t x) (low p w)) e))
        (left (Value fr t vs) n l (put vs t n) w p le (put_value fr good r room t n l vs vs nt g (kept_self fr.free t vs)));
  }

  -- ---- arguments and calls

  pub data AllDo (s : Around) : List Sense → List Operand → Type 0 where
    none : AllDo s [] []
    one : {e : Sense} {c : Operand} {es : List Sense} {cs : List Operand} → D (e.value s) c.code → AllDo s es cs → AllDo s (e ∷ es) (c ∷ cs)

  all_do : (s : Around) (es : List Sense) (cs : List Operand) → AllDo s es cs → (first t k n : ℕ) (done : List ℕ) → t ≡ first + k → n ≡ k + length cs → fr.free ≤ first → (l : List ℕ) (vs old : Vars) (w : World) (p : ℕ) → p ≤ w.peak → Agrees fr l old → Kept fr.free first vs old → map old (places first k) ≡ done
      → Runs (Args fr first n vs) (values_from done es s l w) (run_all r (code.all_codes t cs) old (low p w))
  all_do s [] [] none first t k n done et en nt l vs old w p le g kp h =
      let e : k ≡ n = omega (arith, en) in
      left (Args fr first n vs) done l old w p le (record { holds = ap (λ z. map old (places first z)) (sym e) ∙ h; locals = g; kept = kp })
  all_do s [] (c ∷ cs) x first t k n done et en nt l vs old w p le g kp h = elim x [ ]
  all_do s (e ∷ es) [] x first t k n done et en nt l vs old w p le g kp h = elim x [ ]
  all_do s (e ∷ es) (c ∷ cs) (one d ds) first t k n done et en nt l vs old w p le g kp h =
      more fr good r room t old (Args fr first n vs) l w p (e.value s) (c.code t) (code.all_codes (t + 1) cs) (λ x m u. values_from (done ++ x ∷ []) es s m u) (d.by t (omega (arith, et)) l old w p le g)
      (λ l new w p le g kq.
      all_do s es cs ds first (t + 1) (k + 1) n (done ++ new t ∷ []) (omega (arith, et)) (omega (arith, en)) nt l vs new w p le g (kept_on fr.free first t vs old new (omega (arith, et)) kp kq)
      (places_more new first k
      ∙ ap (λ z. map new (places first k) ++ new z ∷ []) (sym et)
      ∙ ap (λ z. z ++ new t ∷ []) (places_same old new first k (λ i a b. kq.at i (omega (arith, nt, a)) (omega (arith, et, b))) ∙ h)))

  -- what a call gives comes to t
  back_value : (t : ℕ) (l : List ℕ) (vs old : Vars) (a b : Outcome) → fr.free ≤ t → Agrees fr l old → Kept fr.free t vs old → Alike a b → Runs (Value fr t vs) (called a l) (from_call t old b)
  back_value t l vs old (Gave x w) b nt g k h =
      subst (λ o. Runs (Value fr t vs) (Has x l w) (from_call t old o)) (sym h.by.2) (left (Value fr t vs) x l (put old t x) w h.by.0 h.by.1 (put_value fr good r room t x l vs old nt g k))
  back_value t l vs old (Over e w) b nt g k h = subst (λ o. Runs (Value fr t vs) (Ends e w) (from_call t old o)) (sym h.by.2) (record { by = halts e w h.by.0 h.by.1 })

  pub call_does : (s : Around) (n : ℕ) (es : List Sense) (cs : List Operand) → AllDo s es cs → ((xs : List ℕ) (w : World) (p : ℕ) → p ≤ w.peak → Alike (s.call n xs w) (r.calls n xs (low p w)))
      → D (λ l w. then_with (values_from [] es s l w) (λ xs m u. called (s.call n xs u) m)) (λ t. code.all_codes t cs ++ mid.Call t n (places t (length cs)) ∷ [])
  call_does s n es cs ds like = record {
    by = λ t nt l vs w p le g.
        let ps = places t (length cs) in
        subst (λ o. Runs (Value fr t vs) (then_with (values_from [] es s l w) (λ xs m u. called (s.call n xs u) m)) o) (sym (run_all_append r (code.all_codes t cs) (mid.Call t n ps ∷ []) vs (low p w)))
        (then_runs (Args fr t (length cs) vs) (Value fr t vs) _ _ _ (run_all r (mid.Call t n ps ∷ [])) (all_do s es cs ds t t 0 (length cs) [] (omega arith) (omega arith) nt l vs vs w p le g (kept_self fr.free t vs) refl)
        (λ xs l new w p le a.
        subst (λ o. Runs (Value fr t vs) (called (s.call n xs w) l) o) (sym (one_is fr good r room (mid.Call t n ps) new (low p w) ∙ run_Call r t n ps new (low p w) ∙ ap (λ z. from_call t new (r.calls n z (low p w))) a.holds))
        (back_value t l vs new _ _ nt a.locals a.kept (like xs w p le))));
  }

  -- what Non-secure code gives, converted
  outside_value : (y : CType) (t : ℕ) (l : List ℕ) (vs old : Vars) (a b : Outcome) → fr.free ≤ t → Agrees fr l old → Kept fr.free t vs old → Alike a b → Runs (Value fr t vs) (then_with (called a l) (λ x. constant (converted y x))) (from_outside (piece.kind_of y) t old b)
  outside_value y t l vs old (Gave x w) b nt g k h =
      subst (λ o. Runs (Value fr t vs) (Has (converted y x) l w) (from_outside (piece.kind_of y) t old o)) (sym h.by.2)
      (subst (λ z. Runs (Value fr t vs) (Has z l w) (Next (put old t (narrowed (piece.kind_of y) x)) (low h.by.0 w))) (kind_is (arithmetic y) x)
      (left (Value fr t vs) (narrowed (piece.kind_of y) x) l (put old t (narrowed (piece.kind_of y) x)) w h.by.0 h.by.1 (put_value fr good r room t (narrowed (piece.kind_of y) x) l vs old nt g k)))
  outside_value y t l vs old (Over e w) b nt g k h = subst (λ o. Runs (Value fr t vs) (Ends e w) (from_outside (piece.kind_of y) t old o)) (sym h.by.2) (record { by = halts e w h.by.0 h.by.1 })

  ns_value : (s : Around) (y : CType) (t x p : ℕ) (xs l : List ℕ) (vs old : Vars) (w : World) → Outside s r → fr.free ≤ t → p ≤ w.peak → Agrees fr l old → Kept fr.free t vs old
      → Runs (Value fr t vs) (ns_called y (aligned 2 x) xs s l w) (after_call r.after (piece.kind_of y) t old (low p w) (ns_call x xs (low p w)))
  unfolding ns_call
  ns_value s y t x p xs l vs old w like nt le g k = test (in_row 0 (aligned 2 x))
    where
      test : (b : Bool) → Runs (Value fr t vs) (cond b (then_with (called (s.ns_call (aligned 2 x) xs w) l) (λ z. constant (converted y z))) (halt CallTarget w)) (after_call r.after (piece.kind_of y) t old (low p w) (cond b (Ok (low p (emit (c.Called (aligned 2 x) xs) (mark_at (aligned 2 x) eight_zeros w) w))) (Err CallTarget)))
      test true = outside_value y t l vs old _ _ nt g k (like (aligned 2 x) xs w p le)
      test false = stops (Value fr t vs) CallTarget w p le

  pub ns_call_does : (s : Around) (y : CType) (a : Part ℕ) (d : Codes) (es : List Sense) (cs : List Operand) → Outside s r → D a d → AllDo s es cs
      → D (λ l w. then_with (a l w) (λ x m u. then_with (values_from [] es s m u) (λ xs n v. ns_called y (aligned 2 x) xs s n v))) (λ t. d t ++ (code.all_codes (t + 1) cs ++ mid.NsCall t t (places (t + 1) (length cs)) (piece.kind_of y) ∷ []))
  ns_call_does s y a d es cs like h ds = record {
    by = λ t nt l vs w p le g.
        let ps = places (t + 1) (length cs) in
        let last = mid.NsCall t t ps (piece.kind_of y) ∷ [] in
        more fr good r room t vs (Value fr t vs) l w p a (d t) (code.all_codes (t + 1) cs ++ last) _ (h.by t nt l vs w p le g)
        (λ l one w p le g k1.
        subst (λ o. Runs (Value fr t vs) (then_with (values_from [] es s l w) (λ xs n v. ns_called y (aligned 2 (one t)) xs s n v)) o) (sym (run_all_append r (code.all_codes (t + 1) cs) last one (low p w)))
        (then_runs (Args fr (t + 1) (length cs) one) (Value fr t vs) _ _ _ (run_all r last) (all_do s es cs ds (t + 1) (t + 1) 0 (length cs) [] (omega arith) (omega arith) (omega arith) l one one w p le g (kept_self fr.free (t + 1) one) refl)
        (λ xs l new w p le z.
        subst (λ o. Runs (Value fr t vs) (ns_called y (aligned 2 (one t)) xs s l w) o)
        (sym (one_is fr good r room (mid.NsCall t t ps (piece.kind_of y)) new (low p w) ∙ run_NsCall r t t ps (piece.kind_of y) new (low p w)
        ∙ ap (λ i. after_call r.after (piece.kind_of y) t new (low p w) (ns_call (new t) i (low p w))) z.holds
        ∙ ap (λ i. after_call r.after (piece.kind_of y) t new (low p w) (ns_call i xs (low p w))) (z.kept.at t nt (omega arith))))
        (ns_value s y t (one t) p xs l vs new w like nt le z.locals (kept_on fr.free t (t + 1) vs one new (omega arith) k1 z.kept)))));
  }
