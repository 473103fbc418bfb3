-- The same of statements and of functions.
use Rattle.std.proofs.Common.{◌≡◌, ℕ, List, [], ◌∷◌, map, ap, ap₂, sym, ◌∙◌, subst, refl, Option, None, Some}
use Rattle.c_tree.specs.declared.stmt.Stmt.{Stmt, roll-Stmt}
use Rattle.c_tree.specs.declared.stmt.Part.{Part, roll-Part}
use Rattle.c_tree.specs.declared.stmt.Stmt.TheVariants as stmt
use Rattle.c_tree.specs.declared.stmt.Part.TheVariants as part
use Rattle.c_tree.specs.declared.stmt.Part.TheOpen as s
use Rattle.c_tree.specs.declared.stmt.Part.TheOpen.{Stmt-F, Part-F}
use Rattle.c_tree.specs.declared.stmt.Part.TheFolds.{map-Stmt, map-Part, fold-Stmt, fold-Part, fold-roll-Stmt, fold-roll-Part, ind-Stmt}
use Rattle.join_laws.specs.Renumber.{renumbered, renumbered_items, renumbered_or, renumbered_stmt, renumbered_part, stmt_step, part_step}

-- one layer with new numbers in its expressions
abbrev pub stmt_layer : {A B : Type 0} → List (Option ℕ) → Stmt-F A B → Stmt-F A B
stmt_layer ns s.Empty = s.Empty
stmt_layer ns (s.Expr e) = s.Expr (renumbered ns e)
stmt_layer ns (s.Declare local items) = s.Declare local (renumbered_items ns items)
stmt_layer ns (s.Block list) = s.Block list
stmt_layer ns (s.If test on off) = s.If (renumbered ns test) on off
stmt_layer ns (s.While test body) = s.While (renumbered ns test) body
stmt_layer ns (s.DoWhile body test) = s.DoWhile body (renumbered ns test)
stmt_layer ns (s.For first test next body) = s.For first (renumbered_or ns test) (renumbered_or ns next) body
stmt_layer ns (s.Switch value parts) = s.Switch (renumbered ns value) parts
stmt_layer ns s.Break = s.Break
stmt_layer ns s.Continue = s.Continue
stmt_layer ns (s.Return value) = s.Return (renumbered_or ns value)

module _ {A B : Type 0} (p : Part-F A B → A) (s1 s2 : Stmt-F A B → B) (ns : List (Option ℕ)) (steps : (x : Stmt-F A B) → s2 (stmt_layer ns x) ≡ s1 x) where
  abbrev ren : Stmt → Stmt
  ren = renumbered_stmt ns

  abbrev ren_part : Part → Part
  ren_part = renumbered_part ns

  abbrev one : Stmt → B
  one = fold-Stmt A B p s1

  abbrev two : Stmt → B
  two = fold-Stmt A B p s2

  abbrev one_part : Part → A
  one_part = fold-Part A B p s1

  abbrev two_part : Part → A
  two_part = fold-Part A B p s2

  abbrev PartKept : Part → Type 0
  PartKept x = two_part (ren_part x) ≡ one_part x

  abbrev Kept : Stmt → Type 0
  Kept x = two (ren x) ≡ one x

  abbrev AKept : Type 0
  AKept = (x : Stmt) × Kept x

  abbrev APartKept : Type 0
  APartKept = (x : Part) × PartKept x

  abbrev firsts : List AKept → List Stmt
  firsts xs = map (λ x. x.0) xs

  abbrev part_firsts : List APartKept → List Part
  part_firsts xs = map (λ x. x.0) xs

  all : (xs : List AKept) → map two (map ren (firsts xs)) ≡ map one (firsts xs)
  all [] = refl
  all (x ∷ xs) = ap₂ (λ y ys. y ∷ ys) x.1 (all xs)

  all_parts : (xs : List APartKept) → map two_part (map ren_part (part_firsts xs)) ≡ map one_part (part_firsts xs)
  all_parts [] = refl
  all_parts (x ∷ xs) = ap₂ (λ y ys. y ∷ ys) x.1 (all_parts xs)

  rolled : (x : Stmt-F Part Stmt) → one (roll-Stmt x) ≡ s1 (map-Stmt Part Stmt A B one_part one x)
  rolled = fold-roll-Stmt A B p s1

  at : (x z : Stmt-F Part Stmt) → stmt_step ns (map-Stmt Part Stmt Part Stmt ren_part ren x) ≡ roll-Stmt z → two (ren (roll-Stmt x)) ≡ s2 (map-Stmt Part Stmt A B two_part two z)
  at x z e = ap two (fold-roll-Stmt Part Stmt part_step (stmt_step ns) x ∙ e) ∙ fold-roll-Stmt A B p s2 z

  at_part : (x z : Part-F Part Stmt) → part_step (map-Part Part Stmt Part Stmt ren_part ren x) ≡ roll-Part z → two_part (ren_part (roll-Part x)) ≡ p (map-Part Part Stmt A B two_part two z)
  at_part x z e = ap two_part (fold-roll-Part Part Stmt part_step (stmt_step ns) x ∙ e) ∙ fold-roll-Part A B p s2 z

  rolled_part : (x : Part-F Part Stmt) → one_part (roll-Part x) ≡ p (map-Part Part Stmt A B one_part one x)
  rolled_part = fold-roll-Part A B p s1

  stmt_law : (y : Stmt-F APartKept AKept) → Kept (roll-Stmt (map-Stmt APartKept AKept Part Stmt (λ x. x.0) (λ x. x.0) y))
  stmt_law s.Empty = at s.Empty s.Empty (sym stmt.rolls-Empty) ∙ steps s.Empty ∙ sym (rolled s.Empty)
  stmt_law (s.Expr e) = at (s.Expr e) (s.Expr (renumbered ns e)) (sym (stmt.rolls-Expr (renumbered ns e))) ∙ steps (s.Expr e) ∙ sym (rolled (s.Expr e))
  stmt_law (s.Declare local items) = at (s.Declare local items) (s.Declare local (renumbered_items ns items)) (sym (stmt.rolls-Declare local (renumbered_items ns items))) ∙ steps (s.Declare local items) ∙ sym (rolled (s.Declare local items))
  stmt_law (s.Block xs) = at (s.Block (firsts xs)) (s.Block (map ren (firsts xs))) (sym (stmt.rolls-Block (map ren (firsts xs)))) ∙ ap (λ v. s2 (s.Block v)) (all xs) ∙ steps (s.Block (map one (firsts xs))) ∙ sym (rolled (s.Block (firsts xs)))
  stmt_law (s.If t a None) = at (s.If t a.0 None) (s.If (renumbered ns t) (ren a.0) None) (sym (stmt.rolls-If (renumbered ns t) (ren a.0) None)) ∙ ap (λ v. s2 (s.If (renumbered ns t) v None)) a.1 ∙ steps (s.If t (one a.0) None) ∙ sym (rolled (s.If t a.0 None))
  stmt_law (s.If t a (Some b)) = at (s.If t a.0 (Some b.0)) (s.If (renumbered ns t) (ren a.0) (Some (ren b.0))) (sym (stmt.rolls-If (renumbered ns t) (ren a.0) (Some (ren b.0)))) ∙ ap (λ v. s2 (s.If (renumbered ns t) v (Some (two (ren b.0))))) a.1 ∙ ap (λ v. s2 (s.If (renumbered ns t) (one a.0) (Some v))) b.1 ∙ steps (s.If t (one a.0) (Some (one b.0))) ∙ sym (rolled (s.If t a.0 (Some b.0)))
  stmt_law (s.While t a) = at (s.While t a.0) (s.While (renumbered ns t) (ren a.0)) (sym (stmt.rolls-While (renumbered ns t) (ren a.0))) ∙ ap (λ v. s2 (s.While (renumbered ns t) v)) a.1 ∙ steps (s.While t (one a.0)) ∙ sym (rolled (s.While t a.0))
  stmt_law (s.DoWhile a t) = at (s.DoWhile a.0 t) (s.DoWhile (ren a.0) (renumbered ns t)) (sym (stmt.rolls-DoWhile (ren a.0) (renumbered ns t))) ∙ ap (λ v. s2 (s.DoWhile v (renumbered ns t))) a.1 ∙ steps (s.DoWhile (one a.0) t) ∙ sym (rolled (s.DoWhile a.0 t))
  stmt_law (s.For xs t n a) = at (s.For (firsts xs) t n a.0) (s.For (map ren (firsts xs)) (renumbered_or ns t) (renumbered_or ns n) (ren a.0)) (sym (stmt.rolls-For (map ren (firsts xs)) (renumbered_or ns t) (renumbered_or ns n) (ren a.0))) ∙ ap (λ v. s2 (s.For v (renumbered_or ns t) (renumbered_or ns n) (two (ren a.0)))) (all xs) ∙ ap (λ v. s2 (s.For (map one (firsts xs)) (renumbered_or ns t) (renumbered_or ns n) v)) a.1 ∙ steps (s.For (map one (firsts xs)) t n (one a.0)) ∙ sym (rolled (s.For (firsts xs) t n a.0))
  stmt_law (s.Switch e xs) = at (s.Switch e (part_firsts xs)) (s.Switch (renumbered ns e) (map ren_part (part_firsts xs))) (sym (stmt.rolls-Switch (renumbered ns e) (map ren_part (part_firsts xs)))) ∙ ap (λ v. s2 (s.Switch (renumbered ns e) v)) (all_parts xs) ∙ steps (s.Switch e (map one_part (part_firsts xs))) ∙ sym (rolled (s.Switch e (part_firsts xs)))
  stmt_law s.Break = at s.Break s.Break (sym stmt.rolls-Break) ∙ steps s.Break ∙ sym (rolled s.Break)
  stmt_law s.Continue = at s.Continue s.Continue (sym stmt.rolls-Continue) ∙ steps s.Continue ∙ sym (rolled s.Continue)
  stmt_law (s.Return e) = at (s.Return e) (s.Return (renumbered_or ns e)) (sym (stmt.rolls-Return (renumbered_or ns e))) ∙ steps (s.Return e) ∙ sym (rolled (s.Return e))

  part_law : (y : Part-F APartKept AKept) → PartKept (roll-Part (map-Part APartKept AKept Part Stmt (λ x. x.0) (λ x. x.0) y))
  part_law (s.Case v) = at_part (s.Case v) (s.Case v) (sym (part.rolls-Case v)) ∙ sym (rolled_part (s.Case v))
  part_law s.Default = at_part s.Default s.Default (sym part.rolls-Default) ∙ sym (rolled_part s.Default)
  part_law (s.Stmt a) = at_part (s.Stmt a.0) (s.Stmt (ren a.0)) (sym (part.rolls-Stmt (ren a.0))) ∙ ap (λ v. p (s.Stmt v)) a.1 ∙ sym (rolled_part (s.Stmt a.0))

  pub stmt_keeps : (x : Stmt) → two (ren x) ≡ one x
  stmt_keeps = ind-Stmt PartKept Kept
      (λ x y is. subst (λ z. PartKept (roll-Part z)) is (part_law y))
      (λ x y is. subst (λ z. Kept (roll-Stmt z)) is (stmt_law y))
