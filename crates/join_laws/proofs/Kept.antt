-- A function with new numbers has as many nodes and slots, and as many bytes of placed locals.
use Rattle.std.proofs.Common.{◌≡◌, ℕ, ◌+◌, List, [], ◌∷◌, ◌++◌, map, sum, length, max, ap, ap₂, refl, Option, None, Some}
use Rattle.std.specs.List.{flat_map}
use Rattle.c_tree.specs.declared.expr.Expr.{Expr}
use Rattle.c_tree.specs.declared.expr.ExprKind.TheOpen.{ExprKind-F, Global, Call}
use Rattle.c_tree.specs.declared.program.TFunction.{TFunction}
use Rattle.c_tree.specs.declared.stmt.Item.{Item}
use Rattle.c_tree.specs.declared.stmt.Stmt.{Stmt}
use Rattle.c_tree.specs.declared.stmt.Part.TheOpen as s
use Rattle.c_tree.specs.declared.stmt.Part.TheOpen.{Stmt-F, Part-F}
use Rattle.c_tree.specs.Nodes as n
use Rattle.c_tree.specs.Depth as d
use Rattle.c_tree.specs.Placed as t
use Rattle.c_tree.specs.Slots.{placed_bytes, placed_from, slots, unplaced_from}
use Rattle.join_laws.specs.Renumber.{renumbered, renumbered_function, renumbered_item, renumbered_items, renumbered_or, renumbered_stmt}
use Rattle.join_laws.proofs.Keeps.{keeps, layer}
use Rattle.join_laws.proofs.StmtKeeps.{stmt_keeps, stmt_layer}

pub map_keeps : {X Y : Type 0} (f : X → Y) (g : X → X) → ((x : X) → f (g x) ≡ f x) → (xs : List X) → map f (map g xs) ≡ map f xs
map_keeps f g h [] = refl
map_keeps f g h (x ∷ xs) = ap₂ (λ y ys. y ∷ ys) (h x) (map_keeps f g h xs)

pub flat_keeps : {X Y : Type 0} (f : X → List Y) (g : X → X) → ((x : X) → f (g x) ≡ f x) → (xs : List X) → flat_map f (map g xs) ≡ flat_map f xs
flat_keeps f g h [] = refl
flat_keeps f g h (x ∷ xs) = ap₂ (λ y ys. y ++ ys) (h x) (flat_keeps f g h xs)

module _ (ns : List (Option ℕ)) where
  node_steps : (x : ExprKind-F ℕ ℕ) → n.kind_step (layer ns x) ≡ n.kind_step x
  node_steps (Global k) = refl
  node_steps (Call f args) = refl
  node_steps _ = refl

  pub nodes_kept : (e : Expr) → n.nodes (renumbered ns e) ≡ n.nodes e
  nodes_kept = keeps n.kind_step n.kind_step n.expr_step ns node_steps

  nodes_or_kept : (e : Option Expr) → n.nodes_or (renumbered_or ns e) ≡ n.nodes_or e
  nodes_or_kept None = refl
  nodes_or_kept (Some e) = nodes_kept e

  items_nodes_kept : (items : List Item) → n.items_nodes (renumbered_items ns items) ≡ n.items_nodes items
  items_nodes_kept items = ap sum (map_keeps n.item_nodes (renumbered_item ns) (λ i. ap (λ k. k + 1) (nodes_kept i.value)) items)

  node_stmt_steps : (x : Stmt-F ℕ ℕ) → n.stmt_step (stmt_layer ns x) ≡ n.stmt_step x
  node_stmt_steps s.Empty = refl
  node_stmt_steps (s.Expr e) = ap (λ k. k + 1) (nodes_kept e)
  node_stmt_steps (s.Declare local items) = ap (λ k. k + 1) (items_nodes_kept items)
  node_stmt_steps (s.Block list) = refl
  node_stmt_steps (s.If test on off) = ap (λ k. k + on + n.or_zero off + 1) (nodes_kept test)
  node_stmt_steps (s.While test body) = ap (λ k. k + body + 1) (nodes_kept test)
  node_stmt_steps (s.DoWhile body test) = ap (λ k. body + k + 1) (nodes_kept test)
  node_stmt_steps (s.For first test next body) = ap₂ (λ j k. sum first + j + k + body + 1) (nodes_or_kept test) (nodes_or_kept next)
  node_stmt_steps (s.Switch value parts) = ap (λ k. k + sum parts + 1) (nodes_kept value)
  node_stmt_steps s.Break = refl
  node_stmt_steps s.Continue = refl
  node_stmt_steps (s.Return value) = ap (λ k. k + 1) (nodes_or_kept value)

  pub stmt_nodes_kept : (x : Stmt) → n.stmt_nodes (renumbered_stmt ns x) ≡ n.stmt_nodes x
  stmt_nodes_kept = stmt_keeps n.part_step n.stmt_step n.stmt_step ns node_stmt_steps

  depth_steps : (x : ExprKind-F ℕ ℕ) → d.kind_step (layer ns x) ≡ d.kind_step x
  depth_steps (Global k) = refl
  depth_steps (Call f args) = refl
  depth_steps _ = refl

  pub depth_kept : (e : Expr) → d.depth (renumbered ns e) ≡ d.depth e
  depth_kept = keeps d.kind_step d.kind_step d.expr_step ns depth_steps

  depth_or_kept : (e : Option Expr) → d.depth_or (renumbered_or ns e) ≡ d.depth_or e
  depth_or_kept None = refl
  depth_or_kept (Some e) = depth_kept e

  items_depth_kept : (items : List Item) → d.items_depth (renumbered_items ns items) ≡ d.items_depth items
  items_depth_kept items = ap d.greatest (map_keeps d.item_depth (renumbered_item ns) (λ i. ap (λ k. d.held 0 (1 ∷ k ∷ [])) (depth_kept i.value)) items)

  depth_stmt_steps : (x : Stmt-F ℕ ℕ) → d.stmt_step (stmt_layer ns x) ≡ d.stmt_step x
  depth_stmt_steps s.Empty = refl
  depth_stmt_steps (s.Expr e) = depth_kept e
  depth_stmt_steps (s.Declare local items) = items_depth_kept items
  depth_stmt_steps (s.Block list) = refl
  depth_stmt_steps (s.If test on off) = ap (λ k. max (max k on) (n.or_zero off)) (depth_kept test)
  depth_stmt_steps (s.While test body) = ap (λ k. max k body) (depth_kept test)
  depth_stmt_steps (s.DoWhile body test) = ap (λ k. max body k) (depth_kept test)
  depth_stmt_steps (s.For first test next body) = ap₂ (λ j k. max (max (max (d.greatest first) j) k) body) (depth_or_kept test) (depth_or_kept next)
  depth_stmt_steps (s.Switch value parts) = ap (λ k. max k (d.greatest parts)) (depth_kept value)
  depth_stmt_steps s.Break = refl
  depth_stmt_steps s.Continue = refl
  depth_stmt_steps (s.Return value) = depth_or_kept value

  pub stmt_depth_kept : (x : Stmt) → d.stmt_depth (renumbered_stmt ns x) ≡ d.stmt_depth x
  stmt_depth_kept = stmt_keeps d.part_step d.stmt_step d.stmt_step ns depth_stmt_steps

  place_steps : (x : ExprKind-F t.Uses t.Uses) → t.kind_step (layer ns x) ≡ t.kind_step x
  place_steps (Global k) = refl
  place_steps (Call f args) = refl
  place_steps _ = refl

  taken_kept : (e : Expr) → t.taken (renumbered ns e) ≡ t.taken e
  taken_kept e = ap (λ u. u.taken) (keeps t.kind_step t.kind_step t.expr_step ns place_steps e)

  taken_or_kept : (e : Option Expr) → t.taken_or (renumbered_or ns e) ≡ t.taken_or e
  taken_or_kept None = refl
  taken_or_kept (Some e) = taken_kept e

  items_taken_kept : (items : List Item) → t.items_taken (renumbered_items ns items) ≡ t.items_taken items
  items_taken_kept items = flat_keeps (λ i. t.taken i.value) (renumbered_item ns) (λ i. taken_kept i.value) items

  taken_stmt_steps : (x : Stmt-F (List ℕ) (List ℕ)) → t.stmt_step (stmt_layer ns x) ≡ t.stmt_step x
  taken_stmt_steps s.Empty = refl
  taken_stmt_steps (s.Expr e) = taken_kept e
  taken_stmt_steps (s.Declare local items) = items_taken_kept items
  taken_stmt_steps (s.Block list) = refl
  taken_stmt_steps (s.If test on off) = ap (λ k. (k ++ on) ++ t.or_none off) (taken_kept test)
  taken_stmt_steps (s.While test body) = ap (λ k. k ++ body) (taken_kept test)
  taken_stmt_steps (s.DoWhile body test) = ap (λ k. body ++ k) (taken_kept test)
  taken_stmt_steps (s.For first test next body) = ap₂ (λ j k. ((flat_map (λ ks. ks) first ++ j) ++ k) ++ body) (taken_or_kept test) (taken_or_kept next)
  taken_stmt_steps (s.Switch value parts) = ap (λ k. k ++ flat_map (λ ks. ks) parts) (taken_kept value)
  taken_stmt_steps s.Break = refl
  taken_stmt_steps s.Continue = refl
  taken_stmt_steps (s.Return value) = taken_or_kept value

  stmt_taken_kept : (x : Stmt) → t.stmt_taken (renumbered_stmt ns x) ≡ t.stmt_taken x
  stmt_taken_kept = stmt_keeps t.part_step t.stmt_step t.stmt_step ns taken_stmt_steps

  pub function_nodes_kept : (f : TFunction) → n.function_nodes (renumbered_function ns f) ≡ n.function_nodes f
  function_nodes_kept f = ap (λ k. length f.params + length f.locals + k + 1) (stmt_nodes_kept f.body)

  pub slots_kept : (f : TFunction) → slots (renumbered_function ns f) ≡ slots f
  slots_kept f = ap₂ (λ ks k. length f.params + unplaced_from ks (length f.params) f.locals + k) (stmt_taken_kept f.body) (stmt_depth_kept f.body)

  pub placed_kept : (f : TFunction) → placed_bytes (renumbered_function ns f) ≡ placed_bytes f
  placed_kept f = ap (λ ks. placed_from ks (length f.params) f.locals) (stmt_taken_kept f.body)
