-- Statements, blocks and bodies keep what stands before them in range.
use Rattle.std.proofs.Common.{◌≡◌, ℕ, ◌&&◌, ◌||◌, Bool, true, false, not, List, [], ◌∷◌, ◌++◌, map, ap, sym, ◌∙◌, subst, refl, Option, None, Some, Ok, Err}
use Rattle.std.specs.List.{list_all}
use Rattle.cm_base.specs.declared.place.Place.{Place}
use Rattle.c_ast.specs.Places.{first_place}
use Rattle.c_ast.specs.declared.expr.Expr.{Expr as Source}
use Rattle.c_ast.specs.declared.stmt.Decl.{Decl}
use Rattle.c_ast.specs.declared.stmt.First.{First}
use Rattle.c_ast.specs.declared.stmt.First.TheVariants as first
use Rattle.c_ast.specs.declared.stmt.ForHead.{ForHead}
use Rattle.c_ast.specs.declared.stmt.Label.{Label}
use Rattle.c_ast.specs.declared.stmt.Label.TheVariants as label
use Rattle.c_ast.specs.declared.stmt.Stmt.{Stmt as Tree, roll-Stmt as roll-Tree}
use Rattle.c_ast.specs.declared.stmt.Block.{Block, roll-Block}
use Rattle.c_ast.specs.declared.stmt.Item.{Item, roll-Item}
use Rattle.c_ast.specs.declared.stmt.Part.{Part, roll-Part}
use Rattle.c_ast.specs.declared.stmt.Item.TheOpen as t
use Rattle.c_ast.specs.declared.stmt.Item.TheOpen.{Item-F, Part-F, Stmt-F, Block-F}
use Rattle.c_ast.specs.declared.stmt.Item.TheFolds.{map-Item, map-Part, map-Stmt, map-Block, fold-roll-Item, fold-roll-Part, fold-roll-Stmt, fold-roll-Block, ind-Block}
use Rattle.c_types.specs.declared.arith.Arith.{Arith}
use Rattle.c_types.specs.declared.ctype.CType.{CType}
use Rattle.c_types.specs.Kind.{is_void}
use Rattle.c_tree.specs.declared.expr.Expr.{Expr}
use Rattle.c_tree.specs.declared.stmt.Stmt.{Stmt, roll-Stmt}
use Rattle.c_tree.specs.declared.stmt.Part.{Part as Arm, roll-Part as roll-Arm}
use Rattle.c_tree.specs.declared.stmt.Stmt.TheVariants as stmt
use Rattle.c_tree.specs.declared.stmt.Stmt.TheVariants.{rolls-Block, rolls-Break, rolls-Continue, rolls-DoWhile, rolls-Empty, rolls-Expr, rolls-For, rolls-If, rolls-Return, rolls-Switch, rolls-While}
use Rattle.c_tree.specs.declared.stmt.Part.TheVariants as part
use Rattle.c_tree.specs.declared.stmt.Part.TheVariants.{rolls-Case, rolls-Default, rolls-Stmt}
use Rattle.c_tree.specs.declared.stmt.Part.TheOpen as layer
use Rattle.c_tree.specs.declared.stmt.Part.TheFolds as folds
use Rattle.c_tree.specs.declared.stmt.Part.TheFolds.{fold-Part}
use Rattle.c_tree.specs.Numbers.{all_true, expr_in_range, in_range_or, or_true, stmt_in_range}
use Rattle.c_tree.specs.Numbers as numbers
use Rattle.c_tree.specs.Numbers.{Around as Range}
use Rattle.c_rows.specs.Answers.{Checked, ◌>>=◌}
use Rattle.c_rows.specs.Constants.{integer_constant}
use Rattle.c_rows.specs.Logic.{switch_as, test}
use Rattle.c_rows.specs.Values.{fitted}
use Rattle.c_scope.specs.declared.tables.Tables.{Tables}
use Rattle.c_check.specs.declared.around.Around.{Around}
use Rattle.c_check.specs.Typed.{value}
use Rattle.c_body.specs.declared.arms.Arms.{Arms}
use Rattle.c_body.specs.declared.simple.Head.{Head}
use Rattle.c_body.specs.declared.within.Within.{Within}
use Rattle.c_body.specs.Arms.{cased, defaulted, has, no_arms, with_case, with_default, with_stmt, with_stmts}
use Rattle.c_body.specs.Simple.{begun, declared, done, given, headed, jumped, labelled, returned, switched, tested, tested_or, valued_or}
use Rattle.c_body.specs.Stmts.{Adding, Choosing, Listing, Typing, adding, block_step, body, choosing, else_typed, for_of, item_step, items_from, listed, part_step, parts_from, stmt_step, switch_of, typed}
use Rattle.c_body.specs.Within.{closed, looping, opened, outermost, switching}
use Rattle.range_laws.specs.Few.{IsFit}
use Rattle.range_laws.specs.Fits.{IsMade}
use Rattle.range_laws.specs.Ranges.{Grows, range}
use Rattle.range_laws.specs.Steps.{Answers, Goes}
use Rattle.range_laws.proofs.Both.{all_append, all_push, both, left, right}
use Rattle.range_laws.proofs.Moves.{answers_then, answers_unless, comes, goes_then, goes_unless, grows_trans, keeps, silent, stays, told, within}
use Rattle.range_laws.proofs.TableLaws.{close_block_law}
use Rattle.range_laws.proofs.TreeLaws.{fitted_numbers, in_kind_law}
use Rattle.range_laws.proofs.Wider.{expr_wider, or_wider, part_wider}
use Rattle.check_laws.proofs.Layers.{value_walk}
use Rattle.unit_laws.specs.Stmts.{StmtAt, StmtsAt}
use Rattle.unit_laws.proofs.DeclLaws.{later_stmt, later_stmts, local_declaration_keeps}

-- ---- statements that are made

module _ (a : Range) where
  abbrev part_in : Arm → Bool
  part_in = fold-Part Bool Bool numbers.part_step (numbers.stmt_step a)

  made : (x : layer.Stmt-F Arm Stmt) (k : Stmt) → roll-Stmt x ≡ k → numbers.stmt_step a (folds.map-Stmt Arm Stmt Bool Bool part_in (stmt_in_range a) x) ≡ true → stmt_in_range a k ≡ true
  made x k is h = ap (stmt_in_range a) (sym is) ∙ (folds.fold-roll-Stmt Bool Bool numbers.part_step (numbers.stmt_step a) x ∙ h)

  part_made : (x : layer.Part-F Arm Stmt) (k : Arm) → roll-Arm x ≡ k → numbers.part_step (folds.map-Part Arm Stmt Bool Bool part_in (stmt_in_range a) x) ≡ true → part_in k ≡ true
  part_made x k is h = ap part_in (sym is) ∙ (folds.fold-roll-Part Bool Bool numbers.part_step (numbers.stmt_step a) x ∙ h)

  mapped : {X : Type 0} (f : X → Bool) (xs : List X) → all_true (map f xs) ≡ list_all f xs
  mapped f [] = refl
  mapped f (x ∷ xs) = ap (λ b. f x && b) (mapped f xs)

  parts_of : (xs : List Stmt) → list_all (stmt_in_range a) xs ≡ true → list_all part_in (map part.Stmt xs) ≡ true
  parts_of [] h = refl
  parts_of (x ∷ xs) h = both (part_made (layer.Stmt x) (part.Stmt x) (rolls-Stmt x) (left (stmt_in_range a x) _ h)) (parts_of xs (right (stmt_in_range a x) _ h))

  abbrev else_in : Option Stmt → Bool
  else_in None = true
  else_in (Some x) = stmt_in_range a x

  if_made : (c : Expr) (x : Stmt) (o : Option Stmt) → expr_in_range a c ≡ true → stmt_in_range a x ≡ true → else_in o ≡ true → stmt_in_range a (stmt.If c x o) ≡ true
  if_made c x None f g h = made (layer.If c x None) _ (rolls-If c x None) (both f (both g refl))
  if_made c x (Some y) f g h = made (layer.If c x (Some y)) _ (rolls-If c x (Some y)) (both f (both g h))

-- ---- simple statements

abbrev ValueAt : Bool → Expr → Tables → Type 0
ValueAt entry e t = IsMade (range entry t) e

abbrev ExprAt : Bool → Expr → Tables → Type 0
ExprAt entry e t = expr_in_range (range entry t) e ≡ true

abbrev OrAt : Bool → Option Expr → Tables → Type 0
OrAt entry o t = in_range_or (range entry t) o ≡ true

later_expr : (entry : Bool) (s t : Tables) (e : Expr) → Grows s t → expr_in_range (range entry s) e ≡ true → expr_in_range (range entry t) e ≡ true
later_expr entry s t e g h = expr_wider (range entry s) (range entry t) (within entry s t g) e h

later_or : (entry : Bool) (s t : Tables) (o : Option Expr) → Grows s t → in_range_or (range entry s) o ≡ true → in_range_or (range entry t) o ≡ true
later_or entry s t o g h = or_wider (range entry s) (range entry t) (within entry s t g) o h

done_keeps : (e : Source) (around : Around) (s : Tables) → IsFit s → Goes (StmtAt around.in_entry) s (done e around s)
unfolding done
done_keeps e around s fit = goes_then s (value e around s) _ (value_walk e around s fit) (λ v u c. stays u (stmt.Expr v) c.fit (made (range around.in_entry u) (layer.Expr v) (stmt.Expr v) (rolls-Expr v) c.holds.value.numbers))

test_law : (a : Range) (v : Expr) (first : Place) → IsMade a v → Answers (λ w. expr_in_range a w ≡ true) (test v first)
test_law a v first m = answers_unless _ 22 first _ (λ k. told v m.value.numbers)

switch_law : (a : Range) (v : Expr) (first : Place) (o : Option Arith) → IsMade a v → Answers (λ w. expr_in_range a w ≡ true) (switch_as v first o)
switch_law a v first (Some k) m = told _ (in_kind_law a _ v m.value).numbers
switch_law a v first None m = silent

tested_keeps : (e : Source) (around : Around) (s : Tables) → IsFit s → Goes (ExprAt around.in_entry) s (tested e around s)
unfolding tested
tested_keeps e around s fit = goes_then s (value e around s) _ (value_walk e around s fit) (λ v u c. keeps u _ c.fit (test_law (range around.in_entry u) v (first_place e) c.holds))

switched_keeps : (e : Source) (around : Around) (s : Tables) → IsFit s → Goes (ExprAt around.in_entry) s (switched e around s)
unfolding switched
switched_keeps e around s fit = goes_then s (value e around s) _ (value_walk e around s fit) (λ v u c. keeps u _ c.fit (switch_law (range around.in_entry u) v (first_place e) _ c.holds))

given_law : (a : Range) (gives : CType) (first : Place) (v : Expr) → IsMade a v → Answers (λ x. stmt_in_range a x ≡ true) (given gives first v)
given_law a gives first v m = answers_then (fitted gives v first) _ (fitted_numbers a gives v first m.value.numbers) (λ w n. told _ (made a (layer.Return (Some w)) (stmt.Return (Some w)) (rolls-Return (Some w)) n))

returned_keeps : (place : Place) (e : Option Source) (gives : CType) (around : Around) (s : Tables) → IsFit s → Goes (StmtAt around.in_entry) s (returned place e gives around s)
unfolding returned
returned_keeps place None gives around s fit = goes_unless s (not (is_void gives)) 22 place _ (λ k. stays s (stmt.Return None) fit (made (range around.in_entry s) (layer.Return None) (stmt.Return None) (rolls-Return None) refl))
returned_keeps place (Some e) gives around s fit = goes_then s (value e around s) _ (value_walk e around s fit) (λ v u c. keeps u _ c.fit (given_law (range around.in_entry u) gives (first_place e) v c.holds))

jumped_law : (a : Range) (may : Bool) (x : Stmt) (place : Place) → stmt_in_range a x ≡ true → Answers (λ x. stmt_in_range a x ≡ true) (jumped may x place)
jumped_law a true x place h = told x h
jumped_law a false x place h = silent

-- ---- `for`

declared_keeps : (d : Decl) (around : Around) (s : Tables) → IsFit s → Goes (StmtsAt around.in_entry) s (declared d around s)
unfolding declared
declared_keeps d around s fit = local_declaration_keeps d around s fit

begun_keeps : (f : First) (around : Around) (s : Tables) → IsFit s → Goes (StmtsAt around.in_entry) s (begun f around s)
begun_keeps (first.Decl d) around s fit = declared_keeps d around s fit
begun_keeps (first.Expr None) around s fit = stays s [] fit refl
begun_keeps (first.Expr (Some e)) around s fit = goes_then s (done e around s) _ (done_keeps e around s fit) (λ x u c. stays u (x ∷ []) c.fit (both c.holds refl))

tested_or_keeps : (o : Option Source) (around : Around) (s : Tables) → IsFit s → Goes (OrAt around.in_entry) s (tested_or o around s)
tested_or_keeps None around s fit = stays s None fit refl
tested_or_keeps (Some e) around s fit = goes_then s (tested e around s) _ (tested_keeps e around s fit) (λ v u c. stays u (Some v) c.fit c.holds)

valued_or_keeps : (o : Option Source) (around : Around) (s : Tables) → IsFit s → Goes (OrAt around.in_entry) s (valued_or o around s)
valued_or_keeps None around s fit = stays s None fit refl
valued_or_keeps (Some e) around s fit = goes_then s (value e around s) _ (value_walk e around s fit) (λ v u c. stays u (Some v) c.fit c.holds.value.numbers)

pub record IsHead (entry : Bool) (h : Head) (t : Tables) : Type 0 where
  pub begin : list_all (stmt_in_range (range entry t)) h.first ≡ true
  pub test : in_range_or (range entry t) h.test ≡ true
  pub turn : in_range_or (range entry t) h.next ≡ true

headed_keeps : (h : ForHead) (around : Around) (s : Tables) → IsFit s → Goes (IsHead around.in_entry) s (headed h around s)
unfolding headed
headed_keeps h around s fit =
    goes_then s (begun h.first around s) _ (begun_keeps h.first around s fit) (λ x u c.
    goes_then u (tested_or h.test around u) _ (tested_or_keeps h.test around u c.fit) (λ test v d.
    goes_then v (valued_or h.step around v) _ (valued_or_keeps h.step around v d.fit) (λ next w e.
    stays w _ e.fit (record {
      begin = later_stmts around.in_entry u w x (grows_trans u v w d.grows e.grows) c.holds;
      test = later_or around.in_entry v w test e.grows d.holds;
      turn = e.holds;
    }))))

-- ---- labels

pub record AreArms (a : Range) (x : Arms) : Type 0 where
  pub parts : list_all (part_in a) x.parts ≡ true

abbrev ArmsAt : Bool → Arms → Tables → Type 0
ArmsAt entry x t = AreArms (range entry t) x

cased_law : (a : Range) (place : Place) (n : ℕ) (x : Arms) → AreArms a x → Answers (AreArms a) (cased place n x)
cased_law a place n x h = answers_unless (has x.cases n) 26 place _ (λ k. told (with_case n x) (record { parts = all_push (part_in a) x.parts (part.Case n) h.parts (part_made a (layer.Case n) (part.Case n) (rolls-Case n) refl) }))

defaulted_law : (a : Range) (place : Place) (x : Arms) → AreArms a x → Answers (AreArms a) (defaulted place x)
defaulted_law a place x h = answers_unless x.has_default 26 place _ (λ k. told (with_default x) (record { parts = all_push (part_in a) x.parts part.Default h.parts (part_made a layer.Default part.Default rolls-Default refl) }))

later_part : (entry : Bool) (s t : Tables) (x : Arm) → Grows s t → part_in (range entry s) x ≡ true → part_in (range entry t) x ≡ true
later_part entry s t x g h = part_wider (range entry s) (range entry t) (within entry s t g) x h

later_parts : (entry : Bool) (s t : Tables) (xs : List Arm) → Grows s t → list_all (part_in (range entry s)) xs ≡ true → list_all (part_in (range entry t)) xs ≡ true
later_parts entry s t [] g h = refl
later_parts entry s t (x ∷ xs) g h = both (later_part entry s t x g (left (part_in (range entry s) x) _ h)) (later_parts entry s t xs g (right (part_in (range entry s) x) _ h))

later_arms : (entry : Bool) (s t : Tables) (x : Arms) → Grows s t → AreArms (range entry s) x → AreArms (range entry t) x
later_arms entry s t x g h = record { parts = later_parts entry s t x.parts g h.parts }

number_then : (a : Range) (place : Place) (x : Arms) (r : Checked ℕ) → AreArms a x → Answers (AreArms a) (r >>= (λ n. cased place n x))
number_then a place x (Ok n) h = cased_law a place n x h
number_then a place x (Err e) h = record { it = tt }

labelled_keeps : (l : Label) (around : Around) (x : Arms) (s : Tables) → IsFit s → AreArms (range around.in_entry s) x → Goes (ArmsAt around.in_entry) s (labelled l around x s)
unfolding labelled
labelled_keeps (label.Case place e) around x s fit h =
    goes_then s (value e around s) _ (value_walk e around s fit) (λ v u c. keeps u _ c.fit (number_then (range around.in_entry u) place x (integer_constant v (first_place e)) (later_arms around.in_entry s u x c.grows h)))
labelled_keeps (label.Default place) around x s fit h = keeps s _ fit (defaulted_law (range around.in_entry s) place x h)

-- ---- parts of the walk

pub record TypingKeeps (f : Typing) : Type 0 where
  pub goes : (gives : CType) (w : Within) (s : Tables) → IsFit s → Goes (StmtAt w.around.in_entry) s (f gives w s)

pub record AddingKeeps (f : Adding) : Type 0 where
  pub goes : (gives : CType) (w : Within) (all : List Stmt) (s : Tables) → IsFit s → list_all (stmt_in_range (range w.around.in_entry s)) all ≡ true → Goes (StmtsAt w.around.in_entry) s (f gives w all s)

pub record ChoosingKeeps (f : Choosing) : Type 0 where
  pub goes : (gives : CType) (w : Within) (all : Arms) (s : Tables) → IsFit s → AreArms (range w.around.in_entry s) all → Goes (ArmsAt w.around.in_entry) s (f gives w all s)

pub record ListingKeeps (f : Listing) : Type 0 where
  pub goes : (gives : CType) (w : Within) (s : Tables) → IsFit s → Goes (StmtsAt w.around.in_entry) s (f gives w s)

abbrev AnItem : Type 0
AnItem = (x : Item) × AddingKeeps (adding x)

abbrev APart : Type 0
APart = (x : Part) × ChoosingKeeps (choosing x)

abbrev AStmt : Type 0
AStmt = (x : Tree) × TypingKeeps (typed x)

abbrev ABlock : Type 0
ABlock = (x : Block) × ListingKeeps (listed x)

items_keep : (is : List AnItem) (all : List Stmt) (gives : CType) (w : Within) (s : Tables) → IsFit s → list_all (stmt_in_range (range w.around.in_entry s)) all ≡ true → Goes (StmtsAt w.around.in_entry) s (items_from all (map adding (map (λ x. x.0) is)) gives w s)
items_keep [] all gives w s fit h = stays s all fit h
items_keep (i ∷ is) all gives w s fit h = goes_then s (adding i.0 gives w all s) _ (i.1.goes gives w all s fit h) (λ more u c. items_keep is more gives w u c.fit c.holds)

parts_keep : (ps : List APart) (all : Arms) (gives : CType) (w : Within) (s : Tables) → IsFit s → AreArms (range w.around.in_entry s) all → Goes (ArmsAt w.around.in_entry) s (parts_from all (map choosing (map (λ x. x.0) ps)) gives w s)
parts_keep [] all gives w s fit h = stays s all fit h
parts_keep (p ∷ ps) all gives w s fit h = goes_then s (choosing p.0 gives w all s) _ (p.1.goes gives w all s fit h) (λ more u c. parts_keep ps more gives w u c.fit c.holds)

abbrev ElseAt : Bool → Option Stmt → Tables → Type 0
ElseAt entry o t = else_in (range entry t) o ≡ true

else_keeps : (x : AStmt) (gives : CType) (w : Within) (s : Tables) → IsFit s → Goes (ElseAt w.around.in_entry) s (else_typed (Some (typed x.0)) gives w s)
else_keeps x gives w s fit = goes_then s (typed x.0 gives w s) _ (x.1.goes gives w s fit) (λ y u c. stays u (Some y) c.fit c.holds)

-- a block, or what else has a scope of its own, ends
ends : (w : Within) (s t : Tables) (x : Stmt) → IsFit t → stmt_in_range (range w.around.in_entry t) x ≡ true → Goes (StmtAt w.around.in_entry) t (Ok (x, closed (opened w s) t))
unfolding closed
ends w s t x fit h =
    let d = close_block_law (opened w s).around.scope t fit in
    comes t (closed (opened w s) t) x d.grows d.fit (later_stmt w.around.in_entry t (closed (opened w s) t) x d.grows h)

abbrev tree_Item : Item-F AnItem APart AStmt ABlock → Item-F Item Part Tree Block
tree_Item = map-Item AnItem APart AStmt ABlock Item Part Tree Block (λ x. x.0) (λ x. x.0) (λ x. x.0) (λ x. x.0)

abbrev part_Item : Item-F Item Part Tree Block → Item-F Adding Choosing Typing Listing
part_Item = map-Item Item Part Tree Block Adding Choosing Typing Listing adding choosing typed listed

abbrev tree_Part : Part-F AnItem APart AStmt ABlock → Part-F Item Part Tree Block
tree_Part = map-Part AnItem APart AStmt ABlock Item Part Tree Block (λ x. x.0) (λ x. x.0) (λ x. x.0) (λ x. x.0)

abbrev part_Part : Part-F Item Part Tree Block → Part-F Adding Choosing Typing Listing
part_Part = map-Part Item Part Tree Block Adding Choosing Typing Listing adding choosing typed listed

abbrev tree_Stmt : Stmt-F AnItem APart AStmt ABlock → Stmt-F Item Part Tree Block
tree_Stmt = map-Stmt AnItem APart AStmt ABlock Item Part Tree Block (λ x. x.0) (λ x. x.0) (λ x. x.0) (λ x. x.0)

abbrev part_Stmt : Stmt-F Item Part Tree Block → Stmt-F Adding Choosing Typing Listing
part_Stmt = map-Stmt Item Part Tree Block Adding Choosing Typing Listing adding choosing typed listed

abbrev tree_Block : Block-F AnItem APart AStmt ABlock → Block-F Item Part Tree Block
tree_Block = map-Block AnItem APart AStmt ABlock Item Part Tree Block (λ x. x.0) (λ x. x.0) (λ x. x.0) (λ x. x.0)

abbrev part_Block : Block-F Item Part Tree Block → Block-F Adding Choosing Typing Listing
part_Block = map-Block Item Part Tree Block Adding Choosing Typing Listing adding choosing typed listed

-- ---- one layer

-- a part in a scope of its own

block_goes : (b : ABlock) (gives : CType) (w : Within) (s : Tables) → IsFit s → Goes (StmtsAt w.around.in_entry) s (listed b.0 gives (opened w s) s)
unfolding opened
block_goes b gives w s fit = b.1.goes gives (opened w s) s fit

head_goes : (h : ForHead) (w : Within) (s : Tables) → IsFit s → Goes (IsHead w.around.in_entry) s (headed h (opened w s).around s)
unfolding opened
head_goes h w s fit = headed_keeps h (opened w s).around s fit

for_goes : (b : AStmt) (gives : CType) (w : Within) (s u : Tables) → IsFit u → Goes (StmtAt w.around.in_entry) u (typed b.0 gives (looping (opened w s)) u)
unfolding opened
for_goes b gives w s u fit = b.1.goes gives (looping (opened w s)) u fit

switch_goes : (ps : List APart) (gives : CType) (w : Within) (u : Tables) → IsFit u → Goes (ArmsAt w.around.in_entry) u (parts_from no_arms (map choosing (map (λ x. x.0) ps)) gives (switching (opened w u)) u)
unfolding opened
switch_goes ps gives w u fit = parts_keep ps no_arms gives (switching (opened w u)) u fit (record { parts = refl })

stmt_keeps : (y : Stmt-F AnItem APart AStmt ABlock) → TypingKeeps (stmt_step (part_Stmt (tree_Stmt y)))
stmt_keeps (t.Block b) = record { goes = λ gives w s fit. goes_then s (listed b.0 gives (opened w s) s) _ (block_goes b gives w s fit) (λ all u c. ends w s u (stmt.Block all) c.fit (made (range w.around.in_entry u) (layer.Block all) (stmt.Block all) (rolls-Block all) (mapped (range w.around.in_entry u) _ all ∙ c.holds))) }
stmt_keeps (t.Empty place) = record { goes = λ gives w s fit. stays s stmt.Empty fit (made (range w.around.in_entry s) layer.Empty stmt.Empty rolls-Empty refl) }
stmt_keeps (t.Expr e) = record { goes = λ gives w s fit. done_keeps e w.around s fit }
stmt_keeps (t.Return place e) = record { goes = λ gives w s fit. returned_keeps place e gives w.around s fit }
stmt_keeps (t.Break place) = record { goes = λ gives w s fit. keeps s _ fit (jumped_law (range w.around.in_entry s) (w.in_loop || w.in_switch) stmt.Break place (made (range w.around.in_entry s) layer.Break stmt.Break rolls-Break refl)) }
stmt_keeps (t.Continue place) = record { goes = λ gives w s fit. keeps s _ fit (jumped_law (range w.around.in_entry s) w.in_loop stmt.Continue place (made (range w.around.in_entry s) layer.Continue stmt.Continue rolls-Continue refl)) }
stmt_keeps (t.If place test on None) = record {
  goes = λ gives w s fit.
      goes_then s (tested test w.around s) _ (tested_keeps test w.around s fit) (λ e u c.
      goes_then u (typed on.0 gives w u) _ (on.1.goes gives w u c.fit) (λ x v d.
      stays v (stmt.If e x None) d.fit (if_made (range w.around.in_entry v) e x None (later_expr w.around.in_entry u v e d.grows c.holds) d.holds refl)));
}
stmt_keeps (t.If place test on (Some off)) = record {
  goes = λ gives w s fit.
      goes_then s (tested test w.around s) _ (tested_keeps test w.around s fit) (λ e u c.
      goes_then u (typed on.0 gives w u) _ (on.1.goes gives w u c.fit) (λ x v d.
      goes_then v (else_typed (Some (typed off.0)) gives w v) _ (else_keeps off gives w v d.fit) (λ y z f.
      stays z (stmt.If e x y) f.fit (if_made (range w.around.in_entry z) e x y (later_expr w.around.in_entry u z e (grows_trans u v z d.grows f.grows) c.holds) (later_stmt w.around.in_entry v z x f.grows d.holds) f.holds))));
}
stmt_keeps (t.While place test b) = record {
  goes = λ gives w s fit.
      goes_then s (tested test w.around s) _ (tested_keeps test w.around s fit) (λ e u c.
      goes_then u (typed b.0 gives (looping w) u) _ (b.1.goes gives (looping w) u c.fit) (λ x v d.
      stays v (stmt.While e x) d.fit (made (range w.around.in_entry v) (layer.While e x) (stmt.While e x) (rolls-While e x) (both (later_expr w.around.in_entry u v e d.grows c.holds) d.holds))));
}
stmt_keeps (t.DoWhile place b test) = record {
  goes = λ gives w s fit.
      goes_then s (typed b.0 gives (looping w) s) _ (b.1.goes gives (looping w) s fit) (λ x u c.
      goes_then u (tested test w.around u) _ (tested_keeps test w.around u c.fit) (λ e v d.
      stays v (stmt.DoWhile x e) d.fit (made (range w.around.in_entry v) (layer.DoWhile x e) (stmt.DoWhile x e) (rolls-DoWhile x e) (both (later_stmt w.around.in_entry u v x d.grows c.holds) d.holds))));
}
stmt_keeps (t.For place head b) = record {
  goes = λ gives w s fit.
      goes_then s (headed head (opened w s).around s) _ (head_goes head w s fit) (λ h u c.
      goes_then u (typed b.0 gives (looping (opened w s)) u) _ (for_goes b gives w s u c.fit) (λ x v d.
      ends w s v (for_of h x) d.fit (made (range w.around.in_entry v) (layer.For h.first h.test h.next x) (for_of h x) (rolls-For h.first h.test h.next x)
      (both (mapped (range w.around.in_entry v) _ h.first ∙ later_stmts w.around.in_entry u v h.first d.grows c.holds.begin)
      (both (later_or w.around.in_entry u v h.test d.grows c.holds.test) (both (later_or w.around.in_entry u v h.next d.grows c.holds.turn) d.holds))))));
}
stmt_keeps (t.Switch place e ps) = record {
  goes = λ gives w s fit.
      goes_then s (switched e w.around s) _ (switched_keeps e w.around s fit) (λ x u c.
      goes_then u _ _ (switch_goes ps gives w u c.fit) (λ all v d.
      ends w u v (switch_of x all) d.fit (made (range w.around.in_entry v) (layer.Switch x all.parts) (switch_of x all) (rolls-Switch x all.parts) (both (later_expr w.around.in_entry u v x d.grows c.holds) (mapped (range w.around.in_entry v) _ all.parts ∙ d.holds.parts)))));
}

item_keeps : (y : Item-F AnItem APart AStmt ABlock) → AddingKeeps (item_step (part_Item (tree_Item y)))
item_keeps (t.Item::Decl d) = record {
  goes = λ gives w all s fit h.
      goes_then s (declared d w.around s) _ (declared_keeps d w.around s fit) (λ more u c.
      stays u (all ++ more) c.fit (all_append (stmt_in_range (range w.around.in_entry u)) all more (later_stmts w.around.in_entry s u all c.grows h) c.holds));
}
item_keeps (t.Item::Stmt x) = record {
  goes = λ gives w all s fit h.
      goes_then s (typed x.0 gives w s) _ (x.1.goes gives w s fit) (λ y u c.
      stays u (all ++ y ∷ []) c.fit (all_push (stmt_in_range (range w.around.in_entry u)) all y (later_stmts w.around.in_entry s u all c.grows h) c.holds));
}

part_keeps : (y : Part-F AnItem APart AStmt ABlock) → ChoosingKeeps (part_step (part_Part (tree_Part y)))
part_keeps (t.Label l) = record { goes = λ gives w all s fit h. labelled_keeps l w.around all s fit h }
part_keeps (t.Part::Decl d) = record {
  goes = λ gives w all s fit h.
      goes_then s (declared d w.around s) _ (declared_keeps d w.around s fit) (λ more u c.
      stays u (with_stmts more all) c.fit (record { parts = all_append (part_in (range w.around.in_entry u)) all.parts (map part.Stmt more) (later_arms w.around.in_entry s u all c.grows h).parts (parts_of (range w.around.in_entry u) more c.holds) }));
}
part_keeps (t.Part::Stmt x) = record {
  goes = λ gives w all s fit h.
      goes_then s (typed x.0 gives w s) _ (x.1.goes gives w s fit) (λ y u c.
      stays u (with_stmt y all) c.fit (record { parts = all_push (part_in (range w.around.in_entry u)) all.parts (part.Stmt y) (later_arms w.around.in_entry s u all c.grows h).parts (part_made (range w.around.in_entry u) (layer.Stmt y) (part.Stmt y) (rolls-Stmt y) c.holds) }));
}

block_keeps : (y : Block-F AnItem APart AStmt ABlock) → ListingKeeps (block_step (part_Block (tree_Block y)))
block_keeps y = record { goes = λ gives w s fit. items_keep y.items [] gives w s fit refl }

-- ---- whole trees

whole_Item : (y : Item-F AnItem APart AStmt ABlock) → AddingKeeps (adding (roll-Item (tree_Item y)))
whole_Item y = subst AddingKeeps (sym (fold-roll-Item Adding Choosing Typing Listing item_step part_step stmt_step block_step (tree_Item y))) (item_keeps y)

whole_Part : (y : Part-F AnItem APart AStmt ABlock) → ChoosingKeeps (choosing (roll-Part (tree_Part y)))
whole_Part y = subst ChoosingKeeps (sym (fold-roll-Part Adding Choosing Typing Listing item_step part_step stmt_step block_step (tree_Part y))) (part_keeps y)

whole_Stmt : (y : Stmt-F AnItem APart AStmt ABlock) → TypingKeeps (typed (roll-Tree (tree_Stmt y)))
whole_Stmt y = subst TypingKeeps (sym (fold-roll-Stmt Adding Choosing Typing Listing item_step part_step stmt_step block_step (tree_Stmt y))) (stmt_keeps y)

whole_Block : (y : Block-F AnItem APart AStmt ABlock) → ListingKeeps (listed (roll-Block (tree_Block y)))
whole_Block y = subst ListingKeeps (sym (fold-roll-Block Adding Choosing Typing Listing item_step part_step stmt_step block_step (tree_Block y))) (block_keeps y)

pub listed_walk : (b : Block) → ListingKeeps (listed b)
listed_walk = ind-Block (λ x. AddingKeeps (adding x)) (λ x. ChoosingKeeps (choosing x)) (λ x. TypingKeeps (typed x)) (λ x. ListingKeeps (listed x))
    (λ x y is. subst (λ z. AddingKeeps (adding (roll-Item z))) is (whole_Item y))
    (λ x y is. subst (λ z. ChoosingKeeps (choosing (roll-Part z))) is (whole_Part y))
    (λ x y is. subst (λ z. TypingKeeps (typed (roll-Tree z))) is (whole_Stmt y))
    (λ x y is. subst (λ z. ListingKeeps (listed (roll-Block z))) is (whole_Block y))

-- the body of a function
pub body_keeps : (b : Block) (gives : CType) (around : Around) (s : Tables) → IsFit s → Goes (StmtAt around.in_entry) s (body b gives around s)
body_keeps b gives around s fit = goes_then s (listed b gives (outermost around) s) _ ((listed_walk b).goes gives (outermost around) s fit) (λ all u c.
    stays u (stmt.Block all) c.fit (made (range around.in_entry u) (layer.Block all) (stmt.Block all) (rolls-Block all) (mapped (range around.in_entry u) _ all ∙ c.holds)))
