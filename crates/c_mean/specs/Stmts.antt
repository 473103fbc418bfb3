-- What statements mean (C11 6.8): a walk over typed trees.
use Rattle.std.specs.Prelude.{ℕ, Bool, true, false, eqb, List, [], ◌∷◌, map, drop, slice_get, Option, Some, None}
use Rattle.std.specs.List.{position, position_or_len}
use Rattle.std.specs.Option.{unwrap_or}
use Rattle.c_tree.specs.declared.expr.Expr.{Expr}
use Rattle.c_tree.specs.declared.stmt.Item.{Item}
use Rattle.c_tree.specs.declared.stmt.Stmt.{Stmt}
use Rattle.c_tree.specs.declared.stmt.Part.{Part as SwitchPart}
use Rattle.c_tree.specs.declared.stmt.Part.TheOpen as s
use Rattle.c_tree.specs.declared.stmt.Part.TheOpen.{Stmt-F, Part-F}
use Rattle.c_tree.specs.declared.stmt.Part.TheFolds.{fold-Stmt, fold-Part}
use Rattle.c_mean.specs.declared.flow.Flow.{Flow}
use Rattle.c_mean.specs.declared.flow.Flow.TheVariants as flow
use Rattle.c_mean.specs.Parts.{Out, Has, Part, then_with, chosen, in_order, loop, after_body, after_switch}
use Rattle.c_mean.specs.Values.{Spot, spot_in, moved, write_spot}
use Rattle.c_mean.specs.Exprs.{Around, value}

-- what a statement does
abbrev pub Does : Type 0
Does = Around → Part Flow

-- nothing
abbrev pub goes_on : Does
goes_on around l w = Has flow.Next l w

-- a flow, and nothing else
abbrev pub leaves : Flow → Does
leaves f around l w = Has f l w

-- the elements of an initialiser are written, each with its own type, so many bytes behind this spot
abbrev pub initialised : List Item → Spot → Does
initialised [] s around l w = Has flow.Next l w
initialised (i ∷ is) s around l w =
    then_with (value i.value around l w) (λ x m u. then_with (write_spot i.value.ctype (moved s i.offset) x m u) (λ y. initialised is s around))

abbrev pub or_nothing : Option Does → Does
or_nothing None = goes_on
or_nothing (Some d) = d

-- an expression that may be left out, for what it does
abbrev pub done_or : Option Expr → Does
done_or None around l w = Has flow.Next l w
done_or (Some e) around l w = then_with (value e around l w) (λ x. leaves flow.Next around)

-- a test that may be left out: it holds then (C11 6.8.5.3)
abbrev pub test_or : Option Expr → Around → Part ℕ
test_or None around l w = Has 1 l w
test_or (Some e) around l w = value e around l w

-- where a test holds the rest is done, and elsewhere the loop is left
abbrev pub while_so : (Around → Part ℕ) → Does → Does
while_so test rest around l w = then_with (test around l w) (λ x. chosen x (rest around) (leaves flow.Break around))

-- a body of a loop, and what stands behind it
abbrev pub body_then : Does → Does → Does
body_then body rest around l w = then_with (body around l w) (λ f. after_body f (rest around))

-- as many turns as the bound allows
abbrev pub looped : Does → Does
looped turn around = loop (turn around) around.turns

-- A part of a switch: whether control enters there for a value, or as the default, and what it does.
pub record Arm : Type 0 where
  pub is_case : ℕ → Bool
  pub is_default : Bool
  pub does : Does

abbrev pub no_case : ℕ → Bool
no_case x = false

abbrev pub part_step : Part-F Arm Does → Arm
part_step (s.Case n) = record { is_case = λ x. eqb x n; is_default = false; does = goes_on }
part_step s.Default = record { is_case = no_case; is_default = true; does = goes_on }
part_step (s.Stmt d) = record { is_case = no_case; is_default = false; does = d }

-- the number of parts before the one where control enters: the case of this value, else the default, else behind them all
-- (C11 6.8.4.2)
abbrev pub skipped : ℕ → List Arm → ℕ
skipped x arms = unwrap_or (position (λ arm. arm.is_case x) arms) (position_or_len (λ arm. arm.is_default) arms)

-- the parts from there on, one after another
abbrev pub arms_from : ℕ → List Arm → Does
arms_from k arms around l w = then_with (in_order (map (λ (arm : Arm). arm.does around) (drop k arms)) l w) after_switch

-- with a value, where there is one
abbrev pub given : Option Expr → Does
given None around l w = Has (flow.Return 0) l w
given (Some e) around l w = then_with (value e around l w) (λ x. leaves (flow.Return (around.returned x)) around)

abbrev pub stmt_step : Stmt-F Arm Does → Does
stmt_step s.Empty = goes_on
stmt_step (s.Expr e) = done_or (Some e)
stmt_step (s.Declare n items) = λ around. initialised items (spot_in around.block (slice_get around.offsets n) n) around
stmt_step (s.Block list) = λ around. in_order (map (λ (d : Does). d around) list)
stmt_step (s.If test on off) = λ around l w. then_with (value test around l w) (λ x. chosen x (on around) (or_nothing off around))
stmt_step (s.While test body) = looped (while_so (value test) body)
stmt_step (s.DoWhile body test) = looped (body_then body (while_so (value test) goes_on))
stmt_step (s.For first test next body) = λ around l w.
    then_with (in_order (map (λ (d : Does). d around) first) l w) (λ f. looped (while_so (test_or test) (body_then body (done_or next))) around)
stmt_step (s.Switch v arms) = λ around l w. then_with (value v around l w) (λ x. arms_from (skipped x arms) arms around)
stmt_step s.Break = leaves flow.Break
stmt_step s.Continue = leaves flow.Continue
stmt_step (s.Return e) = given e

-- what a statement does
abbrev pub does : Stmt → Does
does = fold-Stmt Arm Does part_step stmt_step

-- what a part of a switch is
abbrev pub arm : SwitchPart → Arm
arm = fold-Part Arm Does part_step stmt_step
