-- Live variables. A variable is live at a point where some path from the point reads it before setting it, and directly
-- after a statement that sets it. Paths go backwards here: what is live before a statement is told from what is live after
-- it, and where the loops and blocks around it are left.
use Rattle.std.specs.Prelude.{ℕ, ◌-◌, false, cond, ltb, List, [], ◌∷◌, ◌++◌, length, replicate, slice_get, Option, Some, None}
use Rattle.mid_ir.specs.declared.stmt.MidStmt.{MidStmt}
use Rattle.mid_ir.specs.declared.stmt.MidStmt.TheOpen.{MidStmt-F, Seq, If, Loop, Block, Break, Return}
use Rattle.mid_ir.specs.declared.stmt.MidStmt.TheFolds.{fold-MidStmt}
use Rattle.mid_ir.specs.declared.program.MidFn.{MidFn}
use Rattle.mid_ir.specs.Uses.{reads_in, sets, sets_in}
use Rattle.live.specs.Sets.{Set, nothing, with_first, with_one, with_all, with_set, without_set, either, members}
use Rattle.live.specs.declared.lives.Point.{Point}

-- what is live after a statement and behind each loop and block around it, the innermost last; what is live before it
abbrev pub Backwards : Type 0
Backwards = Set → List Set → Set

-- the points in a statement, from the same
abbrev pub Pointing : Type 0
Pointing = Set → List Set → List Point

-- what a statement does to these: what is live before it, the variable that it sets, and the points in it
pub record Walk : Type 0 where
  pub before : Backwards
  pub sets : Option ℕ
  pub inner : Pointing

-- what is live behind the loop or block that a Break leaves
abbrev pub or_nothing : Set → Option Set → Set
or_nothing after (Some xs) = xs
or_nothing after None = nothing after

abbrev pub behind : ℕ → Set → List Set → Set
behind k after around = or_nothing after (cond (ltb k (length around)) (slice_get around (length around - 1 - k)) None)

-- a simple statement sets a variable, if any, after it has read others
abbrev pub simply : {A : Type 0} → MidStmt-F A → Set → Set
simply s after = with_all (without_set after (sets_in s)) (reads_in s)

-- statements one after the other
abbrev pub before_all : List Walk → Backwards
before_all [] after around = after
before_all (w ∷ ws) after around = w.before (before_all ws after around) around

-- What is live before a statement. What a path reads first in a later turn of a loop it reads first in one of them, so
-- nothing need be live at the end of a turn to tell what is live before the loop.
abbrev pub before_step : MidStmt-F Walk → Backwards
before_step (Seq ws) after around = before_all ws after around
before_step (If v a b) after around = with_one (either (a.before after around) (b.before after around)) v
before_step (Loop a) after around = a.before (nothing after) (around ++ after ∷ [])
before_step (Block a) after around = a.before after (around ++ after ∷ [])
before_step (Break k) after around = behind k after around
before_step (Return v) after around = with_one (nothing after) v
before_step s after around = simply s after

-- the point before a statement and the one after it, where what it sets is live
abbrev pub point : Option ℕ → Set → Set → Point
point v before after = record { before = members before; after = members (with_set after v) }

-- in preorder: the statement's own, and then those in it
abbrev pub points_of : Walk → Pointing
points_of w after around = point w.sets (w.before after around) after ∷ w.inner after around

abbrev pub points_all : List Walk → Pointing
points_all [] after around = []
points_all (w ∷ ws) after around = points_of w (before_all ws after around) around ++ points_all ws after around

-- the points in the statements in a statement; at the end of a turn a loop begins anew
abbrev pub inner_step : MidStmt-F Walk → Pointing
inner_step (Seq ws) after around = points_all ws after around
inner_step (If v a b) after around = points_of a after around ++ points_of b after around
inner_step (Loop a) after around = points_of a (a.before (nothing after) (around ++ after ∷ [])) (around ++ after ∷ [])
inner_step (Block a) after around = points_of a after (around ++ after ∷ [])
inner_step s after around = []

abbrev pub walk_step : MidStmt-F Walk → Walk
walk_step s = record { before = before_step s; sets = sets_in s; inner = inner_step s }

abbrev pub walk : MidStmt → Walk
walk = fold-MidStmt Walk walk_step

-- what is live before a statement
abbrev pub live_before : MidStmt → Backwards
live_before s = (walk s).before

-- the points of the statements in a statement, in preorder, and of the statement itself before them
abbrev pub inner : MidStmt → Pointing
inner s = (walk s).inner

abbrev pub points : MidStmt → Pointing
points s = points_of (walk s)

-- What is live at the points of a function, in preorder. Nothing is live behind its end. Its parameters are set where it
-- begins, so they are live there.
abbrev pub at_end : MidFn → Set
at_end f = replicate f.vars false

abbrev pub beginning : MidFn → Point
beginning f = record {
  before = members (with_first (length f.narrow) (live_before f.body (at_end f) []));
  after = members (with_set (at_end f) (sets f.body));
}

abbrev pub lives : MidFn → List Point
lives f = beginning f ∷ inner f.body (at_end f) []
