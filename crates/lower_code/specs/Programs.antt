-- Functions and programs in the middle form.
use Rattle.std.specs.Prelude.{ℕ, suc, ◌+◌, ◌&&◌, ◌||◌, Bool, true, false, not, cond, List, [], ◌∷◌, ◌++◌, map, slice_get, Option, Some, None}
use Rattle.std.specs.List.{list_all}
use Rattle.std.specs.Fmt.{decimal}
use Rattle.c_types.specs.declared.ctype.CType.{CType}
use Rattle.c_types.specs.declared.ctype.Shape.TheOpen as shape
use Rattle.c_types.specs.declared.ctype.Shape.TheOpen.{Shape-F}
use Rattle.c_types.specs.Kind.{Look, look, is_void}
use Rattle.c_tree.specs.Conditions.{Program}
use Rattle.c_tree.specs.Slots.{slots}
use Rattle.c_tree.specs.declared.program.TFunction.{TFunction}
use Rattle.c_tree.specs.declared.program.TLocal.{TLocal}
use Rattle.c_tree.specs.declared.stmt.Stmt.{Stmt}
use Rattle.c_tree.specs.declared.stmt.Part.TheOpen as s
use Rattle.c_tree.specs.declared.stmt.Part.TheOpen.{Stmt-F, Part-F}
use Rattle.c_tree.specs.declared.stmt.Part.TheFolds.{fold-Stmt}
use Rattle.c_mean.specs.Homes.{homes, contents, data_stack, block_bytes}
use Rattle.mid_ir.specs.declared.stmt.MidStmt.{MidStmt}
use Rattle.mid_ir.specs.declared.stmt.MidStmt.TheVariants as mid
use Rattle.mid_ir.specs.declared.program.MidFn.{MidFn}
use Rattle.mid_ir.specs.Conditions.{Mid}
use Rattle.lower_code.specs.Frames.{Home, Variable, Placed, Frame, frame_of}
use Rattle.lower_code.specs.Pieces.{kind_of, store}
use Rattle.lower_code.specs.Stmts.{Ways, block, coded}

-- ---- whether a function gives anything

-- no `return` in a statement has a value
abbrev pub bare_or : Option Bool → Bool
bare_or None = true
bare_or (Some b) = b

abbrev pub bare_part : Part-F Bool Bool → Bool
bare_part (s.Case x) = true
bare_part s.Default = true
bare_part (s.Stmt b) = b

abbrev pub all_bare : List Bool → Bool
all_bare bs = list_all (λ b. b) bs

abbrev pub bare_step : Stmt-F Bool Bool → Bool
bare_step s.Empty = true
bare_step (s.Expr e) = true
bare_step (s.Declare n items) = true
bare_step (s.Block list) = all_bare list
bare_step (s.If test on off) = on && bare_or off
bare_step (s.While test body) = body
bare_step (s.DoWhile body test) = body
bare_step (s.For first test next body) = all_bare first && body
bare_step (s.Switch v parts) = all_bare parts
bare_step s.Break = true
bare_step s.Continue = true
bare_step (s.Return None) = true
bare_step (s.Return (Some e)) = false

abbrev pub bare : Stmt → Bool
bare = fold-Stmt Bool Bool bare_part bare_step

abbrev pub looks_empty : Look → Bool
looks_empty (shape.Function gives params nonsecure) = is_void gives
looks_empty _ = false

-- A function gives something where its result isn't void. In a checked program no `return` of another has a value; where one
-- has, Secure callers get it.
abbrev pub gives : TFunction → Bool
gives f = not (looks_empty (look f.ctype)) || (not f.entry && not (bare f.body))

-- ---- functions

-- a placed parameter is written to its home in the block, from its variable
abbrev pub homed : CType → Option Home → ℕ → ℕ → List MidStmt
homed c (Some (Placed offset)) v t = mid.Home t offset ∷ store c t v ∷ []
homed c (Some (Variable u)) v t = []
homed c None v t = []

-- so are all, the first of them being parameter v
abbrev pub all_homed : Frame → ℕ → List TLocal → List MidStmt
all_homed fr v [] = []
all_homed fr v (x ∷ xs) = homed x.ctype (slice_get fr.homes v) v fr.free ++ all_homed fr (suc v) xs

-- A body is a block, which a `break` or `continue` outside of any loop leaves, as no checked program has it.
abbrev pub outermost : Ways
outermost = record { breaks = 0; continues = 0; returns = None }

abbrev pub body_code : Frame → TFunction → List MidStmt
body_code fr f = all_homed fr 0 f.params ++ block (coded fr f.body outermost) ∷ []

-- the name of a static function has a point and its unit behind it
abbrev pub name_of : TFunction → List ℕ
name_of f = cond f.is_static (f.name ++ 46 ∷ decimal f.unit) f.name

-- a function, where globals stand at these addresses
abbrev pub function_code : List ℕ → TFunction → MidFn
function_code globals f = record {
  name = name_of f;
  unit = f.unit;
  entry = f.entry;
  gives = gives f;
  narrow = map (λ x. kind_of x.ctype) f.params;
  vars = slots f + 4;
  block = block_bytes f;
  body = mid.Seq (body_code (frame_of globals f) f);
}

-- a program
abbrev pub lowered : Program → Mid
lowered p = record {
  functions = map (function_code (homes p.globals)) p.functions;
  entries = p.entries;
  init = contents p.globals;
  stack_base = data_stack p.globals;
}
