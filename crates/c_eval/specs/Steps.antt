-- The parts of the meaning that the evaluator's functions answer.
use Rattle.std.specs.Prelude.{◌≡◌, ℕ, suc, ◌+◌, Bool, cond, ltb, List, [], ◌∷◌, map, take, Option, Some, None, Result, Ok, Err}
use Rattle.ns_types.specs.declared.goes.Goes.{Goes}
use Rattle.ns_types.specs.CRun as crun
use Rattle.ns_types.specs.CRun.{World, Outcome, Gave, Over, counted, emit, mark_at, stop_or, stop_with, then_go, turned}
use Rattle.ns_types.specs.Boundary.{acted, goes_of, kept_of}
use Rattle.ns_types.specs.Platform.{aligned}
use Rattle.ns_types.specs.Turns.{Turn}
use Rattle.ns_types.specs.declared.event.CEvent.TheVariants as c
use Rattle.ns_types.specs.declared.event.End.TheVariants as end
use Rattle.c_types.specs.declared.arith.Arith.TheVariants as arith
use Rattle.c_types.specs.declared.ctype.CType.{CType}
use Rattle.c_types.specs.Derived.{arith_type}
use Rattle.c_tree.specs.declared.expr.Expr.{Expr}
use Rattle.c_tree.specs.declared.expr.ExprKind.TheOpen.{ExprKind-F}
use Rattle.c_tree.specs.declared.program.TFunction.{TFunction}
use Rattle.c_tree.specs.declared.stmt.Item.{Item}
use Rattle.c_tree.specs.declared.stmt.Stmt.{Stmt}
use Rattle.c_tree.specs.declared.stmt.Part.{Part as SwitchPart}
use Rattle.c_tree.specs.declared.stmt.Part.TheOpen.{Stmt-F}
use Rattle.c_mean.specs.declared.flow.Flow.{Flow}
use Rattle.c_mean.specs.Parts.{Part, in_order, loop, closing, called}
use Rattle.c_mean.specs.Values.{Spot}
use Rattle.c_mean.specs.Exprs as mean
use Rattle.c_mean.specs.Exprs.{Meant, Sense, sense, kind_step, values_from}
use Rattle.c_mean.specs.Stmts.{Does, Arm, does, arm, stmt_step, initialised, while_so, body_then, test_or, done_or, goes_on}
use Rattle.c_mean.specs.Calls.{activation, first_values, runs}
use Rattle.cm_base.specs.declared.regions.TheConstants.{SECURE_DATA}
use Rattle.c_world.specs.Changes.{cleared_in}
use Rattle.c_world.specs.declared.halt.Halt.{Halt}
use Rattle.c_world.specs.declared.halt.Halt.TheVariants as halts
use Rattle.c_world.specs.declared.plan.At.{At as Place}
use Rattle.c_world.specs.declared.plan.Plan.{Plan}
use Rattle.c_world.specs.Here.{here, entering, call_at}
use Rattle.c_world.specs.Seen.{IsOver}
use Rattle.c_world.specs.Setups.{Setup, enters}

-- ---- expressions

abbrev pub value_at : Setup → Plan → Place → Expr → Part ℕ
value_at s plan at e = mean.value e (here s plan at)

abbrev pub place_at : Setup → Plan → Place → Expr → Part Spot
place_at s plan at e = (sense e).place (here s plan at)

-- one layer of an expression
abbrev pub kind_at : Setup → Plan → Place → ExprKind-F (CType → Meant) Sense → CType → Part ℕ
kind_at s plan at k t = (kind_step k t).value (here s plan at)

-- the same of a kind whose meaning doesn't look at the type of the whole
abbrev pub any_at : Setup → Plan → Place → ExprKind-F (CType → Meant) Sense → Part ℕ
any_at s plan at k = kind_at s plan at k (arith_type arith.Int)

abbrev pub values_at : Setup → Plan → Place → List Expr → Part (List ℕ)
values_at s plan at es = values_from [] (map sense es) (here s plan at)

-- ---- statements

abbrev pub does_at : Setup → Plan → Place → Stmt → Part Flow
does_at s plan at x = does x (here s plan at)

-- one layer of a statement
abbrev pub stmt_at : Setup → Plan → Place → Stmt-F Arm Does → Part Flow
stmt_at s plan at x = stmt_step x (here s plan at)

abbrev pub all_at : Setup → Plan → Place → List Stmt → Part Flow
all_at s plan at list = in_order (map (λ (d : Does). d (here s plan at)) (map does list))

abbrev pub parts_at : Setup → Plan → Place → List SwitchPart → Part Flow
parts_at s plan at parts = in_order (map (λ (a : Arm). a.does (here s plan at)) (map arm parts))

abbrev pub items_at : Setup → Plan → Place → List Item → Spot → Part Flow
items_at s plan at items spot = initialised items spot (here s plan at)

abbrev pub test_at : Setup → Plan → Place → Option Expr → Part ℕ
test_at s plan at e = test_or e (here s plan at)

abbrev pub done_at : Setup → Plan → Place → Option Expr → Part Flow
done_at s plan at e = done_or e (here s plan at)

-- turns of loops
abbrev pub while_turn : Setup → Plan → Place → Expr → Stmt → Part Flow
while_turn s plan at test body = while_so (mean.value test) (does body) (here s plan at)

abbrev pub do_turn : Setup → Plan → Place → Stmt → Expr → Part Flow
do_turn s plan at body test = body_then (does body) (while_so (mean.value test) goes_on) (here s plan at)

abbrev pub for_turn : Setup → Plan → Place → Option Expr → Option Expr → Stmt → Part Flow
for_turn s plan at test next body = while_so (test_or test) (body_then (does body) (done_or next)) (here s plan at)

-- as many of them as the bound allows
abbrev pub for_turns_at : Setup → Plan → Place → Option Expr → Option Expr → Stmt → Part Flow
for_turns_at s plan at test next body = loop (for_turn s plan at test next body) (here s plan at).turns

-- ---- calls

-- a call by Secure code, and what it leaves the caller
abbrev pub called_at : Setup → Plan → Place → ℕ → List ℕ → Part ℕ
called_at s plan at n args l w = called ((here s plan at).call n args w) l

-- an activation whose need is taken already, behind which at most d functions are active
unfoldable pub activated : Setup → ℕ → Bool → ℕ → ℕ → TFunction → List ℕ → World → Outcome
activated s d from_ns load block f args w = activation s.program (enters s) s.turns (call_at s d) from_ns load block f args w

-- where a block of so many bytes ends, if the data stack has room for it
abbrev pub block_end : ℕ → ℕ → Option ℕ
block_end block bytes = cond (ltb SECURE_DATA.to (block + bytes)) None (Some (block + bytes))

-- an activation whose need and block are taken already
unfoldable pub begins_at : Setup → Plan → Place → TFunction → List ℕ → World → Outcome
begins_at s plan at f args w = closing (runs f (here s plan at) (first_values f args) (cleared_in at.block plan.bytes w))

-- its body, with these parameters and locals
abbrev pub runs_at : Setup → Plan → Place → TFunction → List ℕ → World → Outcome
runs_at s plan at f locals w = closing (runs f (here s plan at) locals w)

-- ---- the boundary

-- a Non-secure call, and what it leaves the caller
abbrev pub called_out_at : Setup → Plan → Place → ℕ → List ℕ → Part ℕ
called_out_at s plan at target args l w = called ((here s plan at).ns_call target args w) l

unfoldable pub phase_at : Setup → Place → ℕ → World → Outcome
phase_at s at fuel w = crun.phase (enters s) (entering s at) s.turns fuel w

unfoldable pub chain_at : Setup → Place → (World → Outcome) → ℕ → List ℕ → ℕ → Goes → List ℕ → World → Outcome
chain_at s at next exit kept n g args w = crun.chain (enters s) (entering s at) next s.turns exit kept n g args w

-- A chain of entries gives a result to the newest pending call, or Non-secure code goes on with a phase, or the run is over.
abbrev pub Chained : Result (Option ℕ) Halt → (World → Outcome) → World → Outcome → Type 0
Chained (Ok (Some x)) next w out = out ≡ Gave x w
Chained (Ok None) next w out = out ≡ next w
Chained (Err h) next w out = IsOver h w out

-- a turn, and the entries that it calls, at most n
unfoldable pub crossing : Setup → Place → (World → Outcome) → Turn → List Turn → ℕ → World → Outcome
crossing s at next t rest n w =
    stop_or (acted t.items w.memory.ns_ram).stop (turned t rest (acted t.items w.memory.ns_ram).ram w)
    (chain_at s at next (aligned 2 t.lr) (kept_of t) n (goes_of (enters s) t.target) (take 4 t.r) (turned t rest (acted t.items w.memory.ns_ram).ram w))

-- an entry with its result
unfoldable pub entry_at : Setup → Place → (ℕ → World → Outcome) → ℕ → List ℕ → ℕ → List ℕ → World → Outcome
entry_at s at go e args exit kept w = then_go (entering s at e args (counted w)) (λ r u. go r (emit (c.Result e r) (mark_at exit kept u) u))

abbrev pub Entered : Result ℕ Halt → (ℕ → World → Outcome) → World → Outcome → Type 0
Entered (Ok r) go w out = out ≡ go r w
Entered (Err h) go w out = IsOver h w out

-- what happens where a branch goes that enters no entry
abbrev pub arrived : (World → Outcome) → Goes → ℕ → World → Outcome
arrived next g r0 w = crun.arrive (λ e. Over end.Spent w) (Gave r0 w) (λ x. stop_with x w) (next w) g

-- the next turn, if there is one, and those behind it
abbrev pub IsNext : Option Turn → List Turn → List Turn → Type 0
IsNext (Some t) turns rest = turns ≡ t ∷ rest
IsNext None turns rest = turns ≡ []

-- one call less may nest
abbrev pub IsLess : Result ℕ Halt → ℕ → Type 0
IsLess (Ok b) a = suc b ≡ a
IsLess (Err halts.NoMemory) a = Unit {0}
IsLess (Err (halts.Over e)) a = ⊥
