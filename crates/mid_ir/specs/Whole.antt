-- What functions of the middle form do, and whole runs behind the boundary.
use Rattle.std.specs.Prelude.{ℕ, zero, suc, ◌+◌, ◌*◌, Bool, true, false, cond, List, [], ◌∷◌, ◌++◌, length, take, drop, slice_get, slice_index, Option, Some, None}
use Rattle.ns_types.specs.declared.event.Bound.{Bound}
use Rattle.ns_types.specs.declared.event.End.TheVariants as end
use Rattle.ns_types.specs.declared.event.Veneer.{Veneer}
use Rattle.ns_types.specs.declared.turn.Start.{Start}
use Rattle.ns_types.specs.Turns.{Turn}
use Rattle.ns_types.specs.State.{Memory}
use Rattle.ns_types.specs.Memory.{memory_of}
use Rattle.ns_types.specs.Veneers.{enters_of}
use Rattle.ns_types.specs.CRun.{World, Outcome, Gave, Over, reach, c_run, Run, run_of}
use Rattle.mid_ir.specs.declared.stmt.MidStmt.TheVariants as mid
use Rattle.mid_ir.specs.declared.program.MidFn.{MidFn}
use Rattle.mid_ir.specs.Conditions.{Mid}
use Rattle.mid_ir.specs.Activation.{first, with_block, site_of}
use Rattle.mid_ir.specs.Run.{Out, Next, Broke, Gives, Stops, narrowed, run}

-- the function of a number; there is always one where numbers are in range
abbrev pub function_or : Option MidFn → MidFn
function_or (Some f) = f
function_or None = record { name = []; unit = 0; entry = false; gives = false; narrow = []; vars = 0; block = 0; body = mid.Seq [] }

abbrev pub function_at : List MidFn → ℕ → MidFn
function_at functions n = function_or (slice_get functions n)

-- the numbers of the entry functions, where the first function has number n
abbrev pub entry_numbers : ℕ → List MidFn → List ℕ
entry_numbers n [] = []
entry_numbers n (f ∷ fs) = cond f.entry (n ∷ entry_numbers (suc n) fs) (entry_numbers (suc n) fs)

-- values converted by a kind each, as many as there are kinds
abbrev pub all_narrowed : List ℕ → List ℕ → List ℕ
all_narrowed [] xs = []
all_narrowed (k ∷ ks) [] = []
all_narrowed (k ∷ ks) (x ∷ xs) = narrowed k x ∷ all_narrowed ks xs

-- the parameters of a function that is called with these arguments: an entry function converts them, whoever calls it
abbrev pub params_of : MidFn → List ℕ → List ℕ
params_of f args = cond f.entry (all_narrowed f.narrow args) (take (length f.narrow) args)

-- how many bytes of the main stack a function may need
abbrev pub need_of : MidFn → ℕ
need_of f = 112 + 4 * f.vars

-- a function's result: 0 where it gives none, and where its body falls off its end
abbrev pub given : Bool → ℕ → ℕ
given gives x = cond gives x 0

abbrev pub closing : Bool → Out → Outcome
closing gives (Next vs w) = Gave 0 w
closing gives (Broke k vs w) = Gave 0 w
closing gives (Gives x w) = Gave (given gives x) w
closing gives (Stops e w) = Over e w

-- A call of function f for Secure code (caller 0) or for Non-secure code (caller 1): at most `deep` functions are active
-- at once, the data stack is used up to top, and the functions that are active need `load` bytes of stack.
abbrev pub call : (ℕ → Option ℕ) → List MidFn → ℕ → ℕ → ℕ → ℕ → ℕ → ℕ → List ℕ → World → Outcome
call enters functions turns zero top load caller f args w = Over end.Spent w
call enters functions turns (suc deep) top load caller f args w =
    let g = function_at functions f in
    let calls = call enters functions turns deep (top + g.block) (load + need_of g) in
    let site = site_of enters (entry_numbers 0 functions) calls top turns caller in
    with_block g.block top (reach (load + need_of g) w) (λ u. closing g.gives (run site g.body (first (params_of g args)) u))

-- what the entries of a program do, numbered by their places among its entries
abbrev pub bodies : (ℕ → Option ℕ) → Mid → Bound → ℕ → List ℕ → World → Outcome
bodies enters p b e args w = call enters p.functions b.turns b.deep p.stack_base 0 1 (slice_index (entry_numbers 0 p.functions) e) args w

-- bytes with others written over their beginning
abbrev pub written_over : List ℕ → List ℕ → List ℕ
written_over init bytes = init ++ drop (length init) bytes

-- the memory that a program begins with
abbrev pub begins : Mid → Start → Memory
begins p start = record (memory_of start) { secure_ram = written_over p.init start.secure_ram }

-- a whole run, where these veneers enter the program's entries
abbrev pub mid_run : Mid → List Veneer → Start → List Turn → Bound → Run
mid_run p veneers start turns b =
    let enters = enters_of veneers p.entries in
    run_of (c_run enters (bodies enters p b) b.turns start (begins p start) turns)
