-- What statements of the middle form do.
use Rattle.std.specs.Prelude.{ℕ, zero, suc, ◌+◌, Bool, true, false, List, [], ◌∷◌, map, Result, Ok, Err, bit_and, bit_or, bit_xor}
use Rattle.cm_base.specs.declared.stop.Stop.{Stop}
use Rattle.cm_base.specs.declared.stop.Stop.TheVariants as stop
use Rattle.ns_types.specs.declared.event.CEvent.TheVariants as c
use Rattle.ns_types.specs.declared.event.End.{End}
use Rattle.ns_types.specs.declared.event.End.TheVariants as end
use Rattle.ns_types.specs.Operators as o
use Rattle.ns_types.specs.Range.{checked_range}
use Rattle.ns_types.specs.Access.{Written, read_access, write_access}
use Rattle.ns_types.specs.CRun.{World, Outcome, Gave, Over, emit_plain}
use Rattle.mid_ir.specs.declared.stmt.SetOp.{SetOp}
use Rattle.mid_ir.specs.declared.stmt.SetOp.TheVariants as op
use Rattle.mid_ir.specs.declared.stmt.MidStmt.{MidStmt}
use Rattle.mid_ir.specs.declared.stmt.MidStmt.TheOpen.{MidStmt-F, Seq, Const, Set, Home, Load, Store, Call, NsCall, Range, Caller, If, Loop, Block, Break, Return}
use Rattle.mid_ir.specs.declared.stmt.MidStmt.TheFolds.{fold-MidStmt}
use Rattle.mid_ir.specs.Activation.{Vars, put, where_set, wrote, ns_call, Site}

-- How a statement ends: what follows it goes on, so many loops and blocks and one more are left, the function is left
-- with a value, or the run is over.
pub data Out : Type 0 where
  Next : Vars → World → Out
  Broke : ℕ → Vars → World → Out
  Gives : ℕ → World → Out
  Stops : End → World → Out

abbrev pub stop_at : Stop → World → Out
stop_at x w = Stops end.Stopped (emit_plain (c.Stopped x) w)

-- one statement, and then another
abbrev pub then_do : Out → (Vars → World → Out) → Out
then_do (Next vs w) f = f vs w
then_do (Broke k vs w) f = Broke k vs w
then_do (Gives x w) f = Gives x w
then_do (Stops e w) f = Stops e w

-- a block, by what its statement did
abbrev pub caught : Out → Out
caught (Next vs w) = Next vs w
caught (Broke zero vs w) = Next vs w
caught (Broke (suc k) vs w) = Broke k vs w
caught (Gives x w) = Gives x w
caught (Stops e w) = Stops e w

-- a loop, by what its next turn did and what follows this turn
abbrev pub again : Out → (Vars → World → Out) → Out
again (Next vs w) f = f vs w
again (Broke zero vs w) f = Next vs w
again (Broke (suc k) vs w) f = Broke k vs w
again (Gives x w) f = Gives x w
again (Stops e w) f = Stops e w

-- a loop of at most so many turns; one more isn't begun
abbrev pub loop : (Vars → World → Out) → ℕ → Vars → World → Out
loop turn zero vs w = Stops end.Spent w
loop turn (suc n) vs w = again (turn vs w) (loop turn n)

-- a value to a variable, or a stop
abbrev pub or_stop : ℕ → Vars → World → Result ℕ Stop → Out
or_stop v vs w (Ok x) = Next (put vs v x) w
or_stop v vs w (Err s) = stop_at s w

abbrev pub after_write : Vars → World → Result Written Stop → Out
after_write vs w (Ok x) = Next vs (wrote x w)
after_write vs w (Err s) = stop_at s w

-- the result of a call to a variable
abbrev pub from_call : ℕ → Vars → Outcome → Out
from_call v vs (Gave x w) = Next (put vs v x) w
from_call v vs (Over e w) = Stops e w

-- a word that is converted: 0 for not at all, then signed and unsigned values of 8 bits, and of 16 bits
abbrev pub narrowed : ℕ → ℕ → ℕ
narrowed (suc zero) x = o.to_signed 1 x
narrowed (suc (suc zero)) x = o.to_unsigned 1 x
narrowed (suc (suc (suc zero))) x = o.to_signed 2 x
narrowed (suc (suc (suc (suc zero)))) x = o.to_unsigned 2 x
narrowed _ x = x

-- the result of Non-secure code, converted, to a variable
abbrev pub from_outside : ℕ → ℕ → Vars → Outcome → Out
from_outside kind v vs (Gave x w) = Next (put vs v (narrowed kind x)) w
from_outside kind v vs (Over e w) = Stops e w

-- a call of Non-secure code, by its hand-over and what follows that
abbrev pub after_call : (World → Outcome) → ℕ → ℕ → Vars → World → Result World Stop → Out
after_call after kind v vs w (Ok u) = from_outside kind v vs (after u)
after_call after kind v vs w (Err s) = stop_at s w

-- what an operator makes of two values
abbrev pub applied : SetOp → ℕ → ℕ → Result ℕ Stop
applied op.Add a b = Ok (o.add a b)
applied op.Sub a b = Ok (o.subtract a b)
applied op.Mul a b = Ok (o.multiply a b)
applied op.DivS a b = o.divide_signed a b
applied op.DivU a b = o.divide_unsigned a b
applied op.RemS a b = o.remainder_signed a b
applied op.RemU a b = o.remainder_unsigned a b
applied op.And a b = Ok (bit_and a b)
applied op.Or a b = Ok (bit_or a b)
applied op.Xor a b = Ok (bit_xor a b)
applied op.Shl a b = Ok (o.shift_left a b)
applied op.ShrS a b = Ok (o.shift_right_signed a b)
applied op.ShrU a b = Ok (o.shift_right_unsigned a b)
applied op.Eq a b = Ok (o.equal a b)
applied op.Ne a b = Ok (o.differs a b)
applied op.LtS a b = Ok (o.less_signed a b)
applied op.LtU a b = Ok (o.less_unsigned a b)
applied op.LeS a b = Ok (o.at_most_signed a b)
applied op.LeU a b = Ok (o.at_most_unsigned a b)
applied op.Copy a b = Ok a
applied op.Sext8 a b = Ok (o.to_signed 1 a)
applied op.Sext16 a b = Ok (o.to_signed 2 a)
applied op.Zext8 a b = Ok (o.to_unsigned 1 a)
applied op.Zext16 a b = Ok (o.to_unsigned 2 a)

-- a number that was read, extended to a word
abbrev pub extended : Bool → ℕ → ℕ → ℕ
extended true size x = o.to_signed size x
extended false size x = x

abbrev pub read : ℕ → Bool → Result ℕ Stop → Result ℕ Stop
read size signed (Ok x) = Ok (extended signed size x)
read size signed (Err s) = Err s

-- what a statement does to variables and the world
abbrev pub Action : Type 0
Action = Vars → World → Out

abbrev pub do_all : List Action → Action
do_all [] vs w = Next vs w
do_all (a ∷ as_) vs w = then_do (a vs w) (do_all as_)

-- a statement, from what those in it do
abbrev pub run_step : Site → MidStmt-F Action → Action
run_step s (Seq ms) vs w = do_all ms vs w
run_step s (Const v n) vs w = Next (put vs v n) w
run_step s (Set v x a b) vs w = or_stop v vs w (applied x (vs a) (vs b))
run_step s (Home v offset) vs w = Next (put vs v (s.block + offset)) w
run_step s (Load v a size signed) vs w = or_stop v vs w (read size signed (read_access size (vs a) w.memory))
run_step s (Store a size v) vs w = after_write vs w (write_access size (vs a) (vs v) w.memory)
run_step s (Call v f args) vs w = from_call v vs (s.calls f (map vs args) w)
run_step s (NsCall v target args kind) vs w = after_call s.after kind v vs w (ns_call (vs target) (map vs args) w)
run_step s (Range v p n flags) vs w = Next (put vs v (checked_range (vs p) (vs n) (vs flags))) w
run_step s (Caller v) vs w = Next (put vs v s.caller) w
run_step s (If v a b) vs w = where_set (vs v) (a vs w) (b vs w)
run_step s (Loop a) vs w = loop a s.turns vs w
run_step s (Block a) vs w = caught (a vs w)
run_step s (Break k) vs w = Broke k vs w
run_step s (Return v) vs w = Gives (vs v) w

abbrev pub run : Site → MidStmt → Action
run s = fold-MidStmt Action (run_step s)

-- statements one after the other
abbrev pub run_all : Site → List MidStmt → Action
run_all s ms = do_all (map (run s) ms)
