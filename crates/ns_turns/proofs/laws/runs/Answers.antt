use Rattle.std.proofs.Common.{refl}
use Rattle.ns_turns.proofs.Pieces as pieces
use Rattle.ns_turns.proofs.laws.runs.Goals as goal

pub returns-clause-none : goal.returns-clause-none
returns-clause-none c device ts s = (pieces.none device ts s, refl)

pub returns-clause-append : goal.returns-clause-append
returns-clause-append c device ts us vs s t u es fs a b = (pieces.append device ts us vs s t u es fs a b, refl)

pub returns-clause-append_stop : goal.returns-clause-append_stop
returns-clause-append_stop c device ts us s t es fs x a b = (pieces.append_stop device ts us s t es fs x a b, refl)

pub returns-clause-step : goal.returns-clause-step
returns-clause-step c device ts s d side e = (pieces.step device ts s d side e, refl)

pub returns-clause-step_stops : goal.returns-clause-step_stops
returns-clause-step_stops c device ts s t x side e = (pieces.step_stops device ts s t x side e, refl)

pub returns-clause-turn : goal.returns-clause-turn
returns-clause-turn c device t ts s d side e = (pieces.turn device t ts s d side e, refl)

pub returns-clause-turn_stops : goal.returns-clause-turn_stops
returns-clause-turn_stops c device u ts s t x side e = (pieces.turn_stops device u ts s t x side e, refl)

pub returns-clause-goes : goal.returns-clause-goes
returns-clause-goes c device k ts s t side comes = (pieces.goes device k ts s t side comes, refl)

pub returns-clause-code : goal.returns-clause-code
returns-clause-code c device is ts s t side has does = (pieces.code device is ts s t side has does, refl)
