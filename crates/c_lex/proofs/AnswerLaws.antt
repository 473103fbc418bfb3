-- What the lexer answers is the one answer.
use Rattle.std.proofs.Common.{◌≡◌, ℕ, ◌-◌, ◌≤◌, List, length, take, Err, sym}
use Rattle.cm_base.specs.declared.place.Place.{Place}
use Rattle.c_lex.specs.declared.fault.Fault.{Fault}
use Rattle.c_lex.specs.declared.token.Token.{Token}
use Rattle.c_lex.specs.declared.lexer.LexFault.{LexFault}
use Rattle.c_lex.specs.declared.lexer.LexFault.TheVariants as fault
use Rattle.c_lex.specs.Spot.{start, after, place_of}
use Rattle.c_lex.specs.Tokens.{HasTokens, FirstFault, of_text}
use Rattle.c_lex.specs.Reading.{EndsAt, AreTokens}
use Rattle.c_lex.specs.Answer.{IsFault, GivesTokens, GivesFault}
use Rattle.c_lex.proofs.SplitLaws.{not_both, one_fault}

pub fault_is : (unit : ℕ) (text : List ℕ) (f : Fault) (place : Place) → length text ≤ 1048576 → EndsAt text f → place ≡ place_of unit (after start (take (length text - f.left) text)) → FirstFault unit text f.code place
fault_is unit text f place fits e at = of_text (record { fits = fits; pieces = e.pieces; rest = e.rest; left = f.left; split = e.split; fault = e.fault; at = sym at })

pub tokens_are : (unit : ℕ) (text : List ℕ) (tokens : List Token) → length text ≤ 1048576 → AreTokens unit text tokens → HasTokens unit text tokens
tokens_are unit text tokens fits h = record { fits = fits; pieces = h.pieces; split = h.split; are = h.are }

pub fault_no_tokens : (unit : ℕ) (text : List ℕ) (e : LexFault) → IsFault unit text e → (tokens : List Token) → HasTokens unit text tokens → GivesTokens (Err e) tokens
fault_no_tokens unit text (fault.At code place) h tokens k = not_both unit text tokens code place k h
fault_no_tokens unit text fault.NoMemory h tokens k = tt

pub fault_gives : (unit : ℕ) (text : List ℕ) (e : LexFault) → IsFault unit text e → (code : ℕ) (place : Place) → FirstFault unit text code place → GivesFault (Err e) code place
fault_gives unit text (fault.At c p) h code place k = one_fault unit text c code p place h k
fault_gives unit text fault.NoMemory h code place k = tt
