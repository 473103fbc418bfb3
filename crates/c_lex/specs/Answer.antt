-- What the lexer answers.
use Rattle.std.specs.Prelude.{◌≡◌, ℕ, List, Result, Ok, Err}
use Rattle.cm_base.specs.declared.place.Place.{Place}
use Rattle.c_lex.specs.declared.token.Token.{Token}
use Rattle.c_lex.specs.declared.lexer.LexFault.{LexFault}
use Rattle.c_lex.specs.declared.lexer.LexFault.TheVariants as fault
use Rattle.c_lex.specs.Tokens.{HasTokens, FirstFault}

-- a fault that is named is the text's first
abbrev pub IsFault : ℕ → List ℕ → LexFault → Type 0
IsFault unit text (fault.At code place) = FirstFault unit text code place
IsFault unit text fault.NoMemory = Unit {0}

-- these tokens, unless memory ran out
abbrev pub GivesTokens : Result (List Token) LexFault → List Token → Type 0
GivesTokens (Ok found) tokens = found ≡ tokens
GivesTokens (Err (fault.At code place)) tokens = ⊥
GivesTokens (Err fault.NoMemory) tokens = Unit {0}

-- this fault, unless memory ran out
abbrev pub GivesFault : Result (List Token) LexFault → ℕ → Place → Type 0
GivesFault (Ok found) code place = ⊥
GivesFault (Err (fault.At c p)) code place = (c ≡ code) × (p ≡ place)
GivesFault (Err fault.NoMemory) code place = Unit {0}

-- the text has tokens, or a first fault
pub data HasAnswer (unit : ℕ) (text : List ℕ) : Type 0 where
  tokens : (list : List Token) → HasTokens unit text list → HasAnswer unit text
  fault_in : (code : ℕ) (place : Place) → FirstFault unit text code place → HasAnswer unit text
