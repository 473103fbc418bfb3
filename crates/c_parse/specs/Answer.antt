-- What the parser answers, by how the tokens read from left to right.
use Rattle.std.specs.Prelude.{◌≡◌, ℕ, ◌-◌, List, length, Option, Some, None, Result, Ok, Err, nat_eq, slice_get, if◌then◌else◌, [], ◌∷◌}
use Rattle.cm_base.specs.declared.place.Place.{Place}
use Rattle.c_lex.specs.declared.token.Token.{Token}
use Rattle.c_ast.specs.declared.stmt.Unit as the
use Rattle.c_ast.specs.declared.stmt.External.{External}
use Rattle.c_grammar.specs.declared.tokens.Fault.{Fault}
use Rattle.c_grammar.specs.declared.tokens.Fault.TheVariants.{Syntax, Deep}
use Rattle.c_grammar.specs.declared.tokens.ParseError.{ParseError}
use Rattle.c_grammar.specs.declared.tokens.ParseError.TheVariants as errors
use Rattle.c_grammar.specs.Tokens.{Read, fault}
use Rattle.c_grammar.specs.Reading.{Unit_so_far, read_unit}
use Rattle.c_parse.specs.declared.parser.SyntaxFault.{SyntaxFault}
use Rattle.c_parse.specs.declared.parser.SyntaxFault.TheVariants.{At, NoMemory}

-- the parts of the unit that was read, where it is read to the end
abbrev pub to_end : Unit_so_far → List Token → Result (List External) Fault
to_end u [] = Ok u.1
to_end u (k ∷ r) = Err (fault (k ∷ r))

abbrev pub whole_of : Read Unit_so_far → Result (List External) Fault
whole_of (Ok x) = to_end x.0 x.1
whole_of (Err f) = Err f

-- the parts of the unit, read to the end of the tokens, where at most 200 counted parts stand in one another
abbrev pub read_whole : List Token → Result (List External) Fault
read_whole ts = whole_of (read_unit 200 ts)

abbrev pub place_by : Option Token → Place
place_by None = record { unit = 0; line = 1; col = 1 }
place_by (Some k) = k.place

-- how many tokens stand before the one from which n are left, or before the last one where n is 0
abbrev pub before : ℕ → ℕ → ℕ
before n len = if nat_eq n 0 then len - 1 else len - n

-- the place of the token from which n are left, of the last one where n is 0, and line 1, column 1 where there is none
abbrev pub place_left : ℕ → List Token → Place
place_left n ts = place_by (slice_get ts (before n (length ts)))

-- the code and the place of a fault
abbrev pub told : List Token → Fault → ℕ × Place
told ts (Syntax n) = (10, place_left n ts)
told ts (Deep n) = (11, place_left n ts)

-- what is answered for the error of a reader
abbrev pub told_error : List Token → ParseError → SyntaxFault
told_error ts errors.Memory = NoMemory
told_error ts (errors.Fault f) = At (told ts f).0 (told ts f).1

-- What is answered is what was read, or its fault, unless memory ran out.
abbrev pub Answers : List Token → Result the.Unit SyntaxFault → Result (List External) Fault → Type 0
Answers ts (Ok u) read = read ≡ Ok u.parts
Answers ts (Err (At code place)) read = (f : Fault) × (read ≡ Err f) × (told ts f ≡ (code, place))
Answers ts (Err NoMemory) read = Unit {0}

-- the unit with these parts, unless memory ran out
abbrev pub GivesUnit : Result the.Unit SyntaxFault → List External → Type 0
GivesUnit (Ok u) all = u.parts ≡ all
GivesUnit (Err (At code place)) all = ⊥
GivesUnit (Err NoMemory) all = Unit {0}

-- the fault of this code at this place, unless memory ran out
abbrev pub GivesFault : Result the.Unit SyntaxFault → ℕ → Place → Type 0
GivesFault (Ok u) code place = ⊥
GivesFault (Err (At c p)) code place = (c ≡ code) × (p ≡ place)
GivesFault (Err NoMemory) code place = Unit {0}
