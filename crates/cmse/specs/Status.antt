-- The exit status and the line of each way in which a command ends.
use Rattle.std.specs.Prelude.{ℕ, ◌+◌, ◌/◌, ◌%◌, List, [], ◌∷◌, ◌++◌, map, codes, nat_lt, if◌then◌else◌}
use Rattle.std.specs.Fmt.{decimal}
use Rattle.cm_base.specs.declared.place.Refusal.{Refusal}
use Rattle.cm_base.specs.declared.place.Refusal.TheVariants.{At, Named, Count, OldAt, Library}
use Rattle.cmse.specs.declared.status.Status.{Status}
use Rattle.cmse.specs.declared.status.Status.TheVariants.{Done, Refused, BadWords, CannotRead, CannotWrite, NoMemory, BadInput}

-- the exit status
abbrev pub code_of : Status → ℕ
code_of Done = 0
code_of (Refused refusal) = 1
code_of (BadWords k) = 2
code_of (CannotRead name) = 3
code_of (CannotWrite name) = 3
code_of NoMemory = 4
code_of (BadInput file at) = 5

-- the code of a fault, with two digits at least
abbrev pub error_text : ℕ → List ℕ
error_text code = (if nat_lt code 10 then codes "E0" else codes "E") ++ decimal code

abbrev pub hex_digit : ℕ → ℕ
hex_digit d = if nat_lt d 10 then 48 + d else 87 + d

-- eight hexadecimal digits in lower case
unfoldable pub address_text : ℕ → List ℕ
address_text address =
    map (λ place. hex_digit (address / place % 16)) (0x10000000 ∷ 0x1000000 ∷ 0x100000 ∷ 0x10000 ∷ 0x1000 ∷ 0x100 ∷ 0x10 ∷ 1 ∷ [])

abbrev pub refusal_text : Refusal → List ℕ
refusal_text (At code file line col) =
    (file ++ (codes ":" ++ (decimal line ++ (codes ":" ++ decimal col)))) ++ (codes ": " ++ error_text code)
refusal_text (Named code name) = error_text code ++ (codes " " ++ name)
refusal_text (Count code found) = error_text code ++ (codes " " ++ decimal found)
refusal_text (OldAt name address) = codes "E64 " ++ (name ++ (codes " " ++ address_text address))
refusal_text (Library offset) = codes "E66 " ++ decimal offset

-- the line without its line feed
abbrev pub line_of : Status → List ℕ
line_of Done = []
line_of (Refused refusal) = refusal_text refusal
line_of (BadWords k) = codes "word " ++ decimal k
line_of (CannotRead name) = codes "cannot read " ++ name
line_of (CannotWrite name) = codes "cannot write " ++ name
line_of NoMemory = codes "no memory"
line_of (BadInput file at) = file ++ (codes ": bad at " ++ decimal at)

-- what is printed: nothing where the command succeeded, and else the line
abbrev pub text_of : Status → List ℕ
text_of Done = []
text_of status = line_of status ++ 10 ∷ []
