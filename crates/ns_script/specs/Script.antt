-- What a script says.
use Rattle.std.specs.Prelude.{◌≡◌, ℕ, ◌+◌, ◌-◌, ◌≤◌, ◌&&◌, ◌||◌, nat_le, ◌==◌, List, [], ◌∷◌, ◌++◌, length, take, drop, slice_index, replicate, codes, bytes_eq, Option, Some, None, Result, Ok, Err, if◌then◌else◌}
use Rattle.ns_types.specs.declared.turn.Start.{Start}
use Rattle.ns_types.specs.Turns.{Turn}
use Rattle.ns_types.specs.Platform.{row}
use Rattle.ns_types.specs.Memory.{ns_rom_size, ns_ram_size, secure_ram_size}
use Rattle.ns_script.specs.declared.line.Line.{Line}
use Rattle.ns_script.specs.declared.line.Line.TheVariants as line
use Rattle.ns_script.specs.declared.line.Region.{Region}
use Rattle.ns_script.specs.declared.line.Region.TheVariants.{SecureRam, NsRam, NsRom}
use Rattle.ns_script.specs.declared.script.Script.{Script}
use Rattle.ns_script.specs.declared.fault.ScriptFault.{ScriptFault}
use Rattle.ns_script.specs.declared.fault.ScriptFault.TheVariants as fault
use Rattle.ns_script.specs.Text.{◌>>=◌, some_if, lines, words, number, bytes_in, one_word}
use Rattle.ns_script.specs.Turns.{turn_said}

-- `fill`, with the word behind it
unfoldable pub fill_said : List (List ℕ) → Option Line
fill_said more = one_word more >>= λ h. number h >>= λ n. some_if (nat_le n 255) (line.Fill n)

-- where n bytes from an address stand behind `from`, if all lie before `to`
unfoldable pub within : ℕ → ℕ → ℕ → ℕ → Option ℕ
within from to a n = some_if (nat_le from a && nat_le (a + n) to) (a - from)

-- where n bytes from an address stand in the region, if all lie in it; Secure RAM is two rows, one behind the other
unfoldable pub place_in : Region → ℕ → ℕ → Option ℕ
place_in SecureRam a n = within (row 4).from (row 5).to a n
place_in NsRam a n = within (row 1).from (row 1).to a n
place_in NsRom a n = within (row 0).from (row 0).to a n

abbrev pub region_named : List ℕ → Option Region
region_named word =
    if bytes_eq word (codes "secure") then Some SecureRam
    else (if bytes_eq word (codes "ram") then Some NsRam
    else (if bytes_eq word (codes "rom") then Some NsRom else None))

-- a region's name, with the words behind it
abbrev pub put_said : Region → List (List ℕ) → Option Line
put_said region [] = None
put_said region (h ∷ more) =
    number h >>= λ a. one_word more >>= λ digits. bytes_in digits >>= λ bytes.
    place_in region a (length bytes) >>= λ place. Some (line.Put region place bytes)

abbrev pub words_said : List (List ℕ) → Option Line
words_said [] = None
words_said (word ∷ more) =
    if bytes_eq word (codes "fill") then fill_said more
    else (if bytes_eq word (codes "turn") then (turn_said more >>= λ t. Some (line.Turn t))
    else (region_named word >>= λ region. put_said region more))

-- what a line says
unfoldable pub line_said : List ℕ → Option Line
line_said text = if length text == 0 || slice_index text 0 == 35 then Some line.Nothing else words_said (words text)

-- the bytes with others from a place on
unfoldable pub with_bytes : List ℕ → ℕ → List ℕ → List ℕ
with_bytes bytes o more = take o bytes ++ more ++ drop (o + length more) bytes

-- memory with bytes from a place of a region on
unfoldable pub put : Region → ℕ → List ℕ → Start → Start
put SecureRam place more s = record s { secure_ram = with_bytes s.secure_ram place more }
put NsRam place more s = record s { ns_ram = with_bytes s.ns_ram place more }
put NsRom place more s = record s { ns_rom = with_bytes s.ns_rom place more }

abbrev pub filled : ℕ → Start → Start
filled b s = record s { secure_ram = replicate (length s.secure_ram) b }

-- what is said so far with what one more line says: memory is said before the first turn
unfoldable pub with_said : Line → Script → Option Script
with_said line.Nothing s = Some s
with_said (line.Fill b) s = some_if (length s.turns == 0) (record s { start = filled b s.start })
with_said (line.Put region place bytes) s = some_if (length s.turns == 0) (record s { start = put region place bytes s.start })
with_said (line.Turn t) s = Some (record s { turns = s.turns ++ t ∷ [] })

-- n bytes from a place of a region on lie in it
abbrev pub Lies : Region → ℕ → ℕ → Type 0
Lies SecureRam place n = place + n ≤ secure_ram_size
Lies NsRam place n = place + n ≤ ns_ram_size
Lies NsRom place n = place + n ≤ ns_rom_size

-- the bytes that a line puts lie in their region
abbrev pub LineLies : Line → Type 0
LineLies line.Nothing = Unit {0}
LineLies (line.Fill b) = Unit {0}
LineLies (line.Put region place bytes) = Lies region place (length bytes)
LineLies (line.Turn t) = Unit {0}

-- what is said so far with what the text of one more line says
unfoldable pub with_line : List ℕ → Script → Option Script
with_line text s = line_said text >>= λ said. with_said said s

-- a line that can't stand here is bad, and so is the script at its number
abbrev pub or_bad : ℕ → Option Script → (Script → Result Script ℕ) → Result Script ℕ
or_bad k None f = Err k
or_bad k (Some s) f = f s

-- what is said so far with what these lines say, of which the first has the number k
abbrev pub script_from : ℕ → Script → List (List ℕ) → Result Script ℕ
script_from k s [] = Ok s
script_from k s (text ∷ more) = or_bad k (with_line text s) (λ t. script_from (k + 1) t more)

unfoldable pub zeros : ℕ → List ℕ
zeros n = replicate n 0

-- memory before the first line
abbrev pub empty_start : Start
empty_start = record { secure_ram = zeros secure_ram_size; ns_ram = zeros ns_ram_size; ns_rom = zeros ns_rom_size }

abbrev pub empty_script : Script
empty_script = record { start = empty_start; turns = [] }

abbrev pub script_of_lines : List (List ℕ) → Result Script ℕ
script_of_lines [] = Err 1
script_of_lines (first ∷ more) = if bytes_eq first (codes "cmse-script 1") then script_from 2 empty_script more else Err 1

-- what a script says, or the number of its first bad line, from 1
unfoldable pub script_of : List ℕ → Result Script ℕ
script_of text = script_of_lines (lines text)

abbrev pub GivesScript : Result Script ScriptFault → Result Script ℕ → Type 0
GivesScript (Ok s) said = said ≡ Ok s
GivesScript (Err (fault.BadLine k)) said = said ≡ Err k
GivesScript (Err fault.NoMemory) said = Unit {0}

-- a call answers what the script says, unless memory runs out
abbrev pub Gives : Result (Start × List Turn) ScriptFault → Result Script ℕ → Type 0
Gives (Ok x) said = said ≡ Ok (record { start = x.0; turns = x.1 })
Gives (Err (fault.BadLine k)) said = said ≡ Err k
Gives (Err fault.NoMemory) said = Unit {0}
