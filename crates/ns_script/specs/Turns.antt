-- What the line of a turn says.
use Rattle.std.specs.Prelude.{ℕ, ◌+◌, Bool, true, false, ◌&&◌, nat_le, ◌==◌, List, [], ◌∷◌, ◌++◌, codes, bytes_eq, Option, Some, None, unwrap_or, if◌then◌else◌}
use Rattle.std.specs.List.{list_any}
use Rattle.std.specs.Option.{option_to_list}
use Rattle.ns_types.specs.declared.turn.Item.{Item}
use Rattle.ns_types.specs.declared.turn.Item.TheVariants.{Write, Read}
use Rattle.ns_types.specs.Turns.{Turn}
use Rattle.ns_script.specs.declared.turn.Setting.{Setting}
use Rattle.ns_script.specs.declared.turn.Setting.TheVariants.{Register, Access}
use Rattle.ns_script.specs.Text.{◌>>=◌, some_if, before, behind, number}

-- the names of the registers: r0 to r12, 13 lr, 14 flags, 15 msp, 16 psp
unfoldable pub names : List (List ℕ)
names = codes "r0" ∷ codes "r1" ∷ codes "r2" ∷ codes "r3" ∷ codes "r4" ∷ codes "r5" ∷ codes "r6" ∷ codes "r7" ∷ codes "r8" ∷ codes "r9" ∷ codes "r10" ∷ codes "r11" ∷ codes "r12" ∷ codes "lr" ∷ codes "flags" ∷ codes "msp" ∷ codes "psp" ∷ []

-- the place of a name among these, of which the first has the place k
abbrev pub place_from : ℕ → List (List ℕ) → List ℕ → Option ℕ
place_from k [] name = None
place_from k (n ∷ ns) name = if bytes_eq name n then Some k else place_from (k + 1) ns name

unfoldable pub place_of : List ℕ → Option ℕ
place_of name = place_from 0 names name

-- ADDRESS:BYTE
unfoldable pub write_said : List ℕ → Option Setting
write_said text =
    behind 58 text >>= λ low. number (before 58 text) >>= λ at. number low >>= λ byte.
    some_if (nat_le byte 255) (Access (Write at byte))

-- what a name with its value says
unfoldable pub named : List ℕ → List ℕ → Option Setting
named name value =
    if bytes_eq name (codes "put") then write_said value
    else (if bytes_eq name (codes "get") then (number value >>= λ at. Some (Access (Read at)))
    else (place_of name >>= λ place. number value >>= λ n. Some (Register place n)))

-- NAME=VALUE
unfoldable pub word_said : List ℕ → Option Setting
word_said word = behind 61 word >>= λ value. named (before 61 word) value

-- what words say, each something
abbrev pub settings : List (List ℕ) → Option (List Setting)
settings [] = Some []
settings (word ∷ more) = word_said word >>= λ s. settings more >>= λ ss. Some (s ∷ ss)

abbrev pub is_at : ℕ → Setting → Bool
is_at k (Register place n) = place == k
is_at k (Access item) = false

-- the setting's register is named again
abbrev pub is_again : Setting → List Setting → Bool
is_again (Register place n) more = list_any (is_at place) more
is_again (Access item) more = false

-- no register is named twice
abbrev pub each_once : List Setting → Bool
each_once [] = true
each_once (s ∷ more) = if is_again s more then false else each_once more

abbrev pub value_at : ℕ → Setting → Option ℕ
value_at k (Register place n) = some_if (place == k) n
value_at k (Access item) = None

-- the value of a register, which is 0 where it isn't named
abbrev pub value_of : ℕ → List Setting → ℕ
value_of k [] = 0
value_of k (s ∷ more) = unwrap_or (value_at k s) (value_of k more)

abbrev pub item_in : Setting → Option Item
item_in (Register place n) = None
item_in (Access item) = Some item

-- the items, in their order
abbrev pub items_of : List Setting → List Item
items_of [] = []
items_of (s ∷ more) = option_to_list (item_in s) ++ items_of more

-- the turn that goes to the target with these settings
unfoldable pub turn_made : ℕ → List Setting → Turn
turn_made target ss = record {
  r = value_of 0 ss ∷ value_of 1 ss ∷ value_of 2 ss ∷ value_of 3 ss ∷ value_of 4 ss ∷ value_of 5 ss ∷ value_of 6 ss ∷ value_of 7 ss ∷ value_of 8 ss ∷ value_of 9 ss ∷ value_of 10 ss ∷ value_of 11 ss ∷ value_of 12 ss ∷ [];
  lr = value_of 13 ss;
  nzcvq = value_of 14 ss;
  msp_ns = value_of 15 ss;
  psp_ns = value_of 16 ss;
  items = items_of ss;
  target = target;
}

-- the words behind `turn`
abbrev pub turn_said : List (List ℕ) → Option Turn
turn_said [] = None
turn_said (h ∷ more) =
    number h >>= λ target. settings more >>= λ ss.
    some_if (each_once ss && nat_le (value_of 14 ss) 31) (turn_made target ss)
