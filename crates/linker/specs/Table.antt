-- The places of symbols by their names, as the linker finds them (System V ABI, Symbol Table).
use Rattle.std.specs.Prelude.{ℕ, ◌+◌, ◌^◌, Bool, true, nat_lt, cond, List, [], ◌∷◌, ◌++◌, map, bytes_eq, Option, Some, None, is_some, unwrap_or}
use Rattle.std.specs.List.{fold, list_all}
use Rattle.ns_types.specs.declared.event.Veneer.{Veneer}
use Rattle.elf_object.specs.declared.object.Home.{Home}
use Rattle.elf_object.specs.declared.object.Home.TheVariants.{Undefined, Text, Init, Absolute}
use Rattle.elf_object.specs.declared.object.Sited.{Sited}
use Rattle.elf_object.specs.declared.object.Symbol.{Symbol}
use Rattle.elf_object.specs.Linked.{or_else}

-- names with their places
abbrev pub Names : Type 0
Names = List (List ℕ × ℕ)

-- the place of a name
abbrev pub found : Names → List ℕ → Option ℕ
found [] name = None
found (e ∷ es) name = cond (bytes_eq name e.0) (Some e.1) (found es name)

-- a name with its place at the end, unless the name is there already
abbrev pub added : Names → List ℕ → ℕ → Names
added names name place = cond (is_some (found names name)) names (names ++ (name, place) ∷ [])

-- the same where there is a place
abbrev pub added_if : Names → List ℕ → Option ℕ → Names
added_if names name None = names
added_if names name (Some place) = added names name place

-- the entries with the addresses of their veneers
abbrev pub veneer_names : List Veneer → Names
veneer_names veneers = fold (λ names v. added names v.name v.address) [] veneers

-- the place of a symbol that an object defines, where these are the entries
abbrev pub place_by : Names → Sited → List ℕ → ℕ → Home → Option ℕ
place_by entries s name value Undefined = None
place_by entries s name value Text = or_else (found entries name) (Some (s.text_at + value))
place_by entries s name value Init = or_else (found entries name) (Some (s.init_at + value))
place_by entries s name value Absolute = Some value

-- the names that objects define, with their places
abbrev pub with_symbol : Names → Sited → Names → Symbol → Names
with_symbol entries s names symbol = added_if names symbol.name (place_by entries s symbol.name symbol.value symbol.home)

abbrev pub with_object : Names → Names → Sited → Names
with_object entries names s = fold (with_symbol entries s) names s.object.symbols

abbrev pub defined : Names → List Sited → Names
defined entries all = fold (with_object entries) [] all

-- the place of a symbol of an object
abbrev pub symbol_place : Names → Names → Sited → Symbol → ℕ
symbol_place entries names s symbol =
    unwrap_or (or_else (place_by entries s symbol.name symbol.value symbol.home) (found names symbol.name)) 0

-- the places of an object's symbols by their numbers
abbrev pub places_of : Names → Names → Sited → List ℕ
places_of entries names s = map (symbol_place entries names s) s.object.symbols

-- whether the place of a symbol in its part is an address
abbrev pub is_address : Sited → ℕ → Home → Bool
is_address s value Undefined = true
is_address s value Text = nat_lt (s.text_at + value) (2 ^ 32)
is_address s value Init = nat_lt (s.init_at + value) (2 ^ 32)
is_address s value Absolute = true

abbrev pub have_addresses : Sited → Bool
have_addresses s = list_all (λ symbol. is_address s symbol.value symbol.home) s.object.symbols
