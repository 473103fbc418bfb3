-- The regions of the device, as its data sheet would list them.
use Rattle.std.specs.Prelude.{ℕ, ◌≡◌, List, [], ◌∷◌}
use Rattle.cm_base.specs.declared.regions.Row.{Row}
use Rattle.cm_base.specs.declared.regions.TheConstants.{PLATFORM, MAIN_SEAL, PROCESS_LIMIT, PROCESS_SEAL, DATA_POINTER, SEAL_WORD}

abbrev pub from_to : ℕ → ℕ → Row
from_to a b = record { from = a; to = b }

-- Non-secure ROM, Non-secure RAM; Secure ROM, Non-secure callable; Secure data, Secure control
abbrev pub device_rows : List Row
device_rows =
    from_to 0x00000000 0x00040000 ∷ from_to 0x20000000 0x20020000 ∷
    from_to 0x10000000 0x103FF000 ∷ from_to 0x103FF000 0x10400000 ∷
    from_to 0x30000000 0x30010000 ∷ from_to 0x30010000 0x3001A000 ∷ []

-- the constant holds them
abbrev pub HoldsDeviceRows : Type 0
HoldsDeviceRows = PLATFORM.rows ≡ device_rows

-- the addresses in Secure control that the start code knows, and the word that seals a stack
abbrev pub HoldsDeviceWords : Type 0
HoldsDeviceWords =
    (MAIN_SEAL ≡ 0x30017FF8) × (PROCESS_LIMIT ≡ 0x30018000) × (PROCESS_SEAL ≡ 0x30018FF8) × (DATA_POINTER ≡ 0x30019000) × (SEAL_WORD ≡ 0xFEF5EDA5)
