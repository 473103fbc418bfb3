-- What stands where in Secure RAM: Secure data, which belongs to the program, and behind it the stacks of Secure control.
use Rattle.std.specs.Prelude.{◌≡◌, ℕ, ◌-◌, take}
use Rattle.cm_base.specs.declared.regions.TheConstants.{SECURE_DATA, SECURE_CONTROL, MAIN_SEAL, PROCESS_LIMIT, PROCESS_SEAL, DATA_POINTER, SEAL_WORD}
use Rattle.ns_types.specs.Platform.{row_size}
use Rattle.ns_types.specs.State.{Memory}

-- where the data stack begins to grow upwards, at the start of Secure data where no object stands
abbrev pub data_start : ℕ
data_start = SECURE_DATA.from

-- the limit of the main stack, and where its two seal words stand, at which its pointer begins
abbrev pub main_limit : ℕ
main_limit = SECURE_CONTROL.from

abbrev pub main_seal : ℕ
main_seal = MAIN_SEAL

-- the same of the process stack
abbrev pub process_limit : ℕ
process_limit = PROCESS_LIMIT

abbrev pub process_seal : ℕ
process_seal = PROCESS_SEAL

-- the address of the word that holds the data stack's pointer
abbrev pub data_pointer : ℕ
data_pointer = DATA_POINTER

-- what a seal word is
abbrev pub seal_word : ℕ
seal_word = SEAL_WORD

-- the bytes of the main stack below its seal
abbrev pub room : ℕ
room = main_seal - main_limit

-- where the byte of an address stands in Secure RAM
abbrev pub ram_place : ℕ → ℕ
ram_place a = a - SECURE_DATA.from

-- The memory that a program knows is equal: Non-secure memory and Secure data. Secure control may differ.
pub record SameRows (a b : Memory) : Type 0 where
  pub ns_rom : a.ns_rom ≡ b.ns_rom
  pub ns_ram : a.ns_ram ≡ b.ns_ram
  pub secure_data : take (row_size 4) a.secure_ram ≡ take (row_size 4) b.secure_ram
