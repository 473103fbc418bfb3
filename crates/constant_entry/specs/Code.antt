-- The code of a program whose one entry gives a number: the start code, the entry and its gateway.
use Rattle.std.specs.Prelude.{ℕ, ◌+◌, ◌-◌, ◌/◌, ◌%◌, ◌++◌, List, [], ◌∷◌, replicate, length}
use Rattle.std.specs.List.{flat_map}
use Rattle.cm_base.specs.declared.regions.TheConstants.{SECURE_ROM, NSC}
use Rattle.cm_base.specs.LittleEndian.{le32}
use Rattle.v8m_isa.specs.Bytes.{code_bytes}
use Rattle.v8m_isa.specs.declared.instr.Instr.{Instr}
use Rattle.v8m_isa.specs.declared.instr.Instr.TheVariants.{Mov, Bxns, Udf, Sg, Movw, Movt, Bic, Ldr, Str, B, Msr}
use Rattle.ns_types.specs.Operators.{subtract}
use Rattle.ns_types.specs.Platform.{row_size}
use Rattle.ns_types.specs.SecureRam.{data_start, main_limit, main_seal, process_limit, process_seal, data_pointer, seal_word}
use Rattle.ns_types.specs.State.{Device, device_of}

-- the addresses of the start code, of the entry and of the one UDF 0 in Secure ROM
abbrev pub start_place : ℕ
start_place = SECURE_ROM.from + 64

abbrev pub entry_place : ℕ
entry_place = SECURE_ROM.from + 208

abbrev pub stop_place : ℕ
stop_place = SECURE_ROM.from + 232

-- the address of the gateway, which is the first veneer
abbrev pub first_veneer : ℕ
first_veneer = NSC.from

-- a number into a register
abbrev pub number_code : ℕ → ℕ → List Instr
number_code d v = Movw d (v % 65536) ∷ Movt d (v / 65536) ∷ []

-- the limit of the main stack; the process stack pointer and its limit; the seals of both stacks; the data stack pointer
abbrev pub stacks_code : List Instr
stacks_code =
    number_code 0 main_limit ++ Msr 10 0 ∷ number_code 0 process_seal ++ Msr 9 0 ∷ number_code 1 process_limit ++ Msr 11 1 ∷ number_code 2 seal_word ++ Str 2 0 0 ∷ Str 2 0 4 ∷ number_code 0 main_seal ++ Str 2 0 0 ∷ Str 2 0 4 ∷ number_code 0 data_pointer ++ number_code 1 data_start ++ Str 1 0 0 ∷ []

-- MSP_NS and LR from the first words of Non-secure ROM, and 0 in all else that the caller sees
abbrev pub hand_code : List Instr
hand_code =
    Movw 0 0 ∷ Ldr 1 0 0 ∷ Msr 136 1 ∷ Ldr 1 0 4 ∷ Movw 2 1 ∷ Bic 14 1 2 ∷ Mov 1 0 ∷ Mov 2 0 ∷ Mov 3 0 ∷ Mov 4 0 ∷ Mov 5 0 ∷ Mov 6 0 ∷ Mov 7 0 ∷ Mov 8 0 ∷ Mov 9 0 ∷ Mov 10 0 ∷ Mov 11 0 ∷ Mov 12 0 ∷ Msr 0 0 ∷ []

-- the start code but for its BXNS LR
abbrev pub start_front : List Instr
start_front = stacks_code ++ hand_code

abbrev pub start_code : List Instr
start_code = start_front ++ Bxns 14 ∷ []

-- an entry that gives a number, but for its BXNS LR: the result in r0, and 0 in r1 to r3, r12 and the flags
abbrev pub entry_front : ℕ → List Instr
entry_front n = number_code 0 n ++ Movw 1 0 ∷ Mov 2 1 ∷ Mov 3 1 ∷ Mov 12 1 ∷ Msr 0 1 ∷ []

abbrev pub entry_code : ℕ → List Instr
entry_code n = entry_front n ++ Bxns 14 ∷ []

-- the branch from the gateway to the entry: it stands behind SG, and its offset is counted from 4 bytes behind its place
abbrev pub gateway_offset : ℕ
gateway_offset = subtract entry_place (first_veneer + 8)

abbrev pub gateway_code : List Instr
gateway_code = Sg ∷ B gateway_offset ∷ []

-- the main stack pointer, the reset address, and 14 times the place of UDF 0, each address with bit 0 set
abbrev pub vector_words : List ℕ
vector_words = main_seal ∷ (start_place + 1) ∷ replicate 14 (stop_place + 1)

abbrev pub vectors : List ℕ
vectors = flat_map le32 vector_words

-- Secure ROM up to its last used byte: the vectors, the start code, two bytes up to a multiple of 4, the entry and UDF 0
abbrev pub used_bytes : ℕ → List ℕ
used_bytes n = vectors ++ code_bytes start_code ++ 0 ∷ 0 ∷ [] ++ code_bytes (entry_code n) ++ code_bytes (Udf 0 ∷ [])

-- the Non-secure callable region
abbrev pub gateway_bytes : List ℕ
gateway_bytes = code_bytes gateway_code ++ replicate (row_size 3 - 8) 0

-- Secure ROM and the Non-secure callable region behind it
abbrev pub rom_bytes : ℕ → List ℕ
rom_bytes n = used_bytes n ++ replicate (row_size 2 - length (used_bytes n)) 0 ++ gateway_bytes

-- the device that holds them
abbrev pub constant_device : ℕ → Device
constant_device n = device_of (rom_bytes n)
