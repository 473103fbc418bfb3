-- Memory by rows, little endian.
use Rattle.std.specs.Prelude.{◌≡◌, ℕ, ◌+◌, ◌-◌, ◌*◌, ◌/◌, ◌%◌, cond, ◌||◌, eqb, List, length, slice_index, slice_set, Option, Some, None}
use Rattle.ns_types.specs.declared.turn.Start.{Start}
use Rattle.ns_types.specs.Platform.{row, row_size, in_row, is_readable, is_writable}
use Rattle.ns_types.specs.State.{Device, Memory}

-- the number of 1, 2 or 4 bytes at a place of a row
unfoldable pub byte_at : List ℕ → ℕ → ℕ
byte_at bytes o = slice_index bytes o % 256

unfoldable pub half_at : List ℕ → ℕ → ℕ
half_at bytes o = (slice_index bytes o + 256 * slice_index bytes (o + 1)) % 65536

unfoldable pub word_at : List ℕ → ℕ → ℕ
word_at bytes o = (slice_index bytes o + 256 * slice_index bytes (o + 1) + 65536 * slice_index bytes (o + 2) + 16777216 * slice_index bytes (o + 3)) % 4294967296

abbrev pub number_at : ℕ → List ℕ → ℕ → ℕ
number_at size bytes o = cond (eqb size 4) (word_at bytes o) (cond (eqb size 2) (half_at bytes o) (byte_at bytes o))

-- a row with the low 1, 2 or 4 bytes of a number at a place
unfoldable pub put_byte : List ℕ → ℕ → ℕ → List ℕ
put_byte bytes o v = slice_set bytes o (v % 256)

unfoldable pub put_half : List ℕ → ℕ → ℕ → List ℕ
put_half bytes o v = slice_set (slice_set bytes o (v % 256)) (o + 1) (v / 256 % 256)

unfoldable pub put_word : List ℕ → ℕ → ℕ → List ℕ
put_word bytes o v = slice_set (slice_set (slice_set (slice_set bytes o (v % 256)) (o + 1) (v / 256 % 256)) (o + 2) (v / 65536 % 256)) (o + 3) (v / 16777216 % 256)

abbrev pub put_number : ℕ → List ℕ → ℕ → ℕ → List ℕ
put_number size bytes o v = cond (eqb size 4) (put_word bytes o v) (cond (eqb size 2) (put_half bytes o v) (put_byte bytes o v))

-- the number at an address that some row holds; Secure ROM stands apart from the state
unfoldable pub load : ℕ → ℕ → Device → Memory → ℕ
load size a device m =
    cond (in_row 4 a || in_row 5 a) (number_at size m.secure_ram (a - (row 4).from))
    (cond (in_row 1 a) (number_at size m.ns_ram (a - (row 1).from))
    (cond (in_row 0 a) (number_at size m.ns_rom (a - (row 0).from)) (number_at size device.rom (a - (row 2).from))))

-- memory with a number at an address that can be written
unfoldable pub store : ℕ → ℕ → ℕ → Memory → Memory
store size a v m =
    cond (in_row 1 a) (record m { ns_ram = put_number size m.ns_ram (a - (row 1).from) v }) (record m { secure_ram = put_number size m.secure_ram (a - (row 4).from) v })

-- a read and a write of 1, 2 or 4 bytes
abbrev pub read_of : Device → Memory → ℕ → ℕ → Option ℕ
read_of device m a size = cond (is_readable a size) (Some (load size a device m)) None

abbrev pub write_of : Memory → ℕ → ℕ → ℕ → Option Memory
write_of m a size v = cond (is_writable a size) (Some (store size a v m)) None

-- how many bytes the parts of memory have, and Secure ROM with the Non-secure callable region
abbrev pub ns_rom_size : ℕ
ns_rom_size = row_size 0

abbrev pub ns_ram_size : ℕ
ns_ram_size = row_size 1

abbrev pub secure_ram_size : ℕ
secure_ram_size = row_size 4 + row_size 5

abbrev pub rom_size : ℕ
rom_size = row_size 2 + row_size 3

-- memory has the bytes of its rows, and no more
pub record IsWhole (m : Memory) : Type 0 where
  pub ns_rom : length m.ns_rom ≡ ns_rom_size
  pub ns_ram : length m.ns_ram ≡ ns_ram_size
  pub secure_ram : length m.secure_ram ≡ secure_ram_size

-- what memory holds when the device is reset
abbrev pub memory_of : Start → Memory
memory_of start = record { ns_rom = start.ns_rom; ns_ram = start.ns_ram; secure_ram = start.secure_ram }

-- a start has the bytes of its rows, and no more
abbrev pub IsStart : Start → Type 0
IsStart start = IsWhole (memory_of start)
