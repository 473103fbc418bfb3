-- A file of parts with the right places is the library.
use Rattle.std.proofs.Common.{◌≡◌, ℕ, ◌+◌, List, ◌++◌, length, refl}
use Rattle.ns_types.specs.declared.event.Veneer.{Veneer}
use Rattle.elf32.specs.Constants.{HEADER_SIZE}
use Rattle.elf32.specs.Structures.{header_bytes}
use Rattle.elf32.specs.Tables.{names_of, symbol_table, string_table, section_names, table_sections_bytes, aligned, padded}
use Rattle.import_lib.specs.Library.{symbols_of, library_header, library_of}

pub library_from_parts : (vs : List Veneer) (s t : List ℕ) (m n at : ℕ) → s ≡ symbol_table (symbols_of vs) → t ≡ string_table (names_of (symbols_of vs)) → m ≡ length s → n ≡ length t → at ≡ aligned (HEADER_SIZE + m + n + length section_names) → header_bytes (library_header at) ++ (s ++ (t ++ (padded (HEADER_SIZE + m + n) section_names ++ table_sections_bytes (record { symbols_at = HEADER_SIZE; symbols_size = m; strings_at = HEADER_SIZE + m; strings_size = n; names_at = HEADER_SIZE + m + n })))) ≡ library_of vs
unfolding library_of
library_from_parts vs s t m n at es et em en ea = rw (ea, em, en, es, et) refl
