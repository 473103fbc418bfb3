-- The registers of a list, which STMDB stores and LDMIA loads, a word each, the lowest at the lowest address.
use Rattle.std.specs.Prelude.{ℕ, ◌+◌, ◌/◌, ◌%◌, ◌^◌, Bool, true, cond, ◌&&◌, eqb, ltb, List, [], ◌∷◌}
use Rattle.ns_types.specs.declared.state.Regs.{Regs}
use Rattle.ns_types.specs.State.{Device, get_of, set_of, Memory}
use Rattle.ns_types.specs.Platform.{is_readable, is_writable}
use Rattle.ns_types.specs.Memory.{load, store}
use Rattle.ns_types.specs.Operators.{add}

-- the numbers of the registers that a list may have
abbrev pub registers : List ℕ
registers = 0 ∷ 1 ∷ 2 ∷ 3 ∷ 4 ∷ 5 ∷ 6 ∷ 7 ∷ 8 ∷ 9 ∷ 10 ∷ 11 ∷ 12 ∷ 14 ∷ []

abbrev pub is_register_number : ℕ → Bool
is_register_number n = ltb n 15

abbrev pub in_list : ℕ → ℕ → Bool
in_list list n = eqb (list / 2 ^ n % 2) 1

-- the address of the next word
abbrev pub next : ℕ → ℕ
next a = add a 4

-- Of the registers that are given: how many bytes those of a list take, whether each of their words from an address on
-- can be written or read, memory with them stored there, and the registers with them loaded.
unfoldable pub bytes_of : ℕ → List ℕ → ℕ
bytes_of list [] = 0
bytes_of list (n ∷ ns) = cond (in_list list n) 4 0 + bytes_of list ns

unfoldable pub all_writable : ℕ → List ℕ → ℕ → Bool
all_writable list [] a = true
all_writable list (n ∷ ns) a = cond (in_list list n) (is_writable a 4 && all_writable list ns (next a)) (all_writable list ns a)

unfoldable pub all_readable : ℕ → List ℕ → ℕ → Bool
all_readable list [] a = true
all_readable list (n ∷ ns) a = cond (in_list list n) (is_readable a 4 && all_readable list ns (next a)) (all_readable list ns a)

unfoldable pub all_stored : ℕ → List ℕ → Regs → ℕ → Memory → Memory
all_stored list [] r a m = m
all_stored list (n ∷ ns) r a m = cond (in_list list n) (all_stored list ns r (next a) (store 4 a (get_of r n) m)) (all_stored list ns r a m)

unfoldable pub all_loaded : ℕ → List ℕ → Device → Memory → ℕ → Regs → Regs
all_loaded list [] device m a r = r
all_loaded list (n ∷ ns) device m a r = cond (in_list list n) (all_loaded list ns device m (next a) (set_of r n (load 4 a device m))) (all_loaded list ns device m a r)
