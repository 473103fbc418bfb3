-- A block of the data stack is 0 in both forms: by bytes, and by words.
use Rattle.std.proofs.Common.{◌≡◌, ℕ, zero, suc, ◌+◌, ◌-◌, ◌*◌, ◌/◌, ◌%◌, ◌≤◌, false, cond, List, refl, sym, ap, ◌∙◌, arith}
use Rattle.std.specs.Prelude.{slice_set}
use Rattle.ns_types.specs.State.{Memory}
use Rattle.ns_types.specs.Platform.{in_row, row}
use Rattle.ns_types.specs.Memory.{store, put_word, put_number}
use Rattle.c_mean.specs.Homes as tree
use Rattle.c_mean.specs.Homes.{zeroed}
use Rattle.mid_ir.specs.Activation as mid

outside_row : (a : ℕ) → 0x30000000 ≤ a → in_row 1 a ≡ false
outside_row a le = grind (arith, le)

put_is : (bytes : List ℕ) (o : ℕ) → put_word bytes o 0 ≡ slice_set (slice_set (slice_set (slice_set bytes o 0) (suc o) 0) (suc (suc o)) 0) (suc (suc (suc o))) 0
unfolding put_word
put_is bytes o =
    let a : o + 1 ≡ suc o = omega arith in
    let b : o + 2 ≡ suc (suc o) = omega arith in
    let c : o + 3 ≡ suc (suc (suc o)) = omega arith in
    ap (λ z. slice_set (slice_set (slice_set (slice_set bytes o 0) z 0) (o + 2) 0) (o + 3) 0) a
    ∙ ap (λ z. slice_set (slice_set (slice_set (slice_set bytes o 0) (suc o) 0) z 0) (o + 3) 0) b
    ∙ ap (λ z. slice_set (slice_set (slice_set (slice_set bytes o 0) (suc o) 0) (suc (suc o)) 0) z 0) c

store_is : (a : ℕ) (m : Memory) → 0x30000000 ≤ a → store 4 a 0 m ≡ record m { secure_ram = put_word m.secure_ram (a - 0x30000000) 0 }
unfolding store
store_is a m le = ap (λ z. cond z (record m { ns_ram = put_number 4 m.ns_ram (a - (row 1).from) 0 }) (record m { secure_ram = put_word m.secure_ram (a - 0x30000000) 0 })) (outside_row a le)

words_cleared : (k a : ℕ) (m : Memory) → 0x30000000 ≤ a → mid.cleared k a m ≡ tree.cleared a (k * 4) m
words_cleared zero a m le = refl
words_cleared (suc k) a m le =
    let o = a - 0x30000000 in
    let place : a + 4 - 0x30000000 ≡ suc (suc (suc (suc o))) = omega (arith, le) in
    let many : suc k * 4 ≡ suc (suc (suc (suc (k * 4)))) = omega arith in
    ap (mid.cleared k (a + 4)) (store_is a m le)
    ∙ words_cleared k (a + 4) (record m { secure_ram = put_word m.secure_ram o 0 }) (omega (arith, le))
    ∙ ap (λ z. record m { secure_ram = zeroed z (k * 4) (put_word m.secure_ram o 0) }) place
    ∙ ap (λ z. record m { secure_ram = zeroed (suc (suc (suc (suc o)))) (k * 4) z }) (put_is m.secure_ram o)
    ∙ ap (λ z. record m { secure_ram = zeroed o z m.secure_ram }) (sym many)

pub block_cleared : (n a : ℕ) (m : Memory) → 0x30000000 ≤ a → n % 8 ≡ 0 → mid.cleared (n / 4) a m ≡ tree.cleared a n m
block_cleared n a m le e = let q : n / 4 * 4 ≡ n = omega (arith, e) in words_cleared (n / 4) a m le ∙ ap (λ z. tree.cleared a z m) q
