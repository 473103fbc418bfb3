-- One byte of a number that is put.
use Rattle.std.proofs.Common.{◌≡◌, ℕ, suc, ◌+◌, ◌-◌, ◌/◌, ◌%◌, ◌<◌, List, ap, arith}
use Rattle.c_init.specs.Contents.{put, put_byte}

pub put_one : (count k at n : ℕ) (bytes : List ℕ) → k < count → put (count - k) at n bytes ≡ put (count - (k + 1)) (at + 1) (n / 256) (put_byte bytes at (n % 256))
put_one count k at n bytes h =
    let e : count - k ≡ suc (count - (k + 1)) = omega (arith, h) in
    ap (λ m. put m at n bytes) e
