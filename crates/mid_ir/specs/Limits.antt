-- What numbers of the machine can say of a number.
use Rattle.std.specs.Prelude.{ℕ, min}

-- what a u64 can say of a number: the number, or its last value
abbrev pub capped : ℕ → ℕ
capped n = min n 18446744073709551615
