-- The places of labels as a map has them.
use Rattle.std.specs.Prelude.{ℕ, nat_eq, unwrap_or}
use Rattle.std.specs.HashMap.{HashMap, get}

-- the place of a label, or 0
abbrev pub place_in : {S : Type 0} → HashMap ℕ ℕ S → ℕ → ℕ
place_in m l = unwrap_or (get nat_eq m l) 0
