-- The conditions after CMP a, b, on words a and b (DDI0553, condition codes): EQ, NE, HS, LO, MI, PL, VS, VC, HI, LS, GE,
-- LT, GT and LE, in the order of their numbers from 0 on. The others compare as C's operators do.
use Rattle.std.specs.Prelude.{ℕ, Bool, not, eqb, ltb, List, [], ◌∷◌, slice_index_or, false}
use Rattle.ns_types.specs.Operators.{subtract, is_negative, from_least}
use Rattle.v8m_core.specs.Values.{overflows}

abbrev pub comparisons : ℕ → ℕ → List Bool
comparisons a b =
    eqb a b ∷ not (eqb a b)
    ∷ not (ltb a b) ∷ ltb a b
    ∷ is_negative (subtract a b) ∷ not (is_negative (subtract a b))
    ∷ overflows a b ∷ not (overflows a b)
    ∷ ltb b a ∷ not (ltb b a)
    ∷ not (ltb (from_least a) (from_least b)) ∷ ltb (from_least a) (from_least b)
    ∷ ltb (from_least b) (from_least a) ∷ not (ltb (from_least b) (from_least a)) ∷ []

-- whether condition number k holds
abbrev pub compares : ℕ → ℕ → ℕ → Bool
compares k a b = slice_index_or (comparisons a b) k false
