-- Each text has a split up to its end, or up to a fault.
use Rattle.std.proofs.Common.{◌≡◌, ℕ, zero, suc, ◌<◌, ◌≤◌, ◌-◌, Bool, true, false, ltb, List, [], ◌∷◌, length, take, Option, Ok, Err, refl, subst, arith}
use Rattle.std.proofs.lemmas.Bool.{ltb-true, ltb-false}
use Rattle.c_lex.specs.declared.fault.Fault.{Fault}
use Rattle.c_lex.specs.declared.spot.Spot.{Spot}
use Rattle.c_lex.specs.declared.token.Kind.{Kind}
use Rattle.c_lex.specs.Spot.{start, after, place_of}
use Rattle.c_lex.specs.Tokens.{Splits, ends_at, tokens_of, Faulty, too_long, of_text}
use Rattle.c_lex.specs.Reading.{Read, Step, piece_at}
use Rattle.c_lex.specs.Answer.{HasAnswer, tokens, fault_in}
use Rattle.c_lex.proofs.PieceLaws.{piece_right}
use Rattle.c_lex.proofs.StepLaws.{step_is, step_shrinks}

-- where the pieces of a text end
data Ended (p : Spot) (text : List ℕ) : Type 0 where
  at_end : (xs : List (Option Kind × List ℕ)) → Splits p text xs [] → Ended p text
  at_fault : (xs : List (Option Kind × List ℕ)) (rest : List ℕ) (f : Fault) → Splits p text xs rest → Faulty (ends_at p xs).fresh rest f.code f.left → Ended p text

-- a piece, and then the rest to where it ends
one_more : (p q : Spot) (text : List ℕ) (k : Option Kind) (rest : List ℕ) → Step p text k q rest → Ended q rest → Ended p text
one_more p q text k rest s (at_end xs split) =
    at_end ((k, s.bytes) ∷ xs) (rest, s.parts, s.some, s.piece, subst (λ (z : Spot). Splits z rest xs []) s.at split)
one_more p q text k rest s (at_fault xs t f split fault) =
    at_fault ((k, s.bytes) ∷ xs) t f (rest, s.parts, s.some, s.piece, subst (λ (z : Spot). Splits z rest xs t) s.at split)
    (subst (λ (z : Spot). Faulty (ends_at z xs).fresh t f.code f.left) s.at fault)

-- the pieces of a text of at most n bytes
ended : (n : ℕ) (p : Spot) (text : List ℕ) → length text ≤ n → Ended p text
ended n p [] short = at_end [] refl
ended zero p (b ∷ r) short = absurd (omega arith)
ended (suc n) p (b ∷ r) short = go (λ q t h. ended n q t h) (piece_at p.fresh (b ∷ r)) refl
  where
    some : 0 < length (b ∷ r)
    some = omega arith

    go : ((q : Spot) (t : List ℕ) → length t ≤ n → Ended q t) → (read : Read (Option Kind)) → piece_at p.fresh (b ∷ r) ≡ read → Ended p (b ∷ r)
    go more (Ok (k, rest)) e =
        let s = step_is p (b ∷ r) k rest some e in
        let shorter = step_shrinks p _ (b ∷ r) k rest s in
        one_more p _ (b ∷ r) k rest s (more _ rest (omega arith))
    go more (Err f) e = at_fault [] (b ∷ r) f refl ((piece_right p.fresh b r).fails f e)

answer_of : (unit : ℕ) (text : List ℕ) → length text ≤ 1048576 → Ended start text → HasAnswer unit text
answer_of unit text fits (at_end xs split) = tokens (tokens_of unit start xs) (record { fits = fits; pieces = xs; split = split; are = refl })
answer_of unit text fits (at_fault xs rest f split fault) =
    fault_in f.code (place_of unit (after start (take (length text - f.left) text))) (of_text (record { fits = fits; pieces = xs; rest = rest; left = f.left; split = split; fault = fault; at = refl }))

pub has_answer : (unit : ℕ) (text : List ℕ) → HasAnswer unit text
has_answer unit text = go (ltb 1048576 (length text)) refl
  where
    go : (b : Bool) → ltb 1048576 (length text) ≡ b → HasAnswer unit text
    go true h = fault_in 5 (place_of unit start) (too_long (ltb-true 1048576 (length text) h))
    go false h = answer_of unit text (ltb-false 1048576 (length text) h) (ended (length text) start text (omega arith))
