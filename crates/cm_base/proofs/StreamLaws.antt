-- Laws on the bytes that a writer takes and a reader gives.
use Rattle.std.proofs.Common.{◌≡◌, ℕ, ◌-◌, ◌≤◌, List, [], ◌++◌, length, take, drop, Option, Some, None, IfSome, refl, sym, ◌∙◌, ap, append_assoc}
use Rattle.std.proofs.lemmas.List.{append-nil, take_at, take_all, take-append-drop, take_rest}
use Rattle.std.specs.Io.KnownBytes.{Appends, Consumes, Keeps, IsAtEnd}

pub Appends-none : (a : Option (List ℕ)) → Appends a a []
Appends-none None = tt
Appends-none (Some xs) = sym (append-nil xs)

pub Appends-then : (a b c : Option (List ℕ)) (x y : List ℕ) → Appends a b x → Appends b c y → Appends a c (x ++ y)
Appends-then None b c x y p q = tt
Appends-then (Some xs) None c x y p q = absurd p
Appends-then (Some xs) (Some ys) None x y p q = absurd q
Appends-then (Some xs) (Some ys) (Some zs) x y p q = q ∙ ap (λ l. l ++ y) p ∙ append_assoc xs x y

pub Appends-kept : (a b c : Option (List ℕ)) (x : List ℕ) → Appends a b x → Keeps b c → Appends a c x
Appends-kept None b c x p q = tt
Appends-kept (Some xs) None c x p q = absurd p
Appends-kept (Some xs) (Some ys) None x p q = absurd q
Appends-kept (Some xs) (Some ys) (Some zs) x p q = q ∙ p

pub Consumes-none : (a : Option (List ℕ)) → Consumes a a []
Consumes-none None = tt
Consumes-none (Some xs) = refl

pub Consumes-then : (a b c : Option (List ℕ)) (x y : List ℕ) → Consumes a b x → Consumes b c y → Consumes a c (x ++ y)
Consumes-then None b c x y p q = tt
Consumes-then (Some xs) None c x y p q = absurd p
Consumes-then (Some xs) (Some ys) None x y p q = absurd q
Consumes-then (Some xs) (Some ys) (Some zs) x y p q = p ∙ ap (λ l. x ++ l) q ∙ sym (append_assoc x y zs)

-- a reader of which n bytes were taken gave its first n bytes
pub first_taken : (a b : Option (List ℕ)) (x : List ℕ) (n : ℕ) → Consumes a b x → length x ≡ n → IfSome a (λ rest. x ≡ take n rest)
first_taken None b x n p e = tt
first_taken (Some xs) None x n p e = absurd p
first_taken (Some xs) (Some ys) x n p e = sym (ap (take n) p ∙ take_at x ys n e)

-- a reader at its end gave all
pub all_taken : (a b : Option (List ℕ)) (x : List ℕ) (n : ℕ) → Consumes a b x → IsAtEnd b → length x ≤ n → IfSome a (λ rest. x ≡ take n rest)
all_taken None b x n p end le = tt
all_taken (Some xs) None x n p end le = absurd p
all_taken (Some xs) (Some ys) x n p end le =
    sym (ap (take n) (p ∙ ap (λ l. x ++ l) end ∙ append-nil x) ∙ take_all n x le)

-- one more piece was written
pub one_more_piece : (a b c : Option (List ℕ)) (bytes rest done : List ℕ) (n : ℕ) → Appends b c (take n rest) → done ++ rest ≡ bytes → Appends a b done → (x : List ℕ) × (x ++ take (length rest - n) (drop n rest) ≡ bytes) × Appends a c x
one_more_piece a b c bytes rest done n more e p =
    (done ++ take n rest, append_assoc done (take n rest) (take (length rest - n) (drop n rest)) ∙ ap (λ l. done ++ (take n rest ++ l)) (take_rest rest n) ∙ ap (λ l. done ++ l) (take-append-drop n rest) ∙ e, Appends-then a b c done (take n rest) p more)
