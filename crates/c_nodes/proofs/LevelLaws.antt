-- The readers where a level is left, and a turn of a repetition.
use Rattle.std.proofs.Common.{◌≡◌, ℕ, zero, suc, ◌+◌, ◌-◌, ◌<◌, sym, ◌∙◌, ◌≢◌, Bool, true, false, List, [], Ok, Err, refl, arith}
use Rattle.c_lex.specs.declared.token.Token.{Token}
use Rattle.c_lex.specs.declared.token.Keyword.TheVariants as word
use Rattle.c_grammar.specs.declared.tokens.Sign.TheVariants.{Word}
use Rattle.c_grammar.specs.Tokens.{Read, ◌>>=◌, next_is, begins_expr, begins_step, begins_declarator, begins_initial, begins_stmt}
use Rattle.c_grammar.specs.Grammar.{joined}
use Rattle.c_grammar.specs.Reading.{Readers, levels, deep_if, no_nameless, no_either, read_assign, read_cond, read_cast, read_stepped, read_structs, read_declarator, read_nameless, read_initial, read_stmt, read_either, read_binary, read_more_ops, repeat}

pub assign_none : (names : List (List ℕ)) (n : ℕ) (ts : List Token) → n ≡ 0 → (levels names n).assign ts ≡ Err (deep_if (begins_expr names ts) ts)
unfolding levels
assign_none names zero ts e = refl
assign_none names (suc n) ts e = absurd (omega arith)

pub assign_some : (names : List (List ℕ)) (n : ℕ) (ts : List Token) → n ≢ 0 → (levels names n).assign ts ≡ read_assign names (levels names (n - 1)) ts
unfolding levels
assign_some names zero ts e = absurd (omega arith)
assign_some names (suc n) ts e = let p : suc n - 1 ≡ n = omega arith in rw p refl

pub cond_none : (names : List (List ℕ)) (n : ℕ) (ts : List Token) → n ≡ 0 → (levels names n).cond ts ≡ Err (deep_if (begins_expr names ts) ts)
unfolding levels
cond_none names zero ts e = refl
cond_none names (suc n) ts e = absurd (omega arith)

pub cond_some : (names : List (List ℕ)) (n : ℕ) (ts : List Token) → n ≢ 0 → (levels names n).cond ts ≡ read_cond names (levels names (n - 1)) ts
unfolding levels
cond_some names zero ts e = absurd (omega arith)
cond_some names (suc n) ts e = let p : suc n - 1 ≡ n = omega arith in rw p refl

pub cast_none : (names : List (List ℕ)) (n : ℕ) (ts : List Token) → n ≡ 0 → (levels names n).cast ts ≡ Err (deep_if (begins_expr names ts) ts)
unfolding levels
cast_none names zero ts e = refl
cast_none names (suc n) ts e = absurd (omega arith)

pub cast_some : (names : List (List ℕ)) (n : ℕ) (ts : List Token) → n ≢ 0 → (levels names n).cast ts ≡ read_cast names (levels names (n - 1)) ts
unfolding levels
cast_some names zero ts e = absurd (omega arith)
cast_some names (suc n) ts e = let p : suc n - 1 ≡ n = omega arith in rw p refl

pub stepped_none : (names : List (List ℕ)) (n : ℕ) (ts : List Token) → n ≡ 0 → (levels names n).stepped ts ≡ Err (deep_if (begins_step ts) ts)
unfolding levels
stepped_none names zero ts e = refl
stepped_none names (suc n) ts e = absurd (omega arith)

pub stepped_some : (names : List (List ℕ)) (n : ℕ) (ts : List Token) → n ≢ 0 → (levels names n).stepped ts ≡ read_stepped names (levels names (n - 1)) ts
unfolding levels
stepped_some names zero ts e = absurd (omega arith)
stepped_some names (suc n) ts e = let p : suc n - 1 ≡ n = omega arith in rw p refl

pub structs_none : (names : List (List ℕ)) (n : ℕ) (ts : List Token) → n ≡ 0 → (levels names n).structs ts ≡ Err (deep_if (next_is (Word word.Struct) ts) ts)
unfolding levels
structs_none names zero ts e = refl
structs_none names (suc n) ts e = absurd (omega arith)

pub structs_some : (names : List (List ℕ)) (n : ℕ) (ts : List Token) → n ≢ 0 → (levels names n).structs ts ≡ read_structs names (levels names (n - 1)) ts
unfolding levels
structs_some names zero ts e = absurd (omega arith)
structs_some names (suc n) ts e = let p : suc n - 1 ≡ n = omega arith in rw p refl

pub declarator_none : (names : List (List ℕ)) (n : ℕ) (ts : List Token) → n ≡ 0 → (levels names n).declarator ts ≡ Err (deep_if (begins_declarator names ts) ts)
unfolding levels
declarator_none names zero ts e = refl
declarator_none names (suc n) ts e = absurd (omega arith)

pub declarator_some : (names : List (List ℕ)) (n : ℕ) (ts : List Token) → n ≢ 0 → (levels names n).declarator ts ≡ read_declarator names (levels names (n - 1)) ts
unfolding levels
declarator_some names zero ts e = absurd (omega arith)
declarator_some names (suc n) ts e = let p : suc n - 1 ≡ n = omega arith in rw p refl

pub nameless_none : (names : List (List ℕ)) (n : ℕ) (ts : List Token) → n ≡ 0 → (levels names n).nameless ts ≡ no_nameless ts
unfolding levels
nameless_none names zero ts e = refl
nameless_none names (suc n) ts e = absurd (omega arith)

pub nameless_some : (names : List (List ℕ)) (n : ℕ) (ts : List Token) → n ≢ 0 → (levels names n).nameless ts ≡ read_nameless names (levels names (n - 1)) ts
unfolding levels
nameless_some names zero ts e = absurd (omega arith)
nameless_some names (suc n) ts e = let p : suc n - 1 ≡ n = omega arith in rw p refl

pub initials_none : (names : List (List ℕ)) (n : ℕ) (ts : List Token) → n ≡ 0 → (levels names n).initials ts ≡ Err (deep_if (begins_initial names ts) ts)
unfolding levels
initials_none names zero ts e = refl
initials_none names (suc n) ts e = absurd (omega arith)

pub initials_some : (names : List (List ℕ)) (n : ℕ) (ts : List Token) → n ≢ 0 → (levels names n).initials ts ≡ read_initial names (levels names (n - 1)) ts
unfolding levels
initials_some names zero ts e = absurd (omega arith)
initials_some names (suc n) ts e = let p : suc n - 1 ≡ n = omega arith in rw p refl

pub stmts_none : (names : List (List ℕ)) (n : ℕ) (ts : List Token) → n ≡ 0 → (levels names n).stmts ts ≡ Err (deep_if (begins_stmt names ts) ts)
unfolding levels
stmts_none names zero ts e = refl
stmts_none names (suc n) ts e = absurd (omega arith)

pub stmts_some : (names : List (List ℕ)) (n : ℕ) (ts : List Token) → n ≢ 0 → (levels names n).stmts ts ≡ read_stmt names (levels names (n - 1)) ts
unfolding levels
stmts_some names zero ts e = absurd (omega arith)
stmts_some names (suc n) ts e = let p : suc n - 1 ≡ n = omega arith in rw p refl

pub either_none : (names : List (List ℕ)) (n : ℕ) (ts : List Token) → n ≡ 0 → (levels names n).either ts ≡ no_either names ts
unfolding levels
either_none names zero ts e = refl
either_none names (suc n) ts e = absurd (omega arith)

pub either_some : (names : List (List ℕ)) (n : ℕ) (ts : List Token) → n ≢ 0 → (levels names n).either ts ≡ read_either names (levels names (n - 1)) ts
unfolding levels
either_some names zero ts e = absurd (omega arith)
either_some names (suc n) ts e = let p : suc n - 1 ≡ n = omega arith in rw p refl

pub binary_none : (below : Readers) (n : ℕ) (ts : List Token) → n ≡ 0 → read_binary below n ts ≡ below.cast ts
unfolding read_binary
binary_none below zero ts e = refl
binary_none below (suc n) ts e = absurd (omega arith)

pub binary_some : (below : Readers) (n : ℕ) (ts : List Token) → n ≢ 0 → read_binary below n ts ≡ (read_binary below (n - 1) ts >>= λ a. read_more_ops (read_binary below (n - 1)) (n - 1) [] a.1 >>= λ more. Ok (joined a.0 more.0, more.1))
unfolding read_binary
binary_some below zero ts e = absurd (omega arith)
binary_some below (suc n) ts e = let p : suc n - 1 ≡ n = omega arith in rw p refl

pub ruleset assign_rules = (assign_none, assign_some)

pub ruleset cond_rules = (cond_none, cond_some)

pub ruleset cast_rules = (cast_none, cast_some)

pub ruleset stepped_rules = (stepped_none, stepped_some)

pub ruleset structs_rules = (structs_none, structs_some)

pub ruleset declarator_rules = (declarator_none, declarator_some)

pub ruleset nameless_rules = (nameless_none, nameless_some)

pub ruleset initials_rules = (initials_none, initials_some)

pub ruleset stmts_rules = (stmts_none, stmts_some)

pub ruleset either_rules = (either_none, either_some)

pub ruleset binary_rules = (binary_none, binary_some)

pub repeat_none : {A : Type 0} (test : List Token → Bool) (one : A → List Token → Read A) (n : ℕ) (a : A) (ts : List Token) → n ≡ 0 → repeat test one n a ts ≡ Ok (a, ts)
unfolding repeat
repeat_none test one zero a ts e = refl
repeat_none test one (suc n) a ts e = absurd (omega arith)

pub repeat_ends : {A : Type 0} (test : List Token → Bool) (one : A → List Token → Read A) (n : ℕ) (a : A) (ts : List Token) → test ts ≡ false → repeat test one n a ts ≡ Ok (a, ts)
unfolding repeat
repeat_ends test one zero a ts e = refl
repeat_ends test one (suc n) a ts e = rw e refl

pub repeat_turns : {A : Type 0} (test : List Token → Bool) (one : A → List Token → Read A) (n : ℕ) (a : A) (ts : List Token) → n ≢ 0 → test ts ≡ true → repeat test one n a ts ≡ (one a ts >>= λ b. repeat test one (n - 1) b.0 b.1)
unfolding repeat
repeat_turns test one zero a ts ne e = absurd (omega arith)
repeat_turns test one (suc n) a ts ne e = let p : suc n - 1 ≡ n = omega arith in rw (e, p) refl

pub ruleset repeat_rules = (repeat_none, repeat_ends, repeat_turns)

-- A turn of a loop, between two values of its counter.
pub goes_on : {A : Type 0} (test : List Token → Bool) (one : A → List Token → Read A) (whole i : ℕ) (a b : A) (ts r : List Token) (total : Read A) →
    i < whole → test ts ≡ true → one a ts ≡ Ok (b, r) → repeat test one (whole - i) a ts ≡ total → repeat test one (whole - (i + 1)) b r ≡ total
goes_on test one whole i a b ts r total lt t e so_far =
    let p : whole - i - 1 ≡ whole - (i + 1) = omega arith in
    let q : repeat test one (whole - i) a ts ≡ repeat test one (whole - (i + 1)) b r = repeat_turns test one (whole - i) a ts (omega arith) t ∙ rw (e, p) refl in
    sym q ∙ so_far
