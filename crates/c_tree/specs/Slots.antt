-- The slots of a function, and the bytes of its placed locals.
use Rattle.std.specs.Prelude.{ℕ, ◌+◌, Bool, cond, List, [], ◌∷◌, length}
use Rattle.std.specs.List.{list_all}
use Rattle.std.specs.Option.{unwrap_or}
use Rattle.c_types.specs.declared.ctype.CType.{CType}
use Rattle.c_types.specs.Sizes.{fits, size_of}
use Rattle.c_tree.specs.declared.program.TFunction.{TFunction}
use Rattle.c_tree.specs.declared.program.TLocal.{TLocal}
use Rattle.c_tree.specs.Depth.{function_depth}
use Rattle.c_tree.specs.Placed.{is_placed, stmt_taken}

-- how many of these locals aren't placed, the first of them being local n, where the addresses of locals ns are taken
abbrev pub unplaced_from : List ℕ → ℕ → List TLocal → ℕ
unplaced_from ns n [] = 0
unplaced_from ns n (x ∷ xs) = cond (is_placed ns n x) 0 1 + unplaced_from ns (n + 1) xs

-- the locals of a function that aren't placed; its parameters are numbered before its locals
abbrev pub unplaced : TFunction → ℕ
unplaced f = unplaced_from (stmt_taken f.body) (length f.params) f.locals

-- the slots of a function: its parameters, the locals that aren't placed, and the greatest depth of an expression
abbrev pub slots : TFunction → ℕ
slots f = length f.params + unplaced f + function_depth f

-- the bytes of an object of this type
abbrev pub bytes_of : CType → ℕ
bytes_of t = unwrap_or (size_of t) 0

-- no array or struct in the types of these locals is too large
abbrev pub all_fit : List TLocal → Bool
all_fit xs = list_all (λ x. fits x.ctype) xs

-- the bytes of those locals that are placed, the first of all being local n
abbrev pub placed_from : List ℕ → ℕ → List TLocal → ℕ
placed_from ns n [] = 0
placed_from ns n (x ∷ xs) = cond (is_placed ns n x) (bytes_of x.ctype) 0 + placed_from ns (n + 1) xs

-- the bytes of a function's placed locals, without gaps and without parameters
abbrev pub placed_bytes : TFunction → ℕ
placed_bytes f = placed_from (stmt_taken f.body) (length f.params) f.locals
