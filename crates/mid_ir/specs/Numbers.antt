-- Whether the numbers in a statement are in range: each names a variable or a function that there is, or a size.
use Rattle.std.specs.Prelude.{ℕ, suc, ◌==◌, ◌&&◌, ◌||◌, Bool, true, false, nat_le, nat_lt, List, [], ◌∷◌, length, Option, Some, None, slice_get}
use Rattle.std.specs.List.{list_all}
use Rattle.mid_ir.specs.declared.stmt.MidStmt.{MidStmt}
use Rattle.mid_ir.specs.declared.stmt.MidStmt.TheOpen.{MidStmt-F, Seq, Const, Set, Home, Load, Store, Call, NsCall, Range, Caller, If, Loop, Block, Break, Return}
use Rattle.mid_ir.specs.declared.stmt.MidStmt.TheFolds.{fold-MidStmt}
use Rattle.mid_ir.specs.declared.program.MidFn.{MidFn}

-- what stands around a statement: which numbers are those of functions with so many parameters, how many variables and how
-- many bytes of a block the function has, and whether it is an entry
pub record Around : Type 0 where
  pub is_function : ℕ → ℕ → Bool
  pub vars : ℕ
  pub block : ℕ
  pub entry : Bool

-- the kinds of conversions
abbrev pub is_kind : ℕ → Bool
is_kind k = nat_le k 4

-- how many bytes an access has
abbrev pub is_size : ℕ → Bool
is_size n = n == 1 || (n == 2 || n == 4)

abbrev pub is_var : Around → ℕ → Bool
is_var around v = nat_lt v around.vars

abbrev pub are_vars : Around → List ℕ → Bool
are_vars around vs = list_all (is_var around) vs

-- statements inside of k loops and blocks
abbrev pub all_at : ℕ → List (ℕ → Bool) → Bool
all_at k [] = true
all_at k (m ∷ ms) = m k && all_at k ms

-- A statement inside of k loops and blocks: a Break leaves no more than these, and only an entry asks who called it. An
-- address in the block isn't beyond its end.
abbrev pub range_step : Around → MidStmt-F (ℕ → Bool) → ℕ → Bool
range_step around (Seq ms) k = all_at k ms
range_step around (Const v n) k = is_var around v
range_step around (Set v o a b) k = are_vars around (v ∷ a ∷ b ∷ [])
range_step around (Home v offset) k = is_var around v && nat_le offset around.block
range_step around (Load v a size signed) k = are_vars around (v ∷ a ∷ []) && is_size size
range_step around (Store a size v) k = are_vars around (a ∷ v ∷ []) && is_size size
range_step around (Call v f args) k = are_vars around (v ∷ args) && around.is_function f (length args)
range_step around (NsCall v target args kind) k = are_vars around (v ∷ target ∷ args) && (nat_le (length args) 4 && is_kind kind)
range_step around (Range v p n flags) k = are_vars around (v ∷ p ∷ n ∷ flags ∷ [])
range_step around (Caller v) k = is_var around v && around.entry
range_step around (If v a b) k = is_var around v && (a k && b k)
range_step around (Loop a) k = a (suc k)
range_step around (Block a) k = a (suc k)
range_step around (Break n) k = nat_lt n k
range_step around (Return v) k = is_var around v

abbrev pub in_range : Around → MidStmt → ℕ → Bool
in_range around = fold-MidStmt (ℕ → Bool) (range_step around)

-- whether a function has so many parameters
abbrev pub has_params : ℕ → Option MidFn → Bool
has_params many None = false
has_params many (Some f) = length f.narrow == many

-- the numbers in a function, among these functions
abbrev pub function_in_range : List MidFn → MidFn → Bool
function_in_range functions f =
    in_range (record { is_function = λ n many. has_params many (slice_get functions n); vars = f.vars; block = f.block; entry = f.entry }) f.body 0
