-- A function that keeps to what holds of each.
use Rattle.std.proofs.Common.{◌≡◌, ℕ, Bool, true, false, refl, sym, ap, ◌∙◌, subst, arith, List, [], ◌∷◌, codes, Option, Some, None}
use Rattle.std.specs.Prelude.{◌&&◌, slice_get}
use Rattle.c_names.specs.Name.{is_name, is_letter, is_digit, is_name_byte}
use Rattle.mid_ir.specs.declared.stmt.SetOp.TheVariants as op
use Rattle.mid_ir.specs.declared.stmt.MidStmt.{MidStmt}
use Rattle.mid_ir.specs.declared.stmt.MidStmt.TheVariants as mid
use Rattle.mid_ir.specs.declared.program.MidFn.{MidFn}
use Rattle.mid_ir.specs.Numbers.{Around, has_params, in_range, function_in_range}
use Rattle.mid_ir.specs.Conditions.{IsFunction}
use Rattle.mid_ir.proofs.RangeLaws.{range_Seq, range_Call, range_Set, range_Return}

-- int f(unsigned short x, int y) { return f(x, y) % y; }, in unit 2
abbrev body : List MidStmt
body = mid.Call 0 0 (0 ∷ 1 ∷ []) ∷ mid.Set 0 op.RemS 0 1 ∷ mid.Return 0 ∷ []

abbrev f : MidFn
f = record { name = codes "f"; unit = 2; entry = false; gives = true; narrow = 4 ∷ 0 ∷ []; vars = 2; block = 8; body = mid.Seq body }

abbrev around : Around
around = record { is_function = λ n many. has_params many (slice_get (f ∷ []) n); vars = 2; block = 8; entry = false }

three : (a b c : Bool) → a ≡ true → b ≡ true → c ≡ true → (a && (b && (c && true))) ≡ true
three true true true p q r = refl
three false b c p q r = p
three true false c p q r = q
three true true false p q r = r

numbers_are : function_in_range (f ∷ []) f ≡ true
numbers_are =
    range_Seq around body 0
    ∙ three (in_range around (mid.Call 0 0 (0 ∷ 1 ∷ [])) 0) (in_range around (mid.Set 0 op.RemS 0 1) 0) (in_range around (mid.Return 0) 0)
    (range_Call around 0 0 (0 ∷ 1 ∷ []) 0) (range_Set around 0 op.RemS 0 1 0) (range_Return around 0 0)

f_is : IsFunction (f ∷ []) f
unfolding is_name is_letter is_digit is_name_byte
f_is = record { named = refl; no_twin = refl; params = omega arith; entry = λ e. omega arith; kinds = refl; vars = omega arith; block = omega arith; aligned = refl; numbers = numbers_are }
