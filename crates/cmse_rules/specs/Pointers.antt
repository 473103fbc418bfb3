-- Pointers to functions: Non-secure function types, and pointers to Secure functions.
use Rattle.std.specs.Prelude.{ℕ, zero, suc, Bool, true, false, not, ◌&&◌, ◌||◌, cond, nat_lt, List, length, map, Option, Some, None, option_map, Result, Ok, Err}
use Rattle.std.specs.List.{list_any}
use Rattle.cm_base.specs.declared.place.Place.{Place}
use Rattle.c_types.specs.Kind.{Look, look}
use Rattle.c_types.specs.Derived.{function, plain}
use Rattle.c_types.specs.declared.ctype.CType.{CType}
use Rattle.c_types.specs.declared.ctype.Shape.{Shape}
use Rattle.c_types.specs.declared.ctype.Shape.TheVariants as made
use Rattle.c_types.specs.declared.ctype.Shape.TheOpen as shape
use Rattle.c_types.specs.declared.ctype.Shape.TheOpen.{Shape-F, CType-F}
use Rattle.c_types.specs.declared.ctype.Shape.TheFolds.{fold-CType}
use Rattle.c_rows.specs.Answers.{Checked, fault}

-- how many pointers and arrays lead to what isn't one
abbrev pub shape_steps : Shape-F ℕ ℕ → ℕ
shape_steps (shape.Pointer to) = suc to
shape_steps (shape.Array of len) = suc of
shape_steps _ = zero

abbrev pub type_steps : CType-F ℕ ℕ → ℕ
type_steps t = t.shape

abbrev pub steps : CType → ℕ
steps = fold-CType ℕ ℕ shape_steps type_steps

-- a type of this shape with the qualifiers of t
abbrev pub reshaped : CType → Shape → CType
reshaped t s = record { shape = s; is_const = t.is_const; is_volatile = t.is_volatile }

-- a function type as Non-secure code has it
abbrev pub marked_function : CType → Look → Option CType
marked_function t (shape.Function gives params nonsecure) = Some (reshaped t (made.Function gives params true))
marked_function t _ = None

abbrev pub marked_behind : (CType → Option CType) → CType → Look → Option CType
marked_behind mark t (shape.Pointer to) = option_map (λ x. reshaped t (made.Pointer x)) (mark to)
marked_behind mark t (shape.Array of len) = option_map (λ x. reshaped t (made.Array x len)) (mark of)
marked_behind mark t _ = None

abbrev pub marked_in : ℕ → CType → Option CType
marked_in zero t = marked_function t (look t)
marked_in (suc n) t = marked_behind (marked_in n) t (look t)

-- The type in which the function type that is reached through pointers and arrays is Non-secure; none where none is reached.
abbrev pub marked : CType → Option CType
marked t = marked_in (steps t) t

-- how many parameters the function type has that is reached so
abbrev pub shape_params : Shape-F (Option ℕ) (Option ℕ) → Option ℕ
shape_params (shape.Pointer to) = to
shape_params (shape.Array of len) = of
shape_params (shape.Function gives params nonsecure) = Some (length params)
shape_params _ = None

abbrev pub type_params : CType-F (Option ℕ) (Option ℕ) → Option ℕ
type_params t = t.shape

abbrev pub reached_params : CType → Option ℕ
reached_params = fold-CType (Option ℕ) (Option ℕ) shape_params type_params

abbrev pub is_many : Option ℕ → Bool
is_many (Some n) = nat_lt 4 n
is_many None = false

abbrev pub or_fault : Option CType → Place → Checked CType
or_fault (Some t) place = Ok t
or_fault None place = fault 40 place

-- What the attribute cmse_nonsecure_call makes of a declared type: E42 where the function type has more than four parameters,
-- and E40 where there is none, at the declared name.
abbrev pub nonsecure_declared : CType → Place → Checked CType
nonsecure_declared t place = cond (is_many (reached_params t)) (fault 42 place) (or_fault (marked t) place)

-- Of a type: whether it is a function type that isn't Non-secure, and whether a pointer to one stands in it.
pub record Secure : Type 0 where
  pub is_function : Bool
  pub has_pointer : Bool

abbrev pub shape_secure : Shape-F Secure Secure → Secure
shape_secure shape.Void = record { is_function = false; has_pointer = false }
shape_secure (shape.Arith a) = record { is_function = false; has_pointer = false }
shape_secure (shape.Pointer to) = record { is_function = false; has_pointer = to.is_function || to.has_pointer }
shape_secure (shape.Array of len) = record { is_function = false; has_pointer = of.has_pointer }
shape_secure (shape.Struct number name size align) = record { is_function = false; has_pointer = false }
shape_secure (shape.Function gives params nonsecure) = record { is_function = not nonsecure; has_pointer = gives.has_pointer || list_any (λ p. p.has_pointer) params }

abbrev pub type_secure : CType-F Secure Secure → Secure
type_secure t = t.shape

abbrev pub secure : CType → Secure
secure = fold-CType Secure Secure shape_secure type_secure

-- Whether somewhere in the type a pointer points to a Secure function. The members of a struct are types of their own.
abbrev pub has_secure_pointer : CType → Bool
has_secure_pointer t = (secure t).has_pointer

abbrev pub any_secure_pointer : List CType → Bool
any_secure_pointer ts = list_any (λ p. p.has_pointer) (map secure ts)
