-- The calls of arm_cmse.h (ECM0359818).
use Rattle.std.specs.Prelude.{ℕ, Bool, not, cond, List, [], ◌∷◌, Option, Some, None, Ok}
use Rattle.cm_base.specs.declared.place.Place.{Place}
use Rattle.c_types.specs.Derived.{arith_type, unqualified}
use Rattle.c_types.specs.declared.arith.Arith.TheVariants as a
use Rattle.c_types.specs.declared.ctype.CType.{CType}
use Rattle.c_tree.specs.declared.expr.Expr.{Expr}
use Rattle.c_tree.specs.declared.expr.ExprKind.TheVariants as kind
use Rattle.c_rows.specs.declared.calls.Arg.{Arg}
use Rattle.c_rows.specs.declared.intrinsics.Intrinsic.{Intrinsic}
use Rattle.c_rows.specs.declared.intrinsics.Intrinsic.TheVariants.{CheckRange, CheckObject, CreatePointer, IsPointer, Caller}
use Rattle.c_rows.specs.Answers.{Checked, fault, ◌>>=◌}
use Rattle.c_rows.specs.Nodes.{node, int_type, void_pointer, size_node}
use Rattle.c_rows.specs.Values.{fitted}
use Rattle.c_rows.specs.Pointers.{step_of}
use Rattle.c_rows.specs.Calls.{points_to_nonsecure}

-- a check of a range, whose answer has this type
abbrev pub range : Place → Expr → Expr → Expr → CType → Expr
range place p n flags t = node (kind.Range p n flags) t place

-- an argument as a value of a type
abbrev pub as_type : CType → Arg → Checked Expr
as_type to arg = fitted to arg.value arg.first

-- `cmse_check_address_range(p, n, flags)`: void *, unsigned, int
abbrev pub range_checked : Place → Arg → Arg → Arg → Checked Expr
range_checked place p n flags =
    as_type void_pointer p >>= (λ x.
    as_type (arith_type a.Unsigned) n >>= (λ y.
    as_type int_type flags >>= (λ z.
    Ok (range place x y z void_pointer))))

abbrev pub range_of : Place → List Arg → Checked Expr
range_of place (p ∷ n ∷ flags ∷ []) = range_checked place p n flags
range_of place _ = fault 22 place

-- the check of an object of this size, which the pointer p gives
abbrev pub object_range : Place → Expr → Expr → ℕ → Expr → Expr
object_range place p it size flags = range place it (size_node p.place size) flags (unqualified p.ctype)

abbrev pub object_checked : Place → Arg → Arg → ℕ → Checked Expr
object_checked place p flags size =
    as_type int_type flags >>= (λ z.
    Ok (object_range place p.value p.value size z))

abbrev pub object_as : Place → Arg → Arg → Option ℕ → Checked Expr
object_as place p flags (Some size) = object_checked place p flags size
object_as place p flags None = fault 22 p.first

-- `cmse_check_pointed_object(p, flags)`: the size of what p points to is checked
abbrev pub object_of : Place → List Arg → Checked Expr
object_of place (p ∷ flags ∷ []) = object_as place p flags (step_of p.value.ctype)
object_of place _ = fault 22 place

abbrev pub created : Place → Arg → Checked Expr
created place p = cond (not (points_to_nonsecure p.value.ctype)) (fault 22 p.first) (Ok (node (kind.NsCreate p.value) (unqualified p.value.ctype) place))

-- `cmse_nsfptr_create(p)`: p is a pointer to a Non-secure function
abbrev pub created_of : Place → List Arg → Checked Expr
created_of place (p ∷ []) = created place p
created_of place _ = fault 22 place

abbrev pub tested : Place → Arg → Checked Expr
tested place p = cond (not (points_to_nonsecure p.value.ctype)) (fault 22 p.first) (Ok (node (kind.NsTest p.value) int_type place))

-- `cmse_is_nsfptr(p)`
abbrev pub tested_of : Place → List Arg → Checked Expr
tested_of place (p ∷ []) = tested place p
tested_of place _ = fault 22 place

-- `cmse_nonsecure_caller()`, in an entry function alone
abbrev pub caller_of : Place → List Arg → Bool → Checked Expr
caller_of place [] in_entry = cond (not in_entry) (fault 44 place) (Ok (node kind.NsCaller int_type place))
caller_of place (a ∷ args) in_entry = fault 22 place

-- a call of one of them
abbrev pub intrinsic_called : Place → Intrinsic → List Arg → Bool → Checked Expr
intrinsic_called place CheckRange args in_entry = range_of place args
intrinsic_called place CheckObject args in_entry = object_of place args
intrinsic_called place CreatePointer args in_entry = created_of place args
intrinsic_called place IsPointer args in_entry = tested_of place args
intrinsic_called place Caller args in_entry = caller_of place args in_entry
