-- Strings as initialisers (C11 6.7.9, paragraph 14).
use Rattle.std.specs.Prelude.{ℕ, Bool, cond, ltb, eqb, List, [], ◌∷◌, ◌++◌, length, Option, Some, None, Ok}
use Rattle.cm_base.specs.declared.place.Place.{Place}
use Rattle.c_ast.specs.declared.expr.Expr.{Expr as Tree}
use Rattle.c_ast.specs.declared.expr.Abstract.{Abstract}
use Rattle.c_ast.specs.declared.expr.Access.{Access}
use Rattle.c_ast.specs.declared.expr.Declarator.{Declarator}
use Rattle.c_ast.specs.declared.expr.EnumSpec.{EnumSpec}
use Rattle.c_ast.specs.declared.expr.Enumerator.{Enumerator}
use Rattle.c_ast.specs.declared.expr.Link.{Link}
use Rattle.c_ast.specs.declared.expr.Member.{Member}
use Rattle.c_ast.specs.declared.expr.Next.{Next}
use Rattle.c_ast.specs.declared.expr.Param.{Param}
use Rattle.c_ast.specs.declared.expr.Params.{Params}
use Rattle.c_ast.specs.declared.expr.Spec.{Spec}
use Rattle.c_ast.specs.declared.expr.StructSpec.{StructSpec}
use Rattle.c_ast.specs.declared.expr.Suffix.{Suffix}
use Rattle.c_ast.specs.declared.expr.TypeName.{TypeName}
use Rattle.c_ast.specs.declared.expr.Abstract.TheOpen.{Expr-F}
use Rattle.c_ast.specs.declared.expr.Abstract.TheOpen as t
use Rattle.c_ast.specs.declared.expr.Abstract.TheViews.{out-Expr}
use Rattle.ns_types.specs.Operators.{add}
use Rattle.c_types.specs.Arithmetic.{arith_size}
use Rattle.c_types.specs.Kind.{arithmetic}
use Rattle.c_types.specs.declared.arith.Arith.{Arith}
use Rattle.c_types.specs.declared.ctype.CType.{CType}
use Rattle.c_tree.specs.declared.stmt.Item.{Item}
use Rattle.c_const.specs.Operate.{narrowed}
use Rattle.c_rows.specs.Answers.{Checked, fault}
use Rattle.c_scope.specs.declared.tables.StructInfo.{StructInfo}
use Rattle.c_init.specs.declared.parts.Parts.{Parts}
use Rattle.c_init.specs.Blanks.{constant_item, rest_blank}
use Rattle.c_init.specs.Parts.{count}

abbrev pub string_in : Expr-F Abstract Access EnumSpec Tree Member Param Params Spec StructSpec Suffix Declarator Enumerator Link Next TypeName → Option (List ℕ)
string_in (t.Str place bytes) = Some bytes
string_in _ = None

-- the bytes of a string; one in parentheses is none here
abbrev pub string_of : Tree → Option (List ℕ)
string_of e = string_in (out-Expr e)

abbrev pub char_in : Option Arith → Option Arith
char_in (Some a) = cond (eqb (arith_size a) 1) (Some a) None
char_in None = None

-- char, signed char or unsigned char, where the type is one of them
abbrev pub char_kind : CType → Option Arith
char_kind t = char_in (arithmetic t)

-- a string's characters as elements, behind those that are done
abbrev pub chars_from : Arith → CType → Place → ℕ → List Item → List ℕ → List Item
chars_from k of place at done [] = done
chars_from k of place at done (b ∷ bs) = chars_from k of place (add at 1) (done ++ constant_item of place at (narrowed k b) ∷ []) bs

-- A string for an array with elements of this type: it has room for all characters, but perhaps not for the final 0.
abbrev pub set_string : List StructInfo → Parts → CType → Place → ℕ → List Item → Option (List ℕ) → Option Arith → Checked (List Item)
set_string structs ps of place at done (Some bytes) (Some k) = cond (ltb (count ps) (length bytes)) (fault 28 place) (Ok (rest_blank structs ps place at (length bytes) (chars_from k of place at done bytes)))
set_string structs ps of place at done (Some bytes) None = fault 28 place
set_string structs ps of place at done None k = fault 28 place
