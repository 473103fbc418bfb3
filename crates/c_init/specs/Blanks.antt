-- What no initialiser names: each scalar in it is 0 (C11 6.7.9, paragraph 21).
use Rattle.std.specs.Prelude.{ℕ, zero, suc, ◌-◌, List, [], ◌∷◌, ◌++◌, Option, Some, None}
use Rattle.cm_base.specs.declared.place.Place.{Place}
use Rattle.ns_types.specs.Operators.{add}
use Rattle.c_types.specs.Derived.{unqualified}
use Rattle.c_types.specs.declared.ctype.CType.{CType}
use Rattle.c_tree.specs.declared.expr.ExprKind.TheVariants as kind
use Rattle.c_tree.specs.declared.stmt.Item.{Item}
use Rattle.c_rows.specs.Nodes.{node}
use Rattle.c_scope.specs.declared.tables.StructInfo.{StructInfo}
use Rattle.c_init.specs.declared.parts.Parts.{Parts}
use Rattle.c_init.specs.declared.parts.Slot.{Slot}
use Rattle.c_init.specs.Parts.{count, part_at, parts_of}

-- a scalar that is a constant, so many bytes into the object
abbrev pub constant_item : CType → Place → ℕ → ℕ → Item
constant_item t place at n = record { offset = at; value = node (kind.Const n) (unqualified t) place }

abbrev pub blank_part : (CType → ℕ → List Item → List Item) → ℕ → List Item → Option Slot → List Item
blank_part blank at done (Some p) = blank p.ctype (add at p.offset) done
blank_part blank at done None = done

-- n parts from the one of number i on
abbrev pub blank_from : (CType → ℕ → List Item → List Item) → Parts → ℕ → ℕ → ℕ → List Item → List Item
blank_from blank ps at i zero done = done
blank_from blank ps at i (suc n) done = blank_from blank ps at (add i 1) n (blank_part blank at done (part_at ps i))

abbrev pub with_zero : CType → Place → ℕ → List Item → List Item
with_zero t place at done = done ++ constant_item t place at 0 ∷ []

abbrev pub blank_as : (CType → ℕ → List Item → List Item) → CType → Place → ℕ → List Item → Option Parts → List Item
blank_as blank t place at done (Some ps) = blank_from blank ps at 0 (count ps) done
blank_as blank t place at done None = with_zero t place at done

-- All scalars in an object of a type, behind those that are done, where arrays and structs stand one in another at most so deep.
-- They have the place of the initialiser that doesn't name them.
unfoldable pub blank : ℕ → List StructInfo → Place → CType → ℕ → List Item → List Item
blank zero structs place t at done = done
blank (suc deep) structs place t at done = blank_as (blank deep structs place) t place at done (parts_of structs t)

-- the parts from the one of number i on; no type of a source is deeper
unfoldable pub rest_blank : List StructInfo → Parts → Place → ℕ → ℕ → List Item → List Item
rest_blank structs ps place at i done = blank_from (blank 4294967295 structs place) ps at i (count ps - i) done
