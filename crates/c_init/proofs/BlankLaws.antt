-- One level of what is left blank, and one part of it.
use Rattle.std.proofs.Common.{◌≡◌, ℕ, zero, suc, ◌+◌, ◌-◌, ◌<◌, List, refl, sym, ap, arith}
use Rattle.cm_base.specs.declared.place.Place.{Place}
use Rattle.ns_types.specs.Operators.{add}
use Rattle.c_types.specs.declared.ctype.CType.{CType}
use Rattle.c_tree.specs.declared.stmt.Item.{Item}
use Rattle.c_scope.specs.declared.tables.StructInfo.{StructInfo}
use Rattle.c_init.specs.declared.parts.Parts.{Parts}
use Rattle.c_init.specs.Blanks.{blank, blank_as, blank_from, blank_part}
use Rattle.c_init.specs.Parts.{part_at, parts_of}

pub blank_none : (deep : ℕ) (structs : List StructInfo) (place : Place) (t : CType) (at : ℕ) (done : List Item) → deep ≡ 0 → blank deep structs place t at done ≡ done
unfolding blank
blank_none zero structs place t at done e = refl
blank_none (suc d) structs place t at done e = absurd (omega (arith, e))

pub blank_level : (deep : ℕ) (structs : List StructInfo) (place : Place) (t : CType) (at : ℕ) (done : List Item) → 0 < deep
    → blank deep structs place t at done ≡ blank_as (blank (deep - 1) structs place) t place at done (parts_of structs t)
unfolding blank
blank_level zero structs place t at done h = absurd (omega (arith, h))
blank_level (suc d) structs place t at done h =
    let e : d ≡ suc d - 1 = omega arith in
    ap (λ m. blank_as (blank m structs place) t place at done (parts_of structs t)) e

pub ruleset levels = (blank_none, blank_level)

pub blank_one : (f : CType → ℕ → List Item → List Item) (ps : Parts) (at i n k : ℕ) (done : List Item) → k < n
    → blank_from f ps at i (n - k) done ≡ blank_from f ps at (add i 1) (n - (k + 1)) (blank_part f at done (part_at ps i))
blank_one f ps at i n k done h =
    let e : n - k ≡ suc (n - (k + 1)) = omega (arith, h) in
    ap (λ m. blank_from f ps at i m done) e
