-- What is declared stands under its number with its name and its type.
use Rattle.std.proofs.Common.{◌≡◌, ℕ, zero, suc, ◌||◌, ◌&&◌, Bool, true, false, not, cond, List, [], ◌∷◌, length, ap, sym, ◌∙◌, subst, refl, Option, None, Some, slice_get, slice_set, bytes_eq}
use Rattle.std.proofs.lemmas.List.Quantifiers.{position-Some}
use Rattle.std.proofs.lemmas.Option.{get_or_from_slice_get}
use Rattle.std.proofs.lemmas.Slice.Eq.{bytes_eq-Decides}
use Rattle.c_ast.specs.declared.expr.Name.{Name}
use Rattle.c_types.specs.declared.ctype.CType.{CType}
use Rattle.c_types.specs.Kind.{look}
use Rattle.c_types.specs.Same.{same_type}
use Rattle.c_types.specs.Sizes.{fits}
use Rattle.c_tree.specs.Conditions.{is_twin}
use Rattle.cmse_rules.specs.Names.{is_reserved}
use Rattle.cmse_rules.specs.Pointers.{has_secure_pointer}
use Rattle.c_scope.specs.declared.tables.Known.{Known}
use Rattle.c_scope.specs.declared.tables.Linkage.{Linkage}
use Rattle.c_scope.specs.declared.tables.Meaning.{Meaning}
use Rattle.c_scope.specs.declared.tables.Meaning.TheVariants.{Extern, Constant, Null, Typedef, Intrinsic}
use Rattle.c_scope.specs.declared.tables.Tables.{Tables}
use Rattle.c_scope.specs.Blocks.{is_made}
use Rattle.c_scope.specs.FileScope.{clashes, clashes_as, clashes_at, clashes_with, complete_object, completed, completed_as, declare_function, declare_object, declared, declared_again, declared_as, declared_at, first_known, is_unsized, together, with_known, with_state}
use Rattle.c_scope.specs.Index.{place_of}
use Rattle.later_laws.specs.Later.{AreSound, Later}
use Rattle.range_laws.specs.Steps.{Answers}
use Rattle.range_laws.specs.Stood.{IsDeclared, IsDeclaredObject, Standing, Stood}
use Rattle.range_laws.proofs.Both.{no}
use Rattle.range_laws.proofs.Moves.{answers_more, answers_unless, silent, told}
use Rattle.range_laws.proofs.SameLaws.{same_itself}
use Rattle.range_laws.proofs.TableLaws.{get_push, not_false, or_left}

pub get_set : (xs : List Known) (n : ℕ) (k y : Known) → slice_get xs n ≡ Some k → slice_get (slice_set xs n y) n ≡ Some y
get_set [] n k y h = cc
get_set (x ∷ xs) zero k y h = refl
get_set (x ∷ xs) (suc n) k y h = get_set xs n k y h

-- the name that stands in the place of a name
place_named : (names : List (List ℕ)) (text : List ℕ) (i : ℕ) (x : List ℕ) → place_of names text ≡ Some i → slice_get names i ≡ Some x → x ≡ text
place_named names text i x at h =
    let found = position-Some (λ name. bytes_eq text name) names i [] at in
    sym ((bytes_eq-Decides text x).0 (subst (λ z. bytes_eq text z ≡ true) (get_or_from_slice_get names i x [] h) found.1))

module _ (name : Name) (t : CType) (how : Linkage) (s : Tables) (sound : AreSound s) where
  abbrev StoodBy : ℕ × Tables → Type 0
  StoodBy p = Stood name.text t p.0 p.1

  again_stood : (n : ℕ) (o : Option Known) → ((k : Known) → o ≡ Some k → k.name ≡ name.text) → slice_get s.externs n ≡ o → clashes_with t how o ≡ false → Answers StoodBy (declared_again n name how o s)
  again_stood n (Some k) named is c = answers_unless _ 40 name.place _ (λ a.
      let y : Known = with_state (together k.state how) k in
      told (n, record s { externs = slice_set s.externs n y })
      (record { known = y; there = get_set s.externs n k y is; name = named k refl; typed = not_false (same_type k.ctype t) (or_left (not (same_type k.ctype t)) _ c) }))
  again_stood n None named is c = silent

  named_at : (i n : ℕ) → place_of s.names name.text ≡ Some i → slice_get s.meanings i ≡ Some (Extern n) → (k : Known) → slice_get s.externs n ≡ Some k → k.name ≡ name.text
  named_at i n at is k h =
      let key = sound.keyed i n is in
      let e : key.known ≡ k = let f : Some key.known ≡ Some k = sym key.there ∙ h in cc in
      ap (λ (x : Known). x.name) (sym e) ∙ place_named s.names name.text i key.known.name at key.name

  by_meaning : (i : ℕ) → place_of s.names name.text ≡ Some i → (o : Option Meaning) → slice_get s.meanings i ≡ o → clashes_as s t how o ≡ false → Answers StoodBy (declared_as name how o s)
  by_meaning i at (Some (Extern n)) is c = again_stood n (slice_get s.externs n) (named_at i n at is) refl c
  by_meaning i at (Some (Constant n)) is c = silent
  by_meaning i at (Some Null) is c = silent
  by_meaning i at (Some (Typedef u)) is c = silent
  by_meaning i at (Some (Intrinsic x)) is c = silent
  by_meaning i at None is c = silent

  by_place : (o : Option ℕ) → place_of s.names name.text ≡ o → clashes_at s t how o ≡ false → Answers StoodBy (declared_at name t how o s)
  by_place (Some i) is c = by_meaning i is (slice_get s.meanings i) refl c
  by_place None is c = told (length s.externs, with_known (first_known name t how) s) (record { known = first_known name t how; there = get_push s.externs (first_known name t how); name = refl; typed = same_itself t })

  stood : clashes s name t how ≡ false → Answers StoodBy (declared name t how s)
  stood c = by_place (place_of s.names name.text) refl c

  pub function_stood : Answers (λ p. IsDeclared name t p.0 p.1) (declare_function name t how s)
  function_stood =
      answers_unless (clashes s name t how) 21 name.place _ (λ a.
      answers_unless (not (fits t)) 24 name.place _ (λ b.
      answers_unless _ 29 name.place _ (λ c.
      answers_unless (is_reserved name.text) 45 name.place _ (λ d.
      answers_more (declared name t how s) (stood a) (λ p h. record { stood = h; free = or_left (is_twin name.text) _ d; small = not_false (fits t) b })))))

  either : (a b : Bool) → (not a && not b) ≡ false → (a || b) ≡ true
  either true b h = refl
  either false true h = refl
  either false false h = no (sym h)

  pub object_stood : (initialised : Bool) → Answers (λ p. IsDeclaredObject name t how initialised p.0 p.1) (declare_object name t how initialised s)
  object_stood initialised =
      answers_unless (clashes s name t how) 21 name.place _ (λ a.
      answers_unless (not (fits t)) 24 name.place _ (λ b.
      answers_unless _ 25 name.place _ (λ c.
      answers_unless (has_secure_pointer t) 29 name.place _ (λ d.
      answers_unless (is_reserved name.text) 45 name.place _ (λ e.
      answers_more (declared name t how s) (stood a) (λ p h. record {
        declared = record { stood = h; free = or_left (is_twin name.text) _ e; small = not_false (fits t) b };
        made = either (how.is_extern && not initialised) (is_made initialised t) c;
      }))))))

-- ---- what stands later

pub later_standing : (text : List ℕ) (t : CType) (n : ℕ) (s u : Tables) → Later s u → Standing text t n s → Standing text t n u
later_standing text t n s u l h =
    let z = l.externs n h.stood.known h.stood.there in
    let e : z.now.ctype ≡ h.stood.known.ctype = z.later.type h.sized in
    record {
      stood = record { known = z.now; there = z.there; name = z.later.name ∙ h.stood.name; typed = ap (λ c. same_type c t) e ∙ h.stood.typed };
      sized = ap (λ c. is_unsized (look c)) e ∙ h.sized;
    }

-- what stands under the number of a global whose type is completed
completed_standing : (text : List ℕ) (c : CType) (n : ℕ) (s : Tables) (k : Known) → slice_get s.externs n ≡ Some k → k.name ≡ text → is_unsized (look c) ≡ false → (is_unsized (look k.ctype) ≡ false → same_type k.ctype c ≡ true) → Standing text c n (completed_as n c s (Some k))
completed_standing text c n s k is named sized same = by (is_unsized (look k.ctype)) refl
  where
    by : (b : Bool) → is_unsized (look k.ctype) ≡ b → Standing text c n (cond b (record s { externs = slice_set s.externs n (completed c k) }) s)
    by true h = record { stood = record { known = completed c k; there = get_set s.externs n k (completed c k) is; name = named; typed = same_itself c }; sized = sized }
    by false h = record { stood = record { known = k; there = is; name = named; typed = same h }; sized = h }

pub complete_standing : (text : List ℕ) (c : CType) (n : ℕ) (s : Tables) (k : Known) → slice_get s.externs n ≡ Some k → k.name ≡ text → is_unsized (look c) ≡ false → (is_unsized (look k.ctype) ≡ false → same_type k.ctype c ≡ true) → Standing text c n (complete_object n c s)
complete_standing text c n s k is named sized same = subst (λ o. Standing text c n (completed_as n c s o)) (sym is) (completed_standing text c n s k is named sized same)
