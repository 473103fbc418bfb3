-- Laws on files, on outputs and on counts of faults.
use Rattle.std.proofs.Common.{◌≡◌, ◌≢◌, ℕ, ◌+◌, ◌<◌, ◌≤◌, Bool, true, false, cond, List, [], ◌∷◌, ◌++◌, length, take, set, get_or, zero, suc, Option, Some, None, bytes_eq, refl, sym, ◌∙◌, ap, subst, arith}
use Rattle.std.proofs.lemmas.List.{take_more}
use Rattle.std.proofs.lemmas.Slice.Eq.{bytes_eq-Decides}
use Rattle.cm_base.specs.InMemory.{IsPlaceOf}
use Rattle.cm_base.specs.Outside.{Files, file_at, with_file, NamesDiffer, Rose}

-- a test is true or false
two_ways : {P : Type 0} (b : Bool) → (b ≡ true → P) → (b ≡ false → P) → P
two_ways {P} b when_true when_false =
    (elim b as (λ v. (v ≡ true → P) → (v ≡ false → P) → P) [ true ↦ λ f g. f refl | false ↦ λ f g. g refl ]) when_true when_false

same_names : (a b : List ℕ) → bytes_eq a b ≡ true → a ≡ b
same_names a b e = (bytes_eq-Decides a b).0 e

equal_names : (a b : List ℕ) → a ≡ b → bytes_eq a b ≡ true
equal_names a b e = (bytes_eq-Decides a b).1 e

other_names : (a b : List ℕ) → a ≢ b → bytes_eq a b ≡ false
other_names a b ne = two_ways (bytes_eq a b) (λ e. absurd (ne (same_names a b e))) (λ e. e)

-- a list's first file isn't of the name, and neither are the others
not_first : (b : Bool) (x : List ℕ) (y : Option (List ℕ)) → cond b (Some x) y ≡ None → (b ≡ false) × (y ≡ None)
not_first true x y e = cc
not_first false x y e = (refl, e)

-- a name that the first files lack is looked for in the others
pub file_at-append : (front back : Files) (name : List ℕ) → file_at front name ≡ None → file_at (front ++ back) name ≡ file_at back name
file_at-append [] back name e = refl
file_at-append (file ∷ front) back name e =
    let s : (bytes_eq file.0 name ≡ false) × (file_at front name ≡ None) = not_first (bytes_eq file.0 name) file.1 (file_at front name) e in
    ap (λ b. cond b (Some file.1) (file_at (front ++ back) name)) s.0 ∙ file_at-append front back name s.1

-- one more file that isn't of the name
pub file_at-take_more : (files : Files) (name : List ℕ) (i : ℕ) (d : List ℕ × List ℕ) → i < length files → file_at (take i files) name ≡ None → bytes_eq (get_or files i d).0 name ≡ false → file_at (take (i + 1) files) name ≡ None
file_at-take_more files name i d lt e other =
    ap (λ fs. file_at fs name) (take_more files i d lt)
    ∙ file_at-append (take i files) (get_or files i d ∷ []) name e
    ∙ ap (λ b. cond b (Some (get_or files i d).1) None) other

-- the first file of a name holds its bytes
pub file_at-place : (files : Files) (name : List ℕ) (i : ℕ) (d : List ℕ × List ℕ) → i < length files → file_at (take i files) name ≡ None → (get_or files i d).0 ≡ name → file_at files name ≡ Some (get_or files i d).1
file_at-place [] name i d lt e here = absurd (omega arith)
file_at-place (file ∷ files) name zero d lt e here =
    ap (λ b. cond b (Some file.1) (file_at files name)) (equal_names file.0 name here)
file_at-place (file ∷ files) name (suc i) d lt e here =
    let s : (bytes_eq file.0 name ≡ false) × (file_at (take i files) name ≡ None) = not_first (bytes_eq file.0 name) file.1 (file_at (take i files) name) e in
    ap (λ b. cond b (Some file.1) (file_at files name)) s.0 ∙ file_at-place files name i d (omega arith) s.1 here

-- what a write makes of the files: the first file of the name is replaced
pub with_file-place : (files : Files) (name bytes : List ℕ) (i : ℕ) (d : List ℕ × List ℕ) → i < length files → file_at (take i files) name ≡ None → (get_or files i d).0 ≡ name → with_file files name bytes ≡ set files i (name, bytes)
with_file-place [] name bytes i d lt e here = absurd (omega arith)
with_file-place (file ∷ files) name bytes zero d lt e here =
    ap (λ b. cond b ((name, bytes) ∷ files) (file ∷ with_file files name bytes)) (equal_names file.0 name here)
with_file-place (file ∷ files) name bytes (suc i) d lt e here =
    let s : (bytes_eq file.0 name ≡ false) × (file_at (take i files) name ≡ None) = not_first (bytes_eq file.0 name) file.1 (file_at (take i files) name) e in
    ap (λ b. cond b ((name, bytes) ∷ files) (file ∷ with_file files name bytes)) s.0
    ∙ ap (λ fs. file ∷ fs) (with_file-place files name bytes i d (omega arith) s.1 here)

-- or a new file is added at the end
pub with_file-absent : (files : Files) (name bytes : List ℕ) → file_at files name ≡ None → with_file files name bytes ≡ files ++ (name, bytes) ∷ []
with_file-absent [] name bytes e = refl
with_file-absent (file ∷ files) name bytes e =
    let s : (bytes_eq file.0 name ≡ false) × (file_at files name ≡ None) = not_first (bytes_eq file.0 name) file.1 (file_at files name) e in
    ap (λ b. cond b ((name, bytes) ∷ files) (file ∷ with_file files name bytes)) s.0
    ∙ ap (λ fs. file ∷ fs) (with_file-absent files name bytes s.1)

-- the file that is written holds the bytes
pub file_at-with_same : (files : Files) (name bytes : List ℕ) → file_at (with_file files name bytes) name ≡ Some bytes
file_at-with_same [] name bytes = ap (λ b. cond b (Some bytes) None) (equal_names name name refl)
file_at-with_same (file ∷ files) name bytes =
    two_ways (bytes_eq file.0 name)
    (λ e. ap (λ b. file_at (cond b ((name, bytes) ∷ files) (file ∷ with_file files name bytes)) name) e
    ∙ ap (λ b. cond b (Some bytes) (file_at files name)) (equal_names name name refl))
    (λ e. ap (λ b. file_at (cond b ((name, bytes) ∷ files) (file ∷ with_file files name bytes)) name) e
    ∙ ap (λ b. cond b (Some file.1) (file_at (with_file files name bytes) name)) e
    ∙ file_at-with_same files name bytes)

-- each other file holds what it held
pub file_at-with_other : (files : Files) (name bytes other : List ℕ) → other ≢ name → file_at (with_file files name bytes) other ≡ file_at files other
file_at-with_other [] name bytes other ne =
    ap (λ b. cond b (Some bytes) None) (other_names name other (λ e. ne (sym e)))
file_at-with_other (file ∷ files) name bytes other ne =
    two_ways (bytes_eq file.0 name)
    (λ e. ap (λ b. file_at (cond b ((name, bytes) ∷ files) (file ∷ with_file files name bytes)) other) e
    ∙ ap (λ b. cond b (Some bytes) (file_at files other)) (other_names name other (λ q. ne (sym q)))
    ∙ sym (ap (λ b. cond b (Some file.1) (file_at files other)) (other_names file.0 other (λ q. ne (sym q ∙ same_names file.0 name e)))))
    (λ e. ap (λ b. file_at (cond b ((name, bytes) ∷ files) (file ∷ with_file files name bytes)) other) e
    ∙ ap (λ x. cond (bytes_eq file.0 other) (Some file.1) x) (file_at-with_other files name bytes other ne))

-- names that differ go on to differ
pub NamesDiffer-with_file : (files : Files) (name bytes : List ℕ) → NamesDiffer files → NamesDiffer (with_file files name bytes)
NamesDiffer-with_file [] name bytes h = (refl, tt)
NamesDiffer-with_file (file ∷ files) name bytes h =
    two_ways (bytes_eq file.0 name)
    (λ e. subst (λ b. NamesDiffer (cond b ((name, bytes) ∷ files) (file ∷ with_file files name bytes))) (sym e)
    (subst (λ n. file_at files n ≡ None) (same_names file.0 name e) h.0, h.1))
    (λ e. subst (λ b. NamesDiffer (cond b ((name, bytes) ∷ files) (file ∷ with_file files name bytes))) (sym e)
    (file_at-with_other files name bytes file.0 (λ q. absurd (differ e (equal_names file.0 name q))) ∙ h.0, NamesDiffer-with_file files name bytes h.1))
  where
    differ : {b : Bool} → b ≡ false → b ≡ true → ⊥
    differ e f = cc

-- a count that rose in the first of two calls rose in both
pub Rose-before : (a b c : ℕ) → a ≤ b → b ≤ c → Rose a b → Rose a c
Rose-before a b c le go r = grind arith

-- a count that rose in the second of two calls rose in both
pub Rose-after : (a b c : ℕ) → a ≤ b → b ≤ c → Rose b c → Rose a c
Rose-after a b c le go r = grind arith

-- the file at the first place of a name holds the bytes of that name
pub file_at_found : (files : Files) (name : List ℕ) (place : ℕ) (file : List ℕ × List ℕ) → IsPlaceOf files name place → file ≡ get_or files place file → file_at files name ≡ Some file.1
file_at_found files name place file is e =
    file_at-place files name place file is.within is.before (is.here file) ∙ ap (λ f. Some f.1) (sym e)

-- a write replaces the file at the first place of a name
pub with_file_found : (files held new : Files) (name bytes n b : List ℕ) (place : ℕ) → IsPlaceOf held name place → held ≡ files → n ≡ name → b ≡ bytes → new ≡ set files place (n, b) → new ≡ with_file files name bytes
with_file_found files held new name bytes n b place is same e f g =
    let at : IsPlaceOf files name place = subst (λ fs. IsPlaceOf fs name place) same is in
    g ∙ ap (λ m. set files place (m, b)) e ∙ ap (λ c. set files place (name, c)) f
    ∙ sym (with_file-place files name bytes place ([], []) at.within at.before (at.here ([], [])))

-- or it adds a file
pub with_file_new : (files held new : Files) (name bytes n b : List ℕ) → file_at held name ≡ None → held ≡ files → n ≡ name → b ≡ bytes → new ≡ files ++ (n, b) ∷ [] → new ≡ with_file files name bytes
with_file_new files held new name bytes n b absent same e f g =
    g ∙ ap (λ m. files ++ (m, b) ∷ []) e ∙ ap (λ c. files ++ (name, c) ∷ []) f
    ∙ sym (with_file-absent files name bytes (ap (λ fs. file_at fs name) (sym same) ∙ absent))
