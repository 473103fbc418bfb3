-- The bytes of a global that is defined, and its type once its initialiser is read.
use Rattle.std.proofs.Common.{◌≡◌, ℕ, zero, suc, ◌+◌, ◌/◌, ◌%◌, Bool, true, false, cond, is_some, ltb, List, [], ◌∷◌, length, replicate, slice_set, ap, sym, ◌∙◌, subst, refl, Option, None, Some, Ok, Err, length-set, rules}
use Rattle.std.specs.Option.{unwrap_or}
use Rattle.std.proofs.lemmas.List.{length-replicate}
use Rattle.std.proofs.lemmas.List.Elements.{All-weaker}
use Rattle.cm_base.specs.declared.place.Place.{Place}
use Rattle.c_ast.specs.declared.expr.Name.{Name}
use Rattle.c_ast.specs.declared.stmt.Initial.{Initial, out-Initial}
use Rattle.c_ast.specs.declared.stmt.Initial.TheOpen.{Initial-F, Assign, Braces}
use Rattle.c_ast.specs.declared.stmt.Initial.TheFolds.{map-Initial, fold_out-Initial}
use Rattle.c_ast.specs.Places.{first_place}
use Rattle.c_types.specs.declared.arith.Arith.{Arith}
use Rattle.c_types.specs.declared.ctype.CType.{CType}
use Rattle.c_types.specs.declared.ctype.Shape.{Shape}
use Rattle.c_types.specs.declared.ctype.Shape.TheOpen as shape
use Rattle.c_types.specs.declared.ctype.Shape.TheVariants.{rolls-Array}
use Rattle.c_types.specs.declared.ctype.Shape.TheFolds.{fold-Shape, fold_out-Shape, map-Shape, the_lemmas}
use Rattle.c_types.specs.Kind.{Look, is_complete, look, shape_complete, type_complete}
use Rattle.c_types.specs.Sizes.{fits}
use Rattle.c_tree.specs.declared.program.TGlobal.{TGlobal}
use Rattle.c_tree.specs.declared.stmt.Item.{Item}
use Rattle.c_tree.specs.Conditions.{IsGlobal, is_twin}
use Rattle.c_tree.specs.Slots as sizes
use Rattle.c_const.specs.Constant.{constant}
use Rattle.c_rows.specs.Answers.{Checked}
use Rattle.c_scope.specs.declared.tables.StructInfo.{StructInfo}
use Rattle.c_scope.specs.declared.tables.Tables.{Tables}
use Rattle.c_scope.specs.FileScope.{is_unsized}
use Rattle.c_scope.specs.Steps.{◌>>>◌, keeping}
use Rattle.c_check.specs.declared.around.Around.{Around}
use Rattle.c_init.specs.declared.parts.Parts.{Parts}
use Rattle.c_init.specs.declared.parts.Parts.TheVariants.{Elements}
use Rattle.c_init.specs.Blanks.{rest_blank}
use Rattle.c_init.specs.Contents.{contents, put, put_byte, put_item, put_items, width}
use Rattle.c_init.specs.Initials.{Setting, completed, initial_step, initialise, length_in, set_expression, sets, setting, text_length, with_length}
use Rattle.c_init.specs.Parts as parts
use Rattle.c_init.specs.Strings.{char_kind, chars_from, set_string, string_of}
use Rattle.c_decl.specs.Globals.{first_bytes, new_global}
use Rattle.later_laws.specs.Later.{Later}
use Rattle.range_laws.specs.Steps.{Answers}
use Rattle.range_laws.proofs.Both.{no}
use Rattle.range_laws.proofs.FewLaws.{shape_out_is}
use Rattle.range_laws.proofs.Moves.{answers_cond, answers_more, answers_then, answers_unless, silent, told}
use Rattle.range_laws.proofs.StoodLaws.{later_standing}
use Rattle.unit_laws.specs.Globals.{GlobalAt, GlobalsAt}

-- ---- bytes

byte_length : (bytes : List ℕ) (at b : ℕ) → length (put_byte bytes at b) ≡ length bytes
byte_length bytes at b = by (ltb at (length bytes))
  where
    by : (c : Bool) → length (cond c (slice_set bytes at b) bytes) ≡ length bytes
    by true = length-set bytes at b
    by false = refl

put_length : (count at n : ℕ) (bytes : List ℕ) → length (put count at n bytes) ≡ length bytes
put_length zero at n bytes = refl
put_length (suc k) at n bytes = put_length k (at + 1) (n / 256) (put_byte bytes at (n % 256)) ∙ byte_length bytes at (n % 256)

items_length : (bytes : List ℕ) (items : List Item) → length (put_items bytes items) ≡ length bytes
items_length bytes [] = refl
items_length bytes (i ∷ is) = items_length (put_item bytes i) is ∙ put_length (width i.value.ctype) i.offset (unwrap_or (constant i.value) 0) bytes

contents_length : (t : CType) (items : List Item) → fits t ≡ true → length (contents t items) ≡ sizes.bytes_of t
contents_length t items h = items_length (replicate (parts.bytes_of t) 0) items ∙ (length-replicate (parts.bytes_of t) 0 ∙ ap (λ b. cond b (sizes.bytes_of t) 0) h)

pub new_global_holds : (name : Name) (t : CType) (noinit : Bool) (items : List Item) → fits t ≡ true → is_twin name.text ≡ false → IsGlobal (new_global name t noinit items)
new_global_holds name t noinit items h free = record { init = by noinit; named = free }
  where
    by : (b : Bool) → length (first_bytes t b items) ≡ cond b 0 (sizes.bytes_of t)
    by true = refl
    by false = contents_length t items h

-- ---- complete types

-- a complete type is no array without a length
complete_by : (x : Look) → shape_complete (map-Shape Shape CType Bool Bool (fold-Shape Bool Bool shape_complete type_complete) is_complete x) ≡ true → is_unsized x ≡ false
complete_by (shape.Array of None) h = no h
complete_by _ h = refl

complete_whole : (t : CType) → is_complete t ≡ fold-Shape Bool Bool shape_complete type_complete t.shape
complete_whole t = search (rules, the_lemmas)

pub complete_sized : (t : CType) → is_complete t ≡ true → is_unsized (look t) ≡ false
complete_sized t h = complete_by (look t) (sym (fold_out-Shape Bool Bool shape_complete type_complete t.shape) ∙ (sym (complete_whole t) ∙ h))

-- ---- types that an initialiser completes

-- a type with a length stays, one without gets one, and what comes isn't too large
pub record IsCompleted (t u : CType) : Type 0 where
  pub same : is_unsized (look t) ≡ false → u ≡ t
  pub sized : is_unsized (look u) ≡ false
  pub small : fits u ≡ true

always : {A : Type 0} {Q : A → Type 0} (r : Checked A) → ((x : A) → Q x) → Answers Q r
always (Ok x) f = record { it = f x }
always (Err e) f = record { it = tt }

kept_answers : {A : Type 0} {Q : Type 0} (s : Tables) (r : Checked A) → Answers (λ x. Q) r → Answers (λ p. Q) (keeping s r)
kept_answers s (Ok x) h = record { it = h.it }
kept_answers s (Err e) h = record { it = tt }

step_answers : {A B : Type 0} {Q : A × Tables → Type 0} {R : B × Tables → Type 0} (r : Checked (A × Tables)) (f : A → Tables → Checked (B × Tables)) → Answers Q r → ((p : A × Tables) → Q p → Answers R (f p.0 p.1)) → Answers R (r >>> f)
step_answers (Ok p) f h k = k p h.it
step_answers (Err e) f h k = record { it = tt }

string_sized : (structs : List StructInfo) (ps : Parts) (of : CType) (place : Place) (at : ℕ) (done : List Item) (o : Option (List ℕ)) (k : Option Arith) → Answers (λ items. is_some (text_length o (is_some k)) ≡ true) (set_string structs ps of place at done o k)
string_sized structs ps of place at done (Some bytes) (Some k) = answers_unless (ltb (parts.count ps) (length bytes)) 28 place (Ok (rest_blank structs ps place at (length bytes) (chars_from k of place at done bytes))) (λ c. told (rest_blank structs ps place at (length bytes) (chars_from k of place at done bytes)) refl)
string_sized structs ps of place at done (Some bytes) None = silent
string_sized structs ps of place at done None k = silent

-- an array without a length has a string or braces as its initialiser, or there is a fault
sized_by : (y : Initial-F Initial) (of u : CType) → look u ≡ shape.Array of (length_in (is_some (char_kind of)) y) → (around : Around) (at : ℕ) (done : List Item) (s : Tables)
    → Answers (λ p. is_some (length_in (is_some (char_kind of)) y) ≡ true) ((initial_step (map-Initial Initial Setting setting y)).sets around u at done s)
sized_by (Assign e) of u is around at done s =
    subst (λ l. Answers (λ p. is_some (text_length (string_of e) (is_some (char_kind of))) ≡ true) (set_expression around e u at done (parts.parts_as s.structs l) s)) (sym is)
    (kept_answers s _ (string_sized s.structs (Elements of (parts.bytes_of of) (unwrap_or (text_length (string_of e) (is_some (char_kind of))) 0)) of (first_place e) at done (string_of e) (char_kind of)))
sized_by (Braces place xs) of u is around at done s = always _ (λ p. refl)

array_sized : (x : Initial) (of u : CType) → look u ≡ shape.Array of (length_in (is_some (char_kind of)) (out-Initial x)) → (around : Around) (s : Tables) → Answers (λ p. is_some (length_in (is_some (char_kind of)) (out-Initial x)) ≡ true) (sets x around u 0 [] s)
array_sized x of u is around s =
    subst (λ z. Answers (λ p. is_some (length_in (is_some (char_kind of)) (out-Initial x)) ≡ true) (z.sets around u 0 [] s)) (sym (fold_out-Initial Setting initial_step x)) (sized_by (out-Initial x) of u is around 0 [] s)

length_known : (of : CType) (len : Option ℕ) → is_some len ≡ true → is_unsized (shape.Array of len) ≡ false
length_known of (Some n) h = refl
length_known of None h = no h

known_length : (t : CType) (l : Look) → look t ≡ l → is_unsized l ≡ false → (u : CType) → u ≡ t → fits u ≡ true → IsCompleted t u
known_length t l is h u e f = record { same = λ k. e; sized = ap (λ z. is_unsized (look z)) e ∙ (ap is_unsized is ∙ h); small = f }

completed_by : (t : CType) (x : Initial) (l : Look) → look t ≡ l → (u : CType) → u ≡ with_length t x l → fits u ≡ true → (around : Around) (s : Tables) → Answers (λ p. IsCompleted t u) (sets x around u 0 [] s)
completed_by t x (shape.Array of None) is u e f around s =
    let len : Option ℕ = length_in (is_some (char_kind of)) (out-Initial x) in
    let out : look u ≡ shape.Array of len = ap look e ∙ shape_out_is (shape.Array of len) _ (rolls-Array of len) in
    answers_more (sets x around u 0 [] s) (array_sized x of u out around s) (λ p h. record { same = λ k. no (sym k ∙ ap is_unsized is); sized = ap is_unsized out ∙ length_known of len h; small = f })
completed_by t x (shape.Array of (Some n)) is u e f around s = always _ (λ p. known_length t _ is refl u e f)
completed_by t x shape.Void is u e f around s = always _ (λ p. known_length t _ is refl u e f)
completed_by t x (shape.Arith a) is u e f around s = always _ (λ p. known_length t _ is refl u e f)
completed_by t x (shape.Pointer to) is u e f around s = always _ (λ p. known_length t _ is refl u e f)
completed_by t x (shape.Struct m name size align) is u e f around s = always _ (λ p. known_length t _ is refl u e f)
completed_by t x (shape.Function g p n) is u e f around s = always _ (λ q. known_length t _ is refl u e f)

pub initialise_completes : (t : CType) (x : Initial) (name : Place) (around : Around) (s : Tables) → Answers (λ p. IsCompleted t p.0.ctype) (initialise t x name around s)
initialise_completes t x name around s =
    answers_then (completed t x name) _ (answers_cond {Q = λ u. (u ≡ with_length t x (look t)) × (fits u ≡ true)} _ _ _ (λ k. told _ (refl, k)) (λ k. silent)) (λ u k.
    step_answers (sets x around u 0 [] s) _ (completed_by t x (look t) refl u k.0 k.1 around s) (λ p h. told _ h))

-- ---- globals later

pub later_global : (s t : Tables) (g : TGlobal) → Later s t → GlobalAt s g → GlobalAt t g
later_global s t g l h = record { holds = h.holds; small = h.small; number = h.number; standing = later_standing g.name g.ctype h.number s t l h.standing }

pub later_globals : (s t : Tables) (gs : List TGlobal) → Later s t → GlobalsAt gs s → GlobalsAt gs t
later_globals s t gs l h = All-weaker (GlobalAt s) (GlobalAt t) (λ g k. later_global s t g l k) gs h
