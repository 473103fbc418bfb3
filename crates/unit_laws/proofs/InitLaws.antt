-- The elements of initialisers are in range.
use Rattle.std.proofs.Common.{◌≡◌, ℕ, zero, suc, ◌-◌, Bool, true, false, ltb, List, [], ◌∷◌, ◌++◌, map, length, ap, sym, ◌∙◌, subst, refl, Option, None, Some}
use Rattle.cm_base.specs.declared.place.Place.{Place}
use Rattle.c_ast.specs.declared.expr.Expr.{Expr as Tree}
use Rattle.c_ast.specs.declared.stmt.Initial.{Initial, roll-Initial}
use Rattle.c_ast.specs.declared.stmt.Initial.TheOpen.{Initial-F, Assign, Braces}
use Rattle.c_ast.specs.declared.stmt.Initial.TheFolds.{map-Initial, fold-roll-Initial, ind-Initial}
use Rattle.c_ast.specs.Places.{first_place}
use Rattle.ns_types.specs.Operators.{add}
use Rattle.c_types.specs.declared.arith.Arith.{Arith}
use Rattle.c_types.specs.declared.ctype.CType.{CType}
use Rattle.c_types.specs.declared.ctype.Shape.TheOpen as shape
use Rattle.c_types.specs.Derived.{unqualified}
use Rattle.c_types.specs.declared.ctype.Shape.TheVariants.{rolls-Array}
use Rattle.c_types.specs.Kind.{Look, is_function, look, looks_function}
use Rattle.c_types.specs.Sizes.{fits}
use Rattle.c_const.specs.Operate.{narrowed}
use Rattle.c_tree.specs.declared.expr.Expr.{Expr}
use Rattle.c_tree.specs.declared.stmt.Item.{Item}
use Rattle.c_tree.specs.Numbers.{expr_in_range, items_in_range}
use Rattle.c_tree.specs.Numbers.{Around as Range}
use Rattle.c_rows.specs.Values.{fitted}
use Rattle.c_scope.specs.declared.tables.StructInfo.{StructInfo}
use Rattle.c_scope.specs.declared.tables.Tables.{Tables}
use Rattle.c_check.specs.declared.around.Around.{Around}
use Rattle.c_check.specs.declared.operands.Operand.{Operand}
use Rattle.c_check.specs.Operands.{tree_of, value_of}
use Rattle.c_check.specs.Typed.{typed}
use Rattle.c_init.specs.declared.initial.Initialised.{Initialised}
use Rattle.c_init.specs.declared.parts.Parts.{Parts}
use Rattle.c_init.specs.declared.parts.Parts.TheVariants.{Elements, Members}
use Rattle.c_init.specs.declared.parts.Slot.{Slot}
use Rattle.c_init.specs.Blanks.{blank, blank_as, blank_from, blank_part, constant_item, rest_blank}
use Rattle.c_init.specs.Parts.{count, part_at, parts_of}
use Rattle.c_init.specs.Strings.{char_kind, chars_from, set_string, string_of}
use Rattle.c_init.specs.Initials.{Setting, completed, if_constant, initial_step, initialise, is_misplaced, scalar_set, scalar_value, set_braces, set_expression, set_part, set_parts, set_scalar, set_struct, sets, setting, struct_refused, with_length}
use Rattle.range_laws.specs.Few.{IsFit, few}
use Rattle.range_laws.specs.Ranges.{Grows, range}
use Rattle.range_laws.specs.Steps.{Answers, Goes}
use Rattle.range_laws.proofs.Both.{all_push}
use Rattle.range_laws.proofs.FewLaws.{few_array, few_at, look_few, shape_out_is}
use Rattle.range_laws.proofs.Moves.{answers_cond, answers_then, answers_unless, goes_then, goes_unless, keeps, silent, stays, stops, then_goes, told, within}
use Rattle.range_laws.proofs.TreeLaws.{const_in, fitted_numbers}
use Rattle.range_laws.proofs.Wider.{items_wider}
use Rattle.check_laws.specs.Operands.{IsOperand}
use Rattle.check_laws.proofs.Layers.{typed_walk}
use Rattle.check_laws.proofs.OperandLaws.{tree_law, value_law}
use Rattle.unit_laws.specs.Stmts.{ItemsAt}

module _ (a : Range) where
  abbrev In : List Item → Type 0
  In items = items_in_range a items ≡ true

  push_in : (done : List Item) (i : Item) → In done → expr_in_range a i.value ≡ true → In (done ++ i ∷ [])
  push_in done i h k = all_push (λ (i : Item). expr_in_range a i.value) done i h k

  abbrev KeepsIn : (CType → ℕ → List Item → List Item) → Type 0
  KeepsIn f = (t : CType) (at : ℕ) (done : List Item) → In done → In (f t at done)

  part_in : (f : CType → ℕ → List Item → List Item) → KeepsIn f → (at : ℕ) (done : List Item) (o : Option Slot) → In done → In (blank_part f at done o)
  part_in f k at done (Some p) h = k p.ctype (add at p.offset) done h
  part_in f k at done None h = h

  from_in : (f : CType → ℕ → List Item → List Item) → KeepsIn f → (ps : Parts) (at i n : ℕ) (done : List Item) → In done → In (blank_from f ps at i n done)
  from_in f k ps at i zero done h = h
  from_in f k ps at i (suc n) done h = from_in f k ps at (add i 1) n (blank_part f at done (part_at ps i)) (part_in f k at done (part_at ps i) h)

  as_in : (f : CType → ℕ → List Item → List Item) → KeepsIn f → (t : CType) (place : Place) (at : ℕ) (done : List Item) (o : Option Parts) → In done → In (blank_as f t place at done o)
  as_in f k t place at done (Some ps) h = from_in f k ps at 0 (count ps) done h
  as_in f k t place at done None h = push_in done (constant_item t place at 0) h (const_in a 0 (unqualified t) place)

  blank_in : (deep : ℕ) (structs : List StructInfo) (place : Place) → KeepsIn (blank deep structs place)
  unfolding blank
  blank_in zero structs place t at done h = h
  blank_in (suc deep) structs place t at done h = as_in (blank deep structs place) (blank_in deep structs place) t place at done (parts_of structs t) h

  rest_in : (structs : List StructInfo) (ps : Parts) (place : Place) (at i : ℕ) (done : List Item) → In done → In (rest_blank structs ps place at i done)
  unfolding rest_blank
  rest_in structs ps place at i done h = from_in (blank 4294967295 structs place) (blank_in 4294967295 structs place) ps at i (count ps - i) done h

  chars_in : (k : Arith) (of : CType) (place : Place) (at : ℕ) (done : List Item) (bs : List ℕ) → In done → In (chars_from k of place at done bs)
  chars_in k of place at done [] h = h
  chars_in k of place at done (b ∷ bs) h = chars_in k of place (add at 1) (done ++ constant_item of place at (narrowed k b) ∷ []) bs (push_in done (constant_item of place at (narrowed k b)) h (const_in a (narrowed k b) (unqualified of) place))

  string_in : (structs : List StructInfo) (ps : Parts) (of : CType) (place : Place) (at : ℕ) (done : List Item) (o : Option (List ℕ)) (k : Option Arith) → In done → Answers In (set_string structs ps of place at done o k)
  string_in structs ps of place at done (Some bytes) (Some k) h = answers_unless (ltb (count ps) (length bytes)) 28 place _ (λ c. told _ (rest_in structs ps place at (length bytes) (chars_from k of place at done bytes) (chars_in k of place at done bytes h)))
  string_in structs ps of place at done (Some bytes) None h = silent
  string_in structs ps of place at done None k h = silent

  constant_if : (wanted : Bool) (v : Expr) (first : Place) → expr_in_range a v ≡ true → Answers (λ w. expr_in_range a w ≡ true) (if_constant wanted v first)
  constant_if wanted v first h = answers_unless _ 28 first _ (λ c. told v h)

  scalar_in : (wanted : Bool) (t : CType) (o : Operand) → IsOperand a o → Answers (λ w. expr_in_range a w ≡ true) (scalar_value wanted t o)
  scalar_in wanted t o h =
      answers_then (value_of o) _ (value_law a o h) (λ x m.
      answers_then (fitted t x o.first) _ (fitted_numbers a t x o.first m.value.numbers) (λ v n. constant_if wanted v o.first n))

  scalar_set_in : (wanted : Bool) (t : CType) (at : ℕ) (done : List Item) (o : Operand) → IsOperand a o → In done → Answers In (scalar_set wanted t at done o)
  scalar_set_in wanted t at done o h k = answers_then (scalar_value wanted t o) _ (scalar_in wanted t o h) (λ v n. told _ (push_in done (record { offset = at; value = v }) k n))

  refused_in : (o : Operand) → IsOperand a o → Answers In (struct_refused o)
  refused_in o h = answers_then (tree_of o) _ (tree_law a o h) (λ x k. silent)

later_items : (entry : Bool) (s t : Tables) (items : List Item) → Grows s t → items_in_range (range entry s) items ≡ true → items_in_range (range entry t) items ≡ true
later_items entry s t items g h = items_wider (range entry s) (range entry t) (within entry s t g) items h

pub record SettingKeeps (x : Setting) : Type 0 where
  pub goes : (around : Around) (t : CType) (at : ℕ) (done : List Item) (s : Tables) → IsFit s → items_in_range (range around.in_entry s) done ≡ true → Goes (ItemsAt around.in_entry) s (x.sets around t at done s)

abbrev AnInitial : Type 0
AnInitial = (x : Initial) × SettingKeeps (setting x)

scalar_keeps : (around : Around) (e : Tree) (t : CType) (at : ℕ) (done : List Item) (s : Tables) → IsFit s → items_in_range (range around.in_entry s) done ≡ true → Goes (ItemsAt around.in_entry) s (set_scalar around e t at done s)
scalar_keeps around e t at done s fit h = goes_unless s (is_misplaced e t) 28 (first_place e) _ (λ k.
    goes_then s (typed e around s) _ ((typed_walk e).goes around s fit) (λ o u c.
    keeps u _ c.fit (scalar_set_in (range around.in_entry u) around.scope.is_file t at done o c.holds (later_items around.in_entry s u done c.grows h))))

struct_keeps : (around : Around) (e : Tree) (s : Tables) → IsFit s → Goes (ItemsAt around.in_entry) s (set_struct around e s)
struct_keeps around e s fit = goes_then s (typed e around s) _ ((typed_walk e).goes around s fit) (λ o u c. keeps u _ c.fit (refused_in (range around.in_entry u) o c.holds))

expression_keeps : (around : Around) (e : Tree) (t : CType) (at : ℕ) (done : List Item) (o : Option Parts) (s : Tables) → IsFit s → items_in_range (range around.in_entry s) done ≡ true → Goes (ItemsAt around.in_entry) s (set_expression around e t at done o s)
expression_keeps around e t at done None s fit h = scalar_keeps around e t at done s fit h
expression_keeps around e t at done (Some (Elements of size len)) s fit h =
    keeps s _ fit (string_in (range around.in_entry s) s.structs (Elements of size len) of (first_place e) at done (string_of e) (char_kind of) h)
expression_keeps around e t at done (Some (Members slots)) s fit h = struct_keeps around e s fit

part_keeps : (x : Setting) → SettingKeeps x → (around : Around) (at : ℕ) (done : List Item) (o : Option Slot) (s : Tables) → IsFit s → items_in_range (range around.in_entry s) done ≡ true → Goes (ItemsAt around.in_entry) s (set_part x around at done o s)
part_keeps x k around at done (Some p) s fit h = k.goes around p.ctype (add at p.offset) done s fit h
part_keeps x k around at done None s fit h = stops

parts_keep : (ps : Parts) (place : Place) (around : Around) (at i : ℕ) (done : List Item) (xs : List AnInitial) (s : Tables) → IsFit s → items_in_range (range around.in_entry s) done ≡ true → Goes (ItemsAt around.in_entry) s (set_parts ps place around at i done (map setting (map (λ x. x.0) xs)) s)
parts_keep ps place around at i done [] s fit h = stays s _ fit (rest_in (range around.in_entry s) s.structs ps place at i done h)
parts_keep ps place around at i done (x ∷ xs) s fit h =
    goes_then s (set_part (setting x.0) around at done (part_at ps i) s) _ (part_keeps (setting x.0) x.1 around at done (part_at ps i) s fit h) (λ more u c.
    parts_keep ps place around at (add i 1) more xs u c.fit c.holds)

braces_keep : (place : Place) (xs : List AnInitial) (around : Around) (at : ℕ) (done : List Item) (o : Option Parts) (s : Tables) → IsFit s → items_in_range (range around.in_entry s) done ≡ true → Goes (ItemsAt around.in_entry) s (set_braces place (map setting (map (λ x. x.0) xs)) around at done o s)
braces_keep place xs around at done None s fit h = stops
braces_keep place xs around at done (Some ps) s fit h = parts_keep ps place around at 0 done xs s fit h

step_keeps : (y : Initial-F AnInitial) → SettingKeeps (initial_step (map-Initial Initial Setting setting (map-Initial AnInitial Initial (λ x. x.0) y)))
step_keeps (Assign e) = record { goes = λ around t at done s fit h. expression_keeps around e t at done (parts_of s.structs t) s fit h }
step_keeps (Braces place xs) = record { goes = λ around t at done s fit h. braces_keep place xs around at done (parts_of s.structs t) s fit h }

whole : (y : Initial-F AnInitial) → SettingKeeps (setting (roll-Initial (map-Initial AnInitial Initial (λ x. x.0) y)))
whole y = subst SettingKeeps (sym (fold-roll-Initial Setting initial_step (map-Initial AnInitial Initial (λ x. x.0) y))) (step_keeps y)

pub setting_keeps : (x : Initial) → SettingKeeps (setting x)
setting_keeps = ind-Initial (λ x. SettingKeeps (setting x)) (λ x y is. subst (λ z. SettingKeeps (setting (roll-Initial z))) is (whole y))

-- ---- a declared object

length_few : (t : CType) (x : Initial) (l : Look) → few t ≡ true → look_few l ≡ true → few (with_length t x l) ≡ true
length_few t x (shape.Array of None) h k = few_array of _ ∙ k
length_few t x (shape.Array of (Some n)) h k = h
length_few t x shape.Void h k = h
length_few t x (shape.Arith a) h k = h
length_few t x (shape.Pointer to) h k = h
length_few t x (shape.Struct m name size align) h k = h
length_few t x (shape.Function g p n) h k = h

completed_few : (t : CType) (x : Initial) (name : Place) → few t ≡ true → Answers (λ u. (few u ≡ true) × (fits u ≡ true)) (completed t x name)
completed_few t x name h = answers_cond {Q = λ u. (few u ≡ true) × (fits u ≡ true)} _ _ _ (λ k. told _ (length_few t x (look t) h (few_at t h), k)) (λ k. silent)

pub record IsInitialised (entry : Bool) (it : Initialised) (t : Tables) : Type 0 where
  pub typed : few it.ctype ≡ true
  pub small : fits it.ctype ≡ true
  pub items : items_in_range (range entry t) it.items ≡ true

pub initialise_keeps : (t : CType) (x : Initial) (name : Place) (around : Around) (s : Tables) → IsFit s → few t ≡ true → Goes (IsInitialised around.in_entry) s (initialise t x name around s)
initialise_keeps t x name around s fit h =
    then_goes s (completed t x name) _ (completed_few t x name h) (λ u k.
    goes_then s (sets x around u 0 [] s) _ ((setting_keeps x).goes around u 0 [] s fit refl) (λ items v c. stays v _ c.fit (record { typed = k.0; small = k.1; items = c.holds })))

-- an object's type stays that of an object
length_object : (t : CType) (x : Initial) (l : Look) → is_function t ≡ false → is_function (with_length t x l) ≡ false
length_object t x (shape.Array of None) h = ap looks_function (shape_out_is (shape.Array of _) _ (rolls-Array of _))
length_object t x (shape.Array of (Some n)) h = h
length_object t x shape.Void h = h
length_object t x (shape.Arith a) h = h
length_object t x (shape.Pointer to) h = h
length_object t x (shape.Struct m name size align) h = h
length_object t x (shape.Function g p n) h = h

pub initialised_object : (t : CType) (x : Initial) (name : Place) (around : Around) (s : Tables) → IsFit s → few t ≡ true → is_function t ≡ false → Goes (λ it u. IsInitialised around.in_entry it u × (is_function it.ctype ≡ false)) s (initialise t x name around s)
initialised_object t x name around s fit h k =
    then_goes s (completed t x name) _ (answers_cond {Q = λ u. (few u ≡ true) × (is_function u ≡ false) × (fits u ≡ true)} _ _ _ (λ c. told _ (length_few t x (look t) h (few_at t h), length_object t x (look t) k, c)) (λ c. silent)) (λ u c.
    goes_then s (sets x around u 0 [] s) _ ((setting_keeps x).goes around u 0 [] s fit refl) (λ items v d. stays v _ d.fit (record { typed = c.0; small = c.2; items = d.holds }, c.1)))
