-- The grammar of expressions and types. `Cond names ts e rest`: a `cond` that is e stands at the front of ts, with rest
-- after it, where names are the typedef names. One case for each alternative of the grammar. A loop { .. } is a relation of
-- its own: after those of so_far come all. A rule that looks ahead is a premise on the tokens that follow.
use Rattle.std.specs.Prelude.{◌≡◌, ℕ, suc, Bool, true, false, List, [], ◌∷◌, ◌++◌, Option, Some, None}
use Rattle.cm_base.specs.declared.place.Place.{Place}
use Rattle.c_lex.specs.declared.token.Keyword.TheVariants as word
use Rattle.c_lex.specs.declared.token.Punct.TheVariants as mark
use Rattle.c_lex.specs.declared.token.Token.{Token}
use Rattle.c_grammar.specs.declared.tokens.Sign.{Sign}
use Rattle.c_grammar.specs.declared.tokens.Sign.TheVariants.{Word, Mark}
use Rattle.c_ast.specs.declared.expr.Name.{Name}
use Rattle.c_ast.specs.declared.expr.BinOp.{BinOp}
use Rattle.c_ast.specs.declared.expr.AssignOp.{AssignOp}
use Rattle.c_ast.specs.declared.expr.UnOp.{UnOp}
use Rattle.c_ast.specs.declared.expr.StepOp.{StepOp}
use Rattle.c_ast.specs.declared.expr.SpecWord.{SpecWord}
use Rattle.c_ast.specs.declared.expr.One.{One}
use Rattle.c_ast.specs.declared.expr.One.TheVariants as one
use Rattle.c_ast.specs.declared.expr.Attr.{Attr}
use Rattle.c_ast.specs.declared.expr.Star.{Star}
use Rattle.c_ast.specs.declared.expr.Star.TheVariants as star
use Rattle.c_ast.specs.declared.expr.Expr.{Expr}
use Rattle.c_ast.specs.declared.expr.Expr.TheVariants as tree
use Rattle.c_ast.specs.declared.expr.Link.{Link}
use Rattle.c_ast.specs.declared.expr.Next.{Next as After}
use Rattle.c_ast.specs.declared.expr.Access.{Access}
use Rattle.c_ast.specs.declared.expr.Access.TheVariants as access
use Rattle.c_ast.specs.declared.expr.TypeName.{TypeName}
use Rattle.c_ast.specs.declared.expr.Spec.{Spec}
use Rattle.c_ast.specs.declared.expr.Spec.TheVariants as spec
use Rattle.c_ast.specs.declared.expr.StructSpec.{StructSpec}
use Rattle.c_ast.specs.declared.expr.StructSpec.TheVariants as structs
use Rattle.c_ast.specs.declared.expr.Member.{Member}
use Rattle.c_ast.specs.declared.expr.Member.TheVariants as member
use Rattle.c_ast.specs.declared.expr.EnumSpec.{EnumSpec}
use Rattle.c_ast.specs.declared.expr.EnumSpec.TheVariants as enums
use Rattle.c_ast.specs.declared.expr.Enumerator.{Enumerator}
use Rattle.c_ast.specs.declared.expr.Declarator.{Declarator}
use Rattle.c_ast.specs.declared.expr.Suffix.{Suffix}
use Rattle.c_ast.specs.declared.expr.Suffix.TheVariants as suffix
use Rattle.c_ast.specs.declared.expr.Params.{Params}
use Rattle.c_ast.specs.declared.expr.Params.TheVariants as params
use Rattle.c_ast.specs.declared.expr.Param.{Param}
use Rattle.c_ast.specs.declared.expr.Param.TheVariants as param
use Rattle.c_ast.specs.declared.expr.Abstract.{Abstract}
use Rattle.c_ast.specs.declared.expr.Abstract.TheVariants as abstracts
use Rattle.c_grammar.specs.Tokens.{of, next_is, name_of, type_of, number_of, char_of, string_of, assign_op_of, un_op_of, step_op_of, spec_word_of, op_of, begins_spec, void_params, opens_group}

-- a word or a mark, and its place
pub data Next (s : Sign) : List Token → Place → List Token → Type 0 where
  token : {k : Token} {r : List Token} → k.kind ≡ of s → Next s (k ∷ r) k.place r

-- a token that has a value by f: NAME, TYPENAME, NUMBER, CHAR, STRING, INCLUDE, an operator of a table
pub data Takes {A : Type 0} (f : Token → Option A) : List Token → A → List Token → Type 0 where
  takes : {k : Token} {r : List Token} {a : A} → f k ≡ Some a → Takes f (k ∷ r) a r

-- ---- trees of chains: a chain of one is its part

abbrev pub commas : Expr → List After → Expr
commas a [] = a
commas a (b ∷ bs) = tree.Comma a (b ∷ bs)

abbrev pub accessed : Expr → List Access → Expr
accessed a [] = a
accessed a (b ∷ bs) = tree.Postfix a (b ∷ bs)

abbrev pub joined : Expr → List Link → Expr
joined a [] = a
joined a (b ∷ bs) = tree.Binary a (b ∷ bs)

abbrev pub link : Place × BinOp → Expr → Link
link o b = record { place = o.0; op = o.1; operand = b }

-- an expression after the comma at this place
abbrev pub after_comma : Place → Expr → After
after_comma k b = record { place = k; value = b }

-- ---- attributes and stars

-- one = NAME [ "(" STRING ")" ]
pub data OneAt (names : List (List ℕ)) : List Token → One → List Token → Type 0 where
  one_with : {ts r1 r2 r3 rest : List Token} {n : Name} {o c : Place} {s : Place × List ℕ} →
      Takes (name_of names) ts n r1 → Next (Mark mark.ParenOpen) r1 o r2 → Takes string_of r2 s r3 → Next (Mark mark.ParenClose) r3 c rest → OneAt names ts (one.With n s.1) rest
  one_plain : {ts rest : List Token} {n : Name} → Takes (name_of names) ts n rest → OneAt names ts (one.Plain n) rest

-- { "," one }, after those of so_far
pub data MoreOnes (names : List (List ℕ)) : List Token → List One → List One → List Token → Type 0 where
  no_one : {ts : List Token} {so_far : List One} → MoreOnes names ts so_far so_far ts
  next_one : {ts r1 r2 rest : List Token} {k : Place} {x : One} {so_far all : List One} →
      Next (Mark mark.Comma) ts k r1 → OneAt names r1 x r2 → MoreOnes names r2 (so_far ++ x ∷ []) all rest → MoreOnes names ts so_far all rest

-- attr = "__attribute__" "(" "(" one { "," one } ")" ")"
pub data AttrAt (names : List (List ℕ)) : List Token → Attr → List Token → Type 0 where
  attr_ : {ts r1 r2 r3 r4 r5 r6 rest : List Token} {p o o2 c c2 : Place} {x : One} {xs : List One} →
      Next (Word word.Attribute) ts p r1 → Next (Mark mark.ParenOpen) r1 o r2 → Next (Mark mark.ParenOpen) r2 o2 r3 → OneAt names r3 x r4 → MoreOnes names r4 (x ∷ []) xs r5 → Next (Mark mark.ParenClose) r5 c r6 → Next (Mark mark.ParenClose) r6 c2 rest → AttrAt names ts (record { place = p; list = xs }) rest

-- { attr }, after those of so_far
pub data Attrs (names : List (List ℕ)) : List Token → List Attr → List Attr → List Token → Type 0 where
  no_attr : {ts : List Token} {so_far : List Attr} → Attrs names ts so_far so_far ts
  next_attr : {ts r1 rest : List Token} {a : Attr} {so_far all : List Attr} →
      AttrAt names ts a r1 → Attrs names r1 (so_far ++ a ∷ []) all rest → Attrs names ts so_far all rest

-- { attr }, before the first "*", after those of so_far
pub data LeadAttrs (names : List (List ℕ)) : List Token → List Star → List Star → List Token → Type 0 where
  no_lead : {ts : List Token} {so_far : List Star} → LeadAttrs names ts so_far so_far ts
  next_lead : {ts r1 rest : List Token} {a : Attr} {so_far all : List Star} →
      AttrAt names ts a r1 → LeadAttrs names r1 (so_far ++ star.Attr a ∷ []) all rest → LeadAttrs names ts so_far all rest

-- star = "*" | "const" | "volatile" | attr
pub data StarAt (names : List (List ℕ)) : List Token → Star → List Token → Type 0 where
  star_star : {ts rest : List Token} {p : Place} → Next (Mark mark.Star) ts p rest → StarAt names ts (star.Star p) rest
  star_const : {ts rest : List Token} {p : Place} → Next (Word word.Const) ts p rest → StarAt names ts (star.Const p) rest
  star_volatile : {ts rest : List Token} {p : Place} → Next (Word word.Volatile) ts p rest → StarAt names ts (star.Volatile p) rest
  star_attr : {ts rest : List Token} {a : Attr} → AttrAt names ts a rest → StarAt names ts (star.Attr a) rest

-- { "*" | "const" | "volatile" | attr }, after those of so_far
pub data MoreStars (names : List (List ℕ)) : List Token → List Star → List Star → List Token → Type 0 where
  no_star : {ts : List Token} {so_far : List Star} → MoreStars names ts so_far so_far ts
  next_star : {ts r1 rest : List Token} {x : Star} {so_far all : List Star} →
      StarAt names ts x r1 → MoreStars names r1 (so_far ++ x ∷ []) all rest → MoreStars names ts so_far all rest

-- stars = { attr } [ "*" { "*" | "const" | "volatile" | attr } ]: a "const" or "volatile" among the stars follows a "*"
pub data Stars (names : List (List ℕ)) : List Token → (List Star) → List Token → Type 0 where
  some_stars : {ts r1 r2 rest : List Token} {a xs : List Star} {p : Place} →
      LeadAttrs names ts [] a r1 → Next (Mark mark.Star) r1 p r2 → MoreStars names r2 (a ++ star.Star p ∷ []) xs rest → Stars names ts xs rest
  no_stars : {ts rest : List Token} {a : List Star} → LeadAttrs names ts [] a rest → Stars names ts a rest

-- opt_comma = [ "," ]
pub data OptComma : List Token → Bool → List Token → Type 0 where
  a_comma : {ts rest : List Token} {p : Place} → Next (Mark mark.Comma) ts p rest → OptComma ts true rest
  no_comma : {ts : List Token} → OptComma ts false ts

-- ---- expressions and types

mutual
  -- expr = assign { "," assign }
  pub data ExprAt (names : List (List ℕ)) : List Token → Expr → List Token → Type 0 where
    exprs : {ts r1 rest : List Token} {a : Expr} {more : List After} →
        Assign names ts a r1 → MoreCommas names r1 [] more rest → ExprAt names ts (commas a more) rest

  -- { "," assign } with the places of the commas, after those of so_far
  pub data MoreCommas (names : List (List ℕ)) : List Token → List After → List After → List Token → Type 0 where
    no_commas : {ts : List Token} {so_far : List After} → MoreCommas names ts so_far so_far ts
    next_comma : {ts r1 r2 rest : List Token} {k : Place} {b : Expr} {so_far all : List After} →
        Next (Mark mark.Comma) ts k r1 → Assign names r1 b r2 → MoreCommas names r2 (so_far ++ after_comma k b ∷ []) all rest → MoreCommas names ts so_far all rest

  -- { "," assign }, after those of so_far
  pub data MoreExprs (names : List (List ℕ)) : List Token → List Expr → List Expr → List Token → Type 0 where
    no_expr : {ts : List Token} {so_far : List Expr} → MoreExprs names ts so_far so_far ts
    next_expr : {ts r1 r2 rest : List Token} {k : Place} {b : Expr} {so_far all : List Expr} →
        Next (Mark mark.Comma) ts k r1 → Assign names r1 b r2 → MoreExprs names r2 (so_far ++ b ∷ []) all rest → MoreExprs names ts so_far all rest

  -- assign = cond [ aop assign ]
  pub data Assign (names : List (List ℕ)) : List Token → Expr → List Token → Type 0 where
    assigned : {ts r1 r2 rest : List Token} {a b : Expr} {o : Place × AssignOp} →
        Cond names ts a r1 → Takes assign_op_of r1 o r2 → Assign names r2 b rest → Assign names ts (tree.Assign o.0 o.1 a b) rest
    only_cond : {ts rest : List Token} {a : Expr} → Cond names ts a rest → Assign names ts a rest

  -- cond = binary [ "?" expr ":" cond ]
  pub data Cond (names : List (List ℕ)) : List Token → Expr → List Token → Type 0 where
    chosen : {ts r1 r2 r3 r4 rest : List Token} {a b d : Expr} {k c : Place} →
        Binary names 10 ts a r1 → Next (Mark mark.Question) r1 k r2 → ExprAt names r2 b r3 → Next (Mark mark.Colon) r3 c r4 → Cond names r4 d rest → Cond names ts (tree.Choice k a b d) rest
    only_binary : {ts rest : List Token} {a : Expr} → Binary names 10 ts a rest → Cond names ts a rest

  -- binary: of level 0 it is a cast, and of level l + 1 a binary of level l { operator of level l, binary of level l }
  pub data Binary (names : List (List ℕ)) : ℕ → List Token → Expr → List Token → Type 0 where
    only_cast : {ts rest : List Token} {a : Expr} → Cast names ts a rest → Binary names 0 ts a rest
    binaries : {l : ℕ} {ts r1 rest : List Token} {a : Expr} {more : List Link} →
        Binary names l ts a r1 → MoreOps names l r1 [] more rest → Binary names (suc l) ts (joined a more) rest

  -- { operator of level l, binary of level l }, after those of so_far
  pub data MoreOps (names : List (List ℕ)) : ℕ → List Token → List Link → List Link → List Token → Type 0 where
    no_op : {l : ℕ} {ts : List Token} {so_far : List Link} → MoreOps names l ts so_far so_far ts
    next_op : {l : ℕ} {ts r1 r2 rest : List Token} {o : Place × BinOp} {b : Expr} {so_far all : List Link} →
        Takes (op_of l) ts o r1 → Binary names l r1 b r2 → MoreOps names l r2 (so_far ++ link o b ∷ []) all rest → MoreOps names l ts so_far all rest

  -- cast = "(" typename ")" cast | unary
  pub data Cast (names : List (List ℕ)) : List Token → Expr → List Token → Type 0 where
    converted : {ts r1 r2 r3 rest : List Token} {k c : Place} {t : TypeName} {e : Expr} →
        Next (Mark mark.ParenOpen) ts k r1 → TypeNameAt names r1 t r2 → Next (Mark mark.ParenClose) r2 c r3 → Cast names r3 e rest → Cast names ts (tree.Cast k t e) rest
    only_unary : {ts rest : List Token} {a : Expr} → Unary names ts a rest → Cast names ts a rest

  -- typename = specs abstract
  pub data TypeNameAt (names : List (List ℕ)) : List Token → TypeName → List Token → Type 0 where
    type_name : {ts r1 rest : List Token} {s : List Spec} {a : Abstract} →
        SpecsAt names ts s r1 → AbstractAt names r1 a rest → TypeNameAt names ts (record { specs = s; declarator = a }) rest

  -- unary = ( "++" | "--" ) unary | ( "&" | "*" | "+" | "-" | "~" | "!" ) cast | "sizeof" .. | postfix
  pub data Unary (names : List (List ℕ)) : List Token → Expr → List Token → Type 0 where
    counted_unary : {ts rest : List Token} {e : Expr} → Stepped names ts e rest → Unary names ts e rest
    prefixed : {ts r1 rest : List Token} {o : Place × UnOp} {e : Expr} →
        Takes un_op_of ts o r1 → Cast names r1 e rest → Unary names ts (tree.Unary o.0 o.1 e) rest
    only_postfix : {ts rest : List Token} {e : Expr} → Postfix names ts e rest → Unary names ts e rest

  -- stepped = ( "++" | "--" ) unary | "sizeof" ( unary | "(" typename ")" )
  pub data Stepped (names : List (List ℕ)) : List Token → Expr → List Token → Type 0 where
    step_before : {ts r1 rest : List Token} {o : Place × StepOp} {e : Expr} →
        Takes step_op_of ts o r1 → Unary names r1 e rest → Stepped names ts (tree.Step o.0 o.1 e) rest
    a_sizeof : {ts rest : List Token} {e : Expr} → SizeofAt names ts e rest → Stepped names ts e rest

  -- sizeof = "sizeof" ( unary | "(" typename ")" )
  pub data SizeofAt (names : List (List ℕ)) : List Token → Expr → List Token → Type 0 where
    sizeof_type : {ts r1 r2 r3 rest : List Token} {k o c : Place} {t : TypeName} →
        Next (Word word.Sizeof) ts k r1 → Next (Mark mark.ParenOpen) r1 o r2 → TypeNameAt names r2 t r3 → Next (Mark mark.ParenClose) r3 c rest → SizeofAt names ts (tree.SizeofType k t) rest
    sizeof_expr : {ts r1 rest : List Token} {k : Place} {e : Expr} →
        Next (Word word.Sizeof) ts k r1 → Unary names r1 e rest → SizeofAt names ts (tree.SizeofExpr k e) rest

  -- postfix = primary { access }
  pub data Postfix (names : List (List ℕ)) : List Token → Expr → List Token → Type 0 where
    postfixed : {ts r1 rest : List Token} {a : Expr} {more : List Access} →
        Primary names ts a r1 → Accesses names r1 [] more rest → Postfix names ts (accessed a more) rest

  -- { access }, after those of so_far
  pub data Accesses (names : List (List ℕ)) : List Token → List Access → List Access → List Token → Type 0 where
    no_access : {ts : List Token} {so_far : List Access} → Accesses names ts so_far so_far ts
    next_access : {ts r1 rest : List Token} {x : Access} {so_far all : List Access} →
        AccessAt names ts x r1 → Accesses names r1 (so_far ++ x ∷ []) all rest → Accesses names ts so_far all rest

  -- access = "[" expr "]" | "(" [ assign { "," assign } ] ")" | "." NAME | "->" NAME | "++" | "--"
  pub data AccessAt (names : List (List ℕ)) : List Token → Access → List Token → Type 0 where
    indexed : {ts r1 r2 rest : List Token} {k c : Place} {e : Expr} →
        Next (Mark mark.BracketOpen) ts k r1 → ExprAt names r1 e r2 → Next (Mark mark.BracketClose) r2 c rest → AccessAt names ts (access.Index k e) rest
    called : {ts r1 r2 rest : List Token} {k c : Place} {xs : List Expr} →
        Next (Mark mark.ParenOpen) ts k r1 → Args names r1 xs r2 → Next (Mark mark.ParenClose) r2 c rest → AccessAt names ts (access.Call k xs) rest
    member_of : {ts r1 rest : List Token} {k : Place} {n : Name} →
        Next (Mark mark.Dot) ts k r1 → Takes (name_of names) r1 n rest → AccessAt names ts (access.Member k n) rest
    member_behind : {ts r1 rest : List Token} {k : Place} {n : Name} →
        Next (Mark mark.Arrow) ts k r1 → Takes (name_of names) r1 n rest → AccessAt names ts (access.Arrow k n) rest
    step_after : {ts rest : List Token} {o : Place × StepOp} → Takes step_op_of ts o rest → AccessAt names ts (access.Step o.0 o.1) rest

  -- args = [ assign { "," assign } ]
  pub data Args (names : List (List ℕ)) : List Token → (List Expr) → List Token → Type 0 where
    some_args : {ts r1 rest : List Token} {a : Expr} {xs : List Expr} →
        Assign names ts a r1 → MoreExprs names r1 (a ∷ []) xs rest → Args names ts xs rest
    no_args : {ts : List Token} → Args names ts [] ts

  -- primary = NAME | NUMBER | CHAR | STRING | "(" expr ")"
  pub data Primary (names : List (List ℕ)) : List Token → Expr → List Token → Type 0 where
    a_name : {ts rest : List Token} {n : Name} → Takes (name_of names) ts n rest → Primary names ts (tree.Name n) rest
    a_number : {ts rest : List Token} {e : Expr} → Takes number_of ts e rest → Primary names ts e rest
    a_char : {ts rest : List Token} {e : Expr} → Takes char_of ts e rest → Primary names ts e rest
    a_string : {ts rest : List Token} {s : Place × List ℕ} → Takes string_of ts s rest → Primary names ts (tree.Str s.0 s.1) rest
    grouped : {ts r1 r2 rest : List Token} {k c : Place} {e : Expr} →
        Next (Mark mark.ParenOpen) ts k r1 → ExprAt names r1 e r2 → Next (Mark mark.ParenClose) r2 c rest → Primary names ts (tree.Group k e) rest

  -- specs = spec { spec }, the longest run
  pub data SpecsAt (names : List (List ℕ)) : List Token → (List Spec) → List Token → Type 0 where
    some_specs : {ts r1 rest : List Token} {s : Spec} {xs : List Spec} →
        SpecAt names ts s r1 → MoreSpecs names r1 (s ∷ []) xs rest → SpecsAt names ts xs rest

  -- { spec }, after those of so_far
  pub data MoreSpecs (names : List (List ℕ)) : List Token → List Spec → List Spec → List Token → Type 0 where
    no_spec : {ts : List Token} {so_far : List Spec} → begins_spec names ts ≡ false → MoreSpecs names ts so_far so_far ts
    next_spec : {ts r1 rest : List Token} {s : Spec} {so_far all : List Spec} →
        SpecAt names ts s r1 → MoreSpecs names r1 (so_far ++ s ∷ []) all rest → MoreSpecs names ts so_far all rest

  -- spec = "typedef" | .. | "unsigned" | TYPENAME | struct | enum | attr
  pub data SpecAt (names : List (List ℕ)) : List Token → Spec → List Token → Type 0 where
    a_word : {ts rest : List Token} {w : Place × SpecWord} → Takes spec_word_of ts w rest → SpecAt names ts (spec.Word w.0 w.1) rest
    a_struct : {ts rest : List Token} {s : StructSpec} → StructAt names ts s rest → SpecAt names ts (spec.Struct s) rest
    an_enum : {ts rest : List Token} {e : EnumSpec} → EnumAt names ts e rest → SpecAt names ts (spec.Enum e) rest
    an_attr : {ts rest : List Token} {a : Attr} → AttrAt names ts a rest → SpecAt names ts (spec.Attr a) rest
    a_type : {ts rest : List Token} {n : Name} → Takes (type_of names) ts n rest → SpecAt names ts (spec.TypeName n) rest

  -- structs = "struct" [ NAME ] "{" member { member } "}" | "struct" NAME
  pub data StructAt (names : List (List ℕ)) : List Token → StructSpec → List Token → Type 0 where
    struct_body : {ts r1 r2 rest : List Token} {p : Place} {n : Name} {xs : List Member} →
        Next (Word word.Struct) ts p r1 → Takes (name_of names) r1 n r2 → Members names r2 xs rest → StructAt names ts (structs.Body p (Some n) xs) rest
    struct_tag : {ts r1 rest : List Token} {p : Place} {n : Name} →
        Next (Word word.Struct) ts p r1 → Takes (name_of names) r1 n rest → next_is (Mark mark.BraceOpen) rest ≡ false → StructAt names ts (structs.Tag p n) rest
    struct_plain : {ts r1 rest : List Token} {p : Place} {xs : List Member} →
        Next (Word word.Struct) ts p r1 → Members names r1 xs rest → StructAt names ts (structs.Body p None xs) rest

  -- members = "{" member { member } "}"
  pub data Members (names : List (List ℕ)) : List Token → (List Member) → List Token → Type 0 where
    braced_members : {ts r1 r2 r3 rest : List Token} {o c : Place} {m : Member} {xs : List Member} →
        Next (Mark mark.BraceOpen) ts o r1 → MemberAt names r1 m r2 → MoreMembers names r2 (m ∷ []) xs r3 → Next (Mark mark.BraceClose) r3 c rest → Members names ts xs rest

  -- { member }, after those of so_far
  pub data MoreMembers (names : List (List ℕ)) : List Token → List Member → List Member → List Token → Type 0 where
    no_member : {ts : List Token} {so_far : List Member} → MoreMembers names ts so_far so_far ts
    next_member : {ts r1 rest : List Token} {m : Member} {so_far all : List Member} →
        MemberAt names ts m r1 → MoreMembers names r1 (so_far ++ m ∷ []) all rest → MoreMembers names ts so_far all rest

  -- member = specs declarator { "," declarator } ";"
  pub data MemberAt (names : List (List ℕ)) : List Token → Member → List Token → Type 0 where
    a_member : {ts r1 r2 r3 rest : List Token} {s : List Spec} {d : Declarator} {ds : List Declarator} {c : Place} →
        SpecsAt names ts s r1 → DeclaratorAt names r1 d r2 → MoreDeclarators names r2 (d ∷ []) ds r3 → Next (Mark mark.Semicolon) r3 c rest → MemberAt names ts (member.Declares s ds) rest

  -- { "," declarator }, after those of so_far
  pub data MoreDeclarators (names : List (List ℕ)) : List Token → List Declarator → List Declarator → List Token → Type 0 where
    no_declarator : {ts : List Token} {so_far : List Declarator} → MoreDeclarators names ts so_far so_far ts
    next_declarator : {ts r1 r2 rest : List Token} {k : Place} {d : Declarator} {so_far all : List Declarator} →
        Next (Mark mark.Comma) ts k r1 → DeclaratorAt names r1 d r2 → MoreDeclarators names r2 (so_far ++ d ∷ []) all rest → MoreDeclarators names ts so_far all rest

  -- enums = "enum" [ NAME ] "{" enumr { "," enumr } [ "," ] "}" | "enum" NAME
  pub data EnumAt (names : List (List ℕ)) : List Token → EnumSpec → List Token → Type 0 where
    enum_body : {ts r1 r2 rest : List Token} {p : Place} {n : Name} {xs : List Enumerator} →
        Next (Word word.Enum) ts p r1 → Takes (name_of names) r1 n r2 → Enumrs names r2 xs rest → EnumAt names ts (enums.Body p (Some n) xs) rest
    enum_tag : {ts r1 rest : List Token} {p : Place} {n : Name} →
        Next (Word word.Enum) ts p r1 → Takes (name_of names) r1 n rest → next_is (Mark mark.BraceOpen) rest ≡ false → EnumAt names ts (enums.Tag p n) rest
    enum_plain : {ts r1 rest : List Token} {p : Place} {xs : List Enumerator} →
        Next (Word word.Enum) ts p r1 → Enumrs names r1 xs rest → EnumAt names ts (enums.Body p None xs) rest

  -- enumrs = "{" enumr { "," enumr } [ "," ] "}"
  pub data Enumrs (names : List (List ℕ)) : List Token → (List Enumerator) → List Token → Type 0 where
    braced_enumrs : {ts r1 r2 r3 r4 rest : List Token} {o c : Place} {m : Enumerator} {xs : List Enumerator} {b : Bool} →
        Next (Mark mark.BraceOpen) ts o r1 → EnumrAt names r1 m r2 → MoreEnumrs names r2 (m ∷ []) xs r3 → OptComma r3 b r4 → Next (Mark mark.BraceClose) r4 c rest → Enumrs names ts xs rest

  -- { "," enumr }, after those of so_far
  pub data MoreEnumrs (names : List (List ℕ)) : List Token → List Enumerator → List Enumerator → List Token → Type 0 where
    no_enumr : {ts : List Token} {so_far : List Enumerator} → MoreEnumrs names ts so_far so_far ts
    next_enumr : {ts r1 r2 rest : List Token} {k : Place} {m : Enumerator} {so_far all : List Enumerator} →
        Next (Mark mark.Comma) ts k r1 → EnumrAt names r1 m r2 → MoreEnumrs names r2 (so_far ++ m ∷ []) all rest → MoreEnumrs names ts so_far all rest

  -- enumr = NAME [ "=" cond ]
  pub data EnumrAt (names : List (List ℕ)) : List Token → Enumerator → List Token → Type 0 where
    enumr_value : {ts r1 r2 rest : List Token} {n : Name} {k : Place} {e : Expr} →
        Takes (name_of names) ts n r1 → Next (Mark mark.Assign) r1 k r2 → Cond names r2 e rest → EnumrAt names ts (record { name = n; value = Some e }) rest
    enumr_plain : {ts rest : List Token} {n : Name} → Takes (name_of names) ts n rest → EnumrAt names ts (record { name = n; value = None }) rest

  -- declarator = stars ( NAME | "(" declarator ")" ) { suffix }
  pub data DeclaratorAt (names : List (List ℕ)) : List Token → Declarator → List Token → Type 0 where
    plain_declarator : {ts r1 r2 rest : List Token} {s : List Star} {n : Name} {xs : List Suffix} →
        Stars names ts s r1 → Takes (name_of names) r1 n r2 → Suffixes names r2 [] xs rest → DeclaratorAt names ts (record { name = n; form = abstracts.Plain s xs }) rest
    group_declarator : {ts r1 r2 r3 r4 rest : List Token} {s : List Star} {p c : Place} {d : Declarator} {xs : List Suffix} →
        Stars names ts s r1 → Next (Mark mark.ParenOpen) r1 p r2 → DeclaratorAt names r2 d r3 → Next (Mark mark.ParenClose) r3 c r4 → Suffixes names r4 [] xs rest → DeclaratorAt names ts (record { name = d.name; form = abstracts.Group s p d.form xs }) rest

  -- { suffix }, after those of so_far
  pub data Suffixes (names : List (List ℕ)) : List Token → List Suffix → List Suffix → List Token → Type 0 where
    no_suffix : {ts : List Token} {so_far : List Suffix} → Suffixes names ts so_far so_far ts
    next_suffix : {ts r1 rest : List Token} {x : Suffix} {so_far all : List Suffix} →
        SuffixAt names ts x r1 → Suffixes names r1 (so_far ++ x ∷ []) all rest → Suffixes names ts so_far all rest

  -- suffix = "[" [ cond ] "]" | "(" [ params ] ")"
  pub data SuffixAt (names : List (List ℕ)) : List Token → Suffix → List Token → Type 0 where
    array_suffix : {ts r1 r2 rest : List Token} {p c : Place} {e : Option Expr} →
        Next (Mark mark.BracketOpen) ts p r1 → OptCond names r1 e r2 → Next (Mark mark.BracketClose) r2 c rest → SuffixAt names ts (suffix.Array p e) rest
    params_suffix : {ts r1 r2 rest : List Token} {p c : Place} {xs : Params} →
        Next (Mark mark.ParenOpen) ts p r1 → ParamsAt names r1 xs r2 → Next (Mark mark.ParenClose) r2 c rest → SuffixAt names ts (suffix.Params p xs) rest

  -- opt_cond = [ cond ]
  pub data OptCond (names : List (List ℕ)) : List Token → (Option Expr) → List Token → Type 0 where
    a_cond : {ts rest : List Token} {e : Expr} → Cond names ts e rest → OptCond names ts (Some e) rest
    no_cond : {ts : List Token} → OptCond names ts None ts

  -- params = [ "void" | param { "," param } ]
  pub data ParamsAt (names : List (List ℕ)) : List Token → Params → List Token → Type 0 where
    void_only : {ts rest : List Token} {p : Place} → Next (Word word.Void) ts p rest → ParamsAt names ts (params.Void p) rest
    some_params : {ts r1 rest : List Token} {x : Param} {xs : List Param} →
        void_params ts ≡ false → ParamAt names ts x r1 → MoreParams names r1 (x ∷ []) xs rest → ParamsAt names ts (params.List xs) rest
    no_params : {ts : List Token} → ParamsAt names ts params.Empty ts

  -- { "," param }, after those of so_far
  pub data MoreParams (names : List (List ℕ)) : List Token → List Param → List Param → List Token → Type 0 where
    no_param : {ts : List Token} {so_far : List Param} → MoreParams names ts so_far so_far ts
    next_param : {ts r1 r2 rest : List Token} {k : Place} {x : Param} {so_far all : List Param} →
        Next (Mark mark.Comma) ts k r1 → ParamAt names r1 x r2 → MoreParams names r2 (so_far ++ x ∷ []) all rest → MoreParams names ts so_far all rest

  -- param = specs ( declarator | abstract )
  pub data ParamAt (names : List (List ℕ)) : List Token → Param → List Token → Type 0 where
    named_param : {ts r1 rest : List Token} {s : List Spec} {d : Declarator} → SpecsAt names ts s r1 → DeclaratorAt names r1 d rest → ParamAt names ts (param.Named s d) rest
    unnamed_param : {ts r1 rest : List Token} {s : List Spec} {a : Abstract} → SpecsAt names ts s r1 → AbstractAt names r1 a rest → ParamAt names ts (param.Unnamed s a) rest

  -- abstract = stars [ "(" abstract ")" ] { suffix }; a "(" is a suffix unless a "*", "(", "[" or an attribute follows it
  pub data AbstractAt (names : List (List ℕ)) : List Token → Abstract → List Token → Type 0 where
    group_abstract : {ts r1 r2 r3 r4 rest : List Token} {s : List Star} {p c : Place} {a : Abstract} {xs : List Suffix} →
        Stars names ts s r1 → opens_group r1 ≡ true → Next (Mark mark.ParenOpen) r1 p r2 → AbstractAt names r2 a r3 → Next (Mark mark.ParenClose) r3 c r4 → Suffixes names r4 [] xs rest → AbstractAt names ts (abstracts.Group s p a xs) rest
    plain_abstract : {ts r1 rest : List Token} {s : List Star} {xs : List Suffix} →
        Stars names ts s r1 → opens_group r1 ≡ false → Suffixes names r1 [] xs rest → AbstractAt names ts (abstracts.Plain s xs) rest
