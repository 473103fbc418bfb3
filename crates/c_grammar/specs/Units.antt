-- The grammar of declarations, statements and units.
use Rattle.std.specs.Prelude.{◌≡◌, ℕ, Bool, true, false, List, [], ◌∷◌, ◌++◌, Option, Some, None, if◌then◌else◌}
use Rattle.cm_base.specs.declared.place.Place.{Place}
use Rattle.c_lex.specs.declared.token.Keyword.TheVariants as word
use Rattle.c_lex.specs.declared.token.Punct.TheVariants as mark
use Rattle.c_lex.specs.declared.token.Token.{Token}
use Rattle.c_grammar.specs.declared.tokens.Sign.TheVariants.{Word, Mark}
use Rattle.c_ast.specs.declared.expr.SpecWord.{SpecWord}
use Rattle.c_ast.specs.declared.expr.Attr.{Attr}
use Rattle.c_ast.specs.declared.expr.Expr.{Expr}
use Rattle.c_ast.specs.declared.expr.Spec.{Spec}
use Rattle.c_ast.specs.declared.expr.Declarator.{Declarator}
use Rattle.c_ast.specs.declared.stmt.Initial.{Initial}
use Rattle.c_ast.specs.declared.stmt.Initial.TheVariants as initial
use Rattle.c_ast.specs.declared.stmt.Init.{Init}
use Rattle.c_ast.specs.declared.stmt.Decl.{Decl}
use Rattle.c_ast.specs.declared.stmt.First.{First}
use Rattle.c_ast.specs.declared.stmt.First.TheVariants as first
use Rattle.c_ast.specs.declared.stmt.Label.{Label}
use Rattle.c_ast.specs.declared.stmt.Label.TheVariants as label
use Rattle.c_ast.specs.declared.stmt.Block.{Block}
use Rattle.c_ast.specs.declared.stmt.Item.{Item}
use Rattle.c_ast.specs.declared.stmt.Item.TheVariants as item
use Rattle.c_ast.specs.declared.stmt.Part.{Part}
use Rattle.c_ast.specs.declared.stmt.Part.TheVariants as part
use Rattle.c_ast.specs.declared.stmt.Stmt.{Stmt}
use Rattle.c_ast.specs.declared.stmt.Stmt.TheVariants as stmt
use Rattle.c_ast.specs.declared.stmt.Function.{Function}
use Rattle.c_ast.specs.declared.stmt.External.{External}
use Rattle.c_ast.specs.declared.stmt.External.TheVariants as external
use Rattle.c_grammar.specs.Tokens.{next_is, include_of, with_names}
use Rattle.c_grammar.specs.Grammar.{Attrs, OptComma, ExprAt, Assign, Cond, SpecsAt, DeclaratorAt, Next, Takes}
use Rattle.std.specs.Prelude.{map}
use Rattle.std.specs.List.{list_any}
use Rattle.std.specs.Prelude.{codes}
use Rattle.c_ast.specs.declared.expr.SpecWord.TheVariants as specword
use Rattle.c_ast.specs.declared.expr.Abstract.TheOpen as layer
use Rattle.c_ast.specs.declared.expr.Abstract.TheViews.{out-Spec}
use Rattle.c_lex.specs.declared.token.Header.{Header}
use Rattle.c_lex.specs.declared.token.Header.TheVariants as header

mutual
  -- initial = assign | "{" initial { "," initial } [ "," ] "}"
  pub data InitialAt (names : List (List ℕ)) : List Token → Initial → List Token → Type 0 where
    braced_initial : {ts r1 r2 r3 r4 rest : List Token} {p c : Place} {x : Initial} {xs : List Initial} {b : Bool} →
        Next (Mark mark.BraceOpen) ts p r1 → InitialAt names r1 x r2 → MoreInitials names r2 (x ∷ []) xs r3 → OptComma r3 b r4 → Next (Mark mark.BraceClose) r4 c rest → InitialAt names ts (initial.Braces p xs) rest
    assign_initial : {ts rest : List Token} {e : Expr} → Assign names ts e rest → InitialAt names ts (initial.Assign e) rest

  -- { "," initial }, after those of so_far
  pub data MoreInitials (names : List (List ℕ)) : List Token → List Initial → List Initial → List Token → Type 0 where
    no_initial : {ts : List Token} {so_far : List Initial} → MoreInitials names ts so_far so_far ts
    next_initial : {ts r1 r2 rest : List Token} {k : Place} {x : Initial} {so_far all : List Initial} →
        Next (Mark mark.Comma) ts k r1 → InitialAt names r1 x r2 → MoreInitials names r2 (so_far ++ x ∷ []) all rest → MoreInitials names ts so_far all rest

-- init = declarator { attr } [ "=" initial ]
pub data InitAt (names : List (List ℕ)) : List Token → Init → List Token → Type 0 where
  init_value : {ts r1 r2 r3 rest : List Token} {d : Declarator} {xs : List Attr} {k : Place} {v : Initial} →
      DeclaratorAt names ts d r1 → Attrs names r1 [] xs r2 → Next (Mark mark.Assign) r2 k r3 → InitialAt names r3 v rest → InitAt names ts (record { declarator = d; attrs = xs; value = Some v }) rest
  init_plain : {ts r1 rest : List Token} {d : Declarator} {xs : List Attr} →
      DeclaratorAt names ts d r1 → Attrs names r1 [] xs rest → InitAt names ts (record { declarator = d; attrs = xs; value = None }) rest

-- { "," init }, after those of so_far
pub data MoreInits (names : List (List ℕ)) : List Token → List Init → List Init → List Token → Type 0 where
  no_init : {ts : List Token} {so_far : List Init} → MoreInits names ts so_far so_far ts
  next_init : {ts r1 r2 rest : List Token} {k : Place} {x : Init} {so_far all : List Init} →
      Next (Mark mark.Comma) ts k r1 → InitAt names r1 x r2 → MoreInits names r2 (so_far ++ x ∷ []) all rest → MoreInits names ts so_far all rest

-- decl = specs [ init { "," init } ] ";"
pub data DeclAt (names : List (List ℕ)) : List Token → Decl → List Token → Type 0 where
  bare_decl : {ts r1 rest : List Token} {s : List Spec} {c : Place} →
      SpecsAt names ts s r1 → Next (Mark mark.Semicolon) r1 c rest → DeclAt names ts (record { specs = s; inits = [] }) rest
  inits_decl : {ts r1 r2 r3 rest : List Token} {s : List Spec} {x : Init} {xs : List Init} {c : Place} →
      SpecsAt names ts s r1 → InitAt names r1 x r2 → MoreInits names r2 (x ∷ []) xs r3 → Next (Mark mark.Semicolon) r3 c rest → DeclAt names ts (record { specs = s; inits = xs }) rest

-- opt_expr = [ expr ]
pub data OptExpr (names : List (List ℕ)) : List Token → (Option Expr) → List Token → Type 0 where
  an_expr : {ts rest : List Token} {e : Expr} → ExprAt names ts e rest → OptExpr names ts (Some e) rest
  without_expr : {ts : List Token} → OptExpr names ts None ts

-- first = decl | [ expr ] ";"
pub data FirstAt (names : List (List ℕ)) : List Token → First → List Token → Type 0 where
  first_decl : {ts rest : List Token} {d : Decl} → DeclAt names ts d rest → FirstAt names ts (first.Decl d) rest
  first_expr : {ts r1 rest : List Token} {e : Option Expr} {c : Place} →
      OptExpr names ts e r1 → Next (Mark mark.Semicolon) r1 c rest → FirstAt names ts (first.Expr e) rest

-- label = "case" cond ":" | "default" ":"
pub data LabelAt (names : List (List ℕ)) : List Token → Label → List Token → Type 0 where
  case_label : {ts r1 r2 rest : List Token} {p c : Place} {e : Expr} →
      Next (Word word.Case) ts p r1 → Cond names r1 e r2 → Next (Mark mark.Colon) r2 c rest → LabelAt names ts (label.Case p e) rest
  default_label : {ts r1 rest : List Token} {p c : Place} →
      Next (Word word.Default) ts p r1 → Next (Mark mark.Colon) r1 c rest → LabelAt names ts (label.Default p) rest

mutual
  -- block = "{" { decl | stmt } "}"
  pub data BlockAt (names : List (List ℕ)) : List Token → Block → List Token → Type 0 where
    braces : {ts r1 r2 rest : List Token} {p c : Place} {xs : List Item} →
        Next (Mark mark.BraceOpen) ts p r1 → Items names r1 [] xs r2 → Next (Mark mark.BraceClose) r2 c rest → BlockAt names ts (record { place = p; items = xs }) rest

  -- { decl | stmt }, after those of so_far
  pub data Items (names : List (List ℕ)) : List Token → List Item → List Item → List Token → Type 0 where
    no_item : {ts : List Token} {so_far : List Item} → Items names ts so_far so_far ts
    next_item : {ts r1 rest : List Token} {x : Item} {so_far all : List Item} →
        ItemAt names ts x r1 → Items names r1 (so_far ++ x ∷ []) all rest → Items names ts so_far all rest

  -- item = decl | stmt
  pub data ItemAt (names : List (List ℕ)) : List Token → Item → List Token → Type 0 where
    decl_item : {ts rest : List Token} {d : Decl} → DeclAt names ts d rest → ItemAt names ts (item.Decl d) rest
    stmt_item : {ts rest : List Token} {s : Stmt} → StmtAt names ts s rest → ItemAt names ts (item.Stmt s) rest

  -- stmt = block | ";" | expr ";" | "return" .. | "break" ";" | "continue" ";" | "if" .. | "while" .. | "do" .. | "for" .. | "switch" ..
  pub data StmtAt (names : List (List ℕ)) : List Token → Stmt → List Token → Type 0 where
    block_stmt : {ts rest : List Token} {b : Block} → BlockAt names ts b rest → StmtAt names ts (stmt.Block b) rest
    empty_stmt : {ts rest : List Token} {p : Place} → Next (Mark mark.Semicolon) ts p rest → StmtAt names ts (stmt.Empty p) rest
    return_stmt : {ts r1 r2 rest : List Token} {p c : Place} {e : Option Expr} →
        Next (Word word.Return) ts p r1 → OptExpr names r1 e r2 → Next (Mark mark.Semicolon) r2 c rest → StmtAt names ts (stmt.Return p e) rest
    break_stmt : {ts r1 rest : List Token} {p c : Place} →
        Next (Word word.Break) ts p r1 → Next (Mark mark.Semicolon) r1 c rest → StmtAt names ts (stmt.Break p) rest
    continue_stmt : {ts r1 rest : List Token} {p c : Place} →
        Next (Word word.Continue) ts p r1 → Next (Mark mark.Semicolon) r1 c rest → StmtAt names ts (stmt.Continue p) rest
    if_else : {ts r1 r2 r3 r4 r5 r6 rest : List Token} {p o c l : Place} {e : Expr} {a b : Stmt} →
        Next (Word word.If) ts p r1 → Next (Mark mark.ParenOpen) r1 o r2 → ExprAt names r2 e r3 → Next (Mark mark.ParenClose) r3 c r4 → StmtAt names r4 a r5 → Next (Word word.Else) r5 l r6 → StmtAt names r6 b rest → StmtAt names ts (stmt.If p e a (Some b)) rest
    if_only : {ts r1 r2 r3 r4 rest : List Token} {p o c : Place} {e : Expr} {a : Stmt} →
        Next (Word word.If) ts p r1 → Next (Mark mark.ParenOpen) r1 o r2 → ExprAt names r2 e r3 → Next (Mark mark.ParenClose) r3 c r4 → StmtAt names r4 a rest → next_is (Word word.Else) rest ≡ false → StmtAt names ts (stmt.If p e a None) rest
    while_stmt : {ts r1 r2 r3 r4 rest : List Token} {p o c : Place} {e : Expr} {a : Stmt} →
        Next (Word word.While) ts p r1 → Next (Mark mark.ParenOpen) r1 o r2 → ExprAt names r2 e r3 → Next (Mark mark.ParenClose) r3 c r4 → StmtAt names r4 a rest → StmtAt names ts (stmt.While p e a) rest
    do_stmt : {ts r1 r2 r3 r4 r5 r6 rest : List Token} {p w o c c2 : Place} {a : Stmt} {e : Expr} →
        Next (Word word.Do) ts p r1 → StmtAt names r1 a r2 → Next (Word word.While) r2 w r3 → Next (Mark mark.ParenOpen) r3 o r4 → ExprAt names r4 e r5 → Next (Mark mark.ParenClose) r5 c r6 → Next (Mark mark.Semicolon) r6 c2 rest → StmtAt names ts (stmt.DoWhile p a e) rest
    for_stmt : {ts r1 r2 r3 r4 r5 r6 r7 rest : List Token} {p o c c2 : Place} {f : First} {t x : Option Expr} {a : Stmt} →
        Next (Word word.For) ts p r1 → Next (Mark mark.ParenOpen) r1 o r2 → FirstAt names r2 f r3 → OptExpr names r3 t r4 → Next (Mark mark.Semicolon) r4 c r5 → OptExpr names r5 x r6 → Next (Mark mark.ParenClose) r6 c2 r7 → StmtAt names r7 a rest → StmtAt names ts (stmt.For p (record { first = f; test = t; step = x }) a) rest
    switch_stmt : {ts r1 r2 r3 r4 r5 r6 rest : List Token} {p o c o2 c2 : Place} {e : Expr} {xs : List Part} →
        Next (Word word.Switch) ts p r1 → Next (Mark mark.ParenOpen) r1 o r2 → ExprAt names r2 e r3 → Next (Mark mark.ParenClose) r3 c r4 → Next (Mark mark.BraceOpen) r4 o2 r5 → Parts names r5 [] xs r6 → Next (Mark mark.BraceClose) r6 c2 rest → StmtAt names ts (stmt.Switch p e xs) rest
    expr_stmt : {ts r1 rest : List Token} {e : Expr} {c : Place} →
        ExprAt names ts e r1 → Next (Mark mark.Semicolon) r1 c rest → StmtAt names ts (stmt.Expr e) rest

  -- { label | decl | stmt }, after those of so_far
  pub data Parts (names : List (List ℕ)) : List Token → List Part → List Part → List Token → Type 0 where
    no_part : {ts : List Token} {so_far : List Part} → Parts names ts so_far so_far ts
    next_part : {ts r1 rest : List Token} {x : Part} {so_far all : List Part} →
        PartAt names ts x r1 → Parts names r1 (so_far ++ x ∷ []) all rest → Parts names ts so_far all rest

  -- part = label | decl | stmt
  pub data PartAt (names : List (List ℕ)) : List Token → Part → List Token → Type 0 where
    label_part : {ts rest : List Token} {l : Label} → LabelAt names ts l rest → PartAt names ts (part.Label l) rest
    decl_part : {ts rest : List Token} {d : Decl} → DeclAt names ts d rest → PartAt names ts (part.Decl d) rest
    stmt_part : {ts rest : List Token} {s : Stmt} → StmtAt names ts s rest → PartAt names ts (part.Stmt s) rest

-- function = specs declarator { attr } block
pub data FunctionAt (names : List (List ℕ)) : List Token → Function → List Token → Type 0 where
  a_function : {ts r1 r2 r3 rest : List Token} {s : List Spec} {d : Declarator} {xs : List Attr} {b : Block} →
      SpecsAt names ts s r1 → DeclaratorAt names r1 d r2 → Attrs names r2 [] xs r3 → BlockAt names r3 b rest →
      FunctionAt names ts (record { specs = s; declarator = d; attrs = xs; body = b }) rest

-- ---- typedef names

abbrev pub is_typedef_word : SpecWord → Bool
is_typedef_word specword.Typedef = true
is_typedef_word _ = false

abbrev pub is_typedef : Spec → Bool
is_typedef s = elim (out-Spec s) [ layer.Word p w ↦ is_typedef_word w | layer.TypeName n ↦ false | layer.Struct s ↦ false | layer.Enum e ↦ false | layer.Attr a ↦ false ]

-- the names that become typedef names at the end of a declaration of file scope
abbrev pub declared : Decl → List (List ℕ)
declared d = if list_any is_typedef d.specs then map (λ i. i.declarator.name.text) d.inits else []

-- the typedef names of a header: "int8_t", "uint8_t", "int16_t", "uint16_t", "int32_t", "uint32_t", "intptr_t", "uintptr_t"; "size_t"
abbrev pub header_names : Header → List (List ℕ)
header_names header.StdInt = codes "int8_t" ∷ codes "uint8_t" ∷ codes "int16_t" ∷ codes "uint16_t" ∷ codes "int32_t" ∷ codes "uint32_t" ∷ codes "intptr_t" ∷ codes "uintptr_t" ∷ []
header_names header.ArmCmse = codes "size_t" ∷ []

-- unit = { INCLUDE | decl | function }, after the parts so_far. A typedef of file scope or an include declares its names from
-- its end on.
pub data UnitAt : List (List ℕ) → List Token → List External → List External → Type 0 where
  unit_end : {names : List (List ℕ)} {so_far : List External} → UnitAt names [] so_far so_far
  unit_include : {names : List (List ℕ)} {ts rest : List Token} {h : Place × Header} {so_far all : List External} →
      Takes include_of ts h rest → UnitAt (with_names names (header_names h.1)) rest (so_far ++ external.Include h.0 h.1 ∷ []) all → UnitAt names ts so_far all
  unit_decl : {names : List (List ℕ)} {ts rest : List Token} {d : Decl} {so_far all : List External} →
      DeclAt names ts d rest → UnitAt (with_names names (declared d)) rest (so_far ++ external.Decl d ∷ []) all → UnitAt names ts so_far all
  unit_function : {names : List (List ℕ)} {ts rest : List Token} {f : Function} {so_far all : List External} →
      FunctionAt names ts f rest → UnitAt names rest (so_far ++ external.Function f ∷ []) all → UnitAt names ts so_far all

-- the tokens derive the unit with these parts
abbrev pub Derives : List Token → List External → Type 0
Derives ts all = UnitAt [] ts [] all
