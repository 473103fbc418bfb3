-- What sources say: a program, or the first fault.
use Rattle.std.specs.Prelude.{◌≡◌, ℕ, ◌+◌, List, [], ◌∷◌, Result, Ok, Err}
use Rattle.cm_base.specs.declared.place.Place.{Place}
use Rattle.cm_base.specs.declared.place.Refusal.{Refusal}
use Rattle.cm_base.specs.declared.place.Refusal.TheVariants as refusal
use Rattle.c_lex.specs.declared.token.Token.{Token}
use Rattle.c_lex.specs.Tokens.{FirstFault, HasTokens}
use Rattle.c_ast.specs.declared.stmt.Unit.{Unit as Tree}
use Rattle.c_grammar.specs.declared.tokens.Fault.{Fault}
use Rattle.c_parse.specs.Answer.{read_whole, told}
use Rattle.c_tree.specs.Conditions.{Program, TUnit}
use Rattle.c_rows.specs.Answers.{Checked, fault}
use Rattle.c_define.specs.Units.{unit_typed}
use Rattle.join_laws.specs.declared.fault.JoinFault.TheVariants as fails
use Rattle.join_laws.specs.Joined.{joined}
use Rattle.c_front.specs.declared.sources.Source.{Source}

-- the typed tree of a source's tokens, or their first fault
pub data TokensSay (tokens : List Token) : Checked TUnit → Type 0 where
  no_unit : {f : Fault} {code : ℕ} {place : Place} → read_whole tokens ≡ Err f → told tokens f ≡ (code, place) → TokensSay tokens (fault code place)
  a_unit : {tree : Tree} {what : Checked TUnit} → read_whole tokens ≡ Ok tree.parts → unit_typed tree ≡ what → TokensSay tokens what

-- the typed tree of the source of this number, or its first fault
pub data Says (n : ℕ) (text : List ℕ) : Checked TUnit → Type 0 where
  no_tokens : {code : ℕ} {place : Place} → FirstFault n text code place → Says n text (fault code place)
  some_tokens : {tokens : List Token} {what : Checked TUnit} → HasTokens n text tokens → TokensSay tokens what → Says n text what

-- sources from this number on, each with its typed tree
pub data AllSay : ℕ → List Source → List TUnit → Type 0 where
  no_source : {n : ℕ} → AllSay n [] []
  next_source : {n : ℕ} {s : Source} {ss : List Source} {u : TUnit} {us : List TUnit} → Says n s.bytes (Ok u) → AllSay (n + 1) ss us → AllSay n (s ∷ ss) (u ∷ us)

-- the fault of the first of them that has one, with its file
pub data Faults : ℕ → List Source → Refusal → Type 0 where
  here : {n code : ℕ} {s : Source} {ss : List Source} {place : Place} → Says n s.bytes (fault code place) → Faults n (s ∷ ss) (refusal.At code s.name place.line place.col)
  later : {n : ℕ} {s : Source} {ss : List Source} {u : TUnit} {r : Refusal} → Says n s.bytes (Ok u) → Faults (n + 1) ss r → Faults n (s ∷ ss) r

-- the program of these sources, or the first fault: those of each source come before those of the join
pub data Front (sources : List Source) : Result Program Refusal → Type 0 where
  of_source : {r : Refusal} → Faults 0 sources r → Front sources (Err r)
  of_names : {us : List TUnit} {code : ℕ} {name : List ℕ} → AllSay 0 sources us → joined us ≡ Err (fails.Named code name) → Front sources (Err (refusal.Named code name))
  of_counts : {us : List TUnit} {code found : ℕ} → AllSay 0 sources us → joined us ≡ Err (fails.Count code found) → Front sources (Err (refusal.Count code found))
  a_program : {us : List TUnit} {p : Program} → AllSay 0 sources us → joined us ≡ Ok p → Front sources (Ok p)
