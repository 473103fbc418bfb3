-- Answers of the steps of the front end.
use Rattle.std.proofs.Common.{◌≡◌, refl, ap, ℕ, suc, ◌≤◌, ◌+◌, ◌<◌, ◌&&◌, Bool, true, false, nat_eq, List, [], ◌∷◌, length, All, Result, Ok, Err, subst, sym}
use Rattle.std.proofs.lemmas.Bool.{eqb-true}
use Rattle.std.proofs.lemmas.List.Elements.{All-cons, All-nil}
use Rattle.std.specs.List.{list_all}
use Rattle.cm_base.specs.declared.place.Place.{Place}
use Rattle.cm_base.specs.declared.place.Refusal.TheVariants as refusal
use Rattle.c_lex.specs.declared.token.Token.{Token}
use Rattle.c_lex.specs.Tokens.{FirstFault, HasTokens, too_long}
use Rattle.c_ast.specs.declared.stmt.Unit.{Unit as Tree}
use Rattle.c_parse.specs.declared.parser.SyntaxFault.TheVariants as syntax
use Rattle.c_parse.specs.Answer as parser
use Rattle.c_parse.specs.Answer.{read_whole}
use Rattle.c_tree.specs.Conditions.{Program, TUnit}
use Rattle.c_rows.specs.declared.fault.TypeFault.TheVariants.{At, NoMemory}
use Rattle.c_rows.specs.Answers.{Checked, Gives, fault}
use Rattle.c_define.specs.Units.{unit_typed}
use Rattle.join_laws.specs.Joined.{Numbered}
use Rattle.c_front.specs.declared.sources.BuildFault.{BuildFault}
use Rattle.c_front.specs.declared.sources.BuildFault.TheVariants as build
use Rattle.c_front.specs.declared.sources.Source.{Source}
use Rattle.c_front.specs.Front.{AllSay, no_source, next_source, Says, no_tokens, some_tokens, TokensSay, no_unit, a_unit, of_source, of_names, of_counts, a_program}
use Rattle.c_front.specs.Answers.{Answers, JoinTold, Told, UnitsTold}
use Rattle.c_front.specs.Numbers.{all_numbered, unit_numbered}

-- ---- a source

pub typed_tree : (tokens : List Token) (unit : Tree) (r : Checked TUnit) → read_whole tokens ≡ Ok unit.parts → Gives r (unit_typed unit) → Told (TokensSay tokens) r
typed_tree tokens unit (Ok u) read is = a_unit read is
typed_tree tokens unit (Err (At code place)) read is = a_unit read is
typed_tree tokens unit (Err NoMemory) read is = tt

pub syntax_fault : (tokens : List Token) (code : ℕ) (place : Place) → parser.Answers tokens (Err (syntax.At code place)) (read_whole tokens) → TokensSay tokens (fault code place)
syntax_fault tokens code place told = no_unit told.1 told.2

pub lexical_fault : (n : ℕ) (text : List ℕ) (code : ℕ) (place : Place) → FirstFault n text code place → Says n text (fault code place)
lexical_fault n text code place first = no_tokens first

pub long_text : (n : ℕ) (text : List ℕ) → 1048576 < length text → Says n text (fault 5 (record { unit = n; line = 1; col = 1 }))
long_text n text lt = no_tokens (too_long lt)

pub from_tokens : (n : ℕ) (text : List ℕ) (tokens : List Token) (r : Checked TUnit) → HasTokens n text tokens → Told (TokensSay tokens) r → Told (Says n text) r
from_tokens n text tokens (Ok u) has told = some_tokens has told
from_tokens n text tokens (Err (At code place)) has told = some_tokens has told
from_tokens n text tokens (Err NoMemory) has told = tt

-- ---- the join

and_first : (a b : Bool) → (a && b) ≡ true → a ≡ true
and_first true b e = cc
and_first false b e = absurd cc

and_second : (a b : Bool) → (a && b) ≡ true → b ≡ true
and_second true b e = cc
and_second false b e = absurd cc

module _ {A : Type 0} (unit : A → ℕ) (n : ℕ) where
  abbrev all_have : List A → Bool
  all_have xs = list_all (λ x. nat_eq (unit x) n) xs

  each_has : (xs : List A) → all_have xs ≡ true → All (λ x. unit x ≡ n) xs
  each_has [] e = All-nil (λ x. unit x ≡ n)
  each_has (x ∷ xs) e =
      All-cons (λ x. unit x ≡ n) x xs (eqb-true (unit x) n (and_first (nat_eq (unit x) n) (all_have xs) e))
      (each_has xs (and_second (nat_eq (unit x) n) (all_have xs) e))

pub numbered : (n : ℕ) (us : List TUnit) → all_numbered n us ≡ true → Numbered n us
numbered n [] e = tt
numbered n (u ∷ us) e =
    let own = and_first (unit_numbered n u) (all_numbered (n + 1) us) e in (
      each_has (λ f. f.unit) n u.functions (and_first (list_all (λ f. nat_eq f.unit n) u.functions) (list_all (λ g. nat_eq g.unit n) u.globals) own),
      each_has (λ g. g.unit) n u.globals (and_second (list_all (λ f. nat_eq f.unit n) u.functions) (list_all (λ g. nat_eq g.unit n) u.globals) own),
      numbered (n + 1) us (and_second (unit_numbered n u) (all_numbered (n + 1) us) e),
    )

as_many : (n : ℕ) (ss : List Source) (us : List TUnit) → AllSay n ss us → length us ≡ length ss
as_many n [] _ no_source = refl
as_many n (s ∷ ss) _ (next_source {us = us} a more) = ap suc (as_many (n + 1) ss us more)

pub few_units : (sources : List Source) (us : List TUnit) → length sources ≤ 32 → AllSay 0 sources us → length us ≤ 32
few_units sources us few all = subst (λ (k : ℕ). k ≤ 32) (sym (as_many 0 sources us all)) few

pub finished : (sources : List Source) (us : List TUnit) (r : Result Program BuildFault) → AllSay 0 sources us → JoinTold us r → Answers sources r
finished sources us (Ok p) all is = a_program all is
finished sources us (Err (build.Refused (refusal.Named code name))) all is = of_names all is
finished sources us (Err (build.Refused (refusal.Count code found))) all is = of_counts all is
finished sources us (Err (build.Refused (refusal.At code file line col))) all is = absurd is
finished sources us (Err (build.Refused (refusal.OldAt name address))) all is = absurd is
finished sources us (Err (build.Refused (refusal.Library offset))) all is = absurd is
finished sources us (Err build.NoMemory) all is = tt

pub unfinished : (sources : List Source) (e : BuildFault) → UnitsTold sources (Err e) → Answers sources (Err e)
unfinished sources (build.Refused r) told = of_source told
unfinished sources build.NoMemory told = tt
