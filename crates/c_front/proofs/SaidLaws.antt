-- Sources that are read one after another.
use Rattle.std.proofs.Common.{◌≡◌, ℕ, ◌+◌, ◌<◌, get_or, ◌≤◌, length, List, [], ◌∷◌, ◌++◌, drop, append_assoc, append-nil, ap, subst, sym, ◌∙◌, Ok, Err}
use Rattle.std.proofs.lemmas.List.{drop_all, drop_more}
use Rattle.cm_base.specs.declared.place.Place.{Place}
use Rattle.cm_base.specs.declared.place.Refusal.{Refusal}
use Rattle.cm_base.specs.declared.place.Refusal.TheVariants as refusal
use Rattle.c_tree.specs.Conditions.{TUnit}
use Rattle.c_rows.specs.declared.fault.TypeFault.{TypeFault}
use Rattle.c_rows.specs.declared.fault.TypeFault.TheVariants.{At, NoMemory}
use Rattle.c_rows.specs.Answers.{fault}
use Rattle.c_front.specs.declared.sources.BuildFault.{BuildFault}
use Rattle.c_front.specs.declared.sources.BuildFault.TheVariants as build
use Rattle.c_front.specs.Answers.{Refuses, Told, UnitsTold}
use Rattle.c_front.specs.declared.sources.Source.{Source}
use Rattle.c_front.specs.Front.{AllSay, no_source, next_source, Faults, here, later, Says}

-- The sources before number i have these typed trees: what those from there on say, all say.
pub record Reads (sources : List Source) (i : ℕ) (units : List TUnit) : Type 0 where
  pub all : (us : List TUnit) → AllSay i (drop i sources) us → AllSay 0 sources (units ++ us)
  pub faults : (r : Refusal) → Faults i (drop i sources) r → Faults 0 sources r

pub reads_first : (sources : List Source) → Reads sources 0 []
reads_first sources = record { all = λ us a. a; faults = λ r a. a }

pub reads_next : (sources : List Source) (i : ℕ) (units : List TUnit) (s : Source) (u : TUnit)
    → drop i sources ≡ s ∷ drop (i + 1) sources → Says i s.bytes (Ok u) → Reads sources i units → Reads sources (i + 1) (units ++ u ∷ [])
reads_next sources i units s u on said so = record {
  all = λ us a. subst (AllSay 0 sources) (sym (append_assoc units (u ∷ []) us)) (so.all (u ∷ us) (subst (λ ss. AllSay i ss (u ∷ us)) (sym on) (next_source said a)));
  faults = λ r a. so.faults r (subst (λ ss. Faults i ss r) (sym on) (later said a));
}

pub reads_fault : (sources : List Source) (i : ℕ) (units : List TUnit) (s : Source) (code : ℕ) (place : Place)
    → drop i sources ≡ s ∷ drop (i + 1) sources → Says i s.bytes (fault code place) → Reads sources i units → Faults 0 sources (refusal.At code s.name place.line place.col)
reads_fault sources i units s code place on said so = so.faults _ (subst (λ ss. Faults i ss (refusal.At code s.name place.line place.col)) (sym on) (here said))

pub reads_all : (sources : List Source) (i : ℕ) (units : List TUnit) → length sources ≤ i → Reads sources i units → AllSay 0 sources units
reads_all sources i units past so = subst (AllSay 0 sources) (append-nil units) (so.all [] (subst (λ ss. AllSay i ss []) (sym (drop_all i sources past)) no_source))

at_index : (sources : List Source) (i : ℕ) (s : Source) → i < length sources → s ≡ get_or sources i s → drop i sources ≡ s ∷ drop (i + 1) sources
at_index sources i s lt is = drop_more sources i s lt ∙ ap (λ (x : Source). x ∷ drop (i + 1) sources) (sym is)

-- the source at hand, of these bytes, has a typed tree
pub told_unit : (sources : List Source) (i : ℕ) (units new : List TUnit) (s : Source) (u : TUnit) (bytes : List ℕ)
    → i < length sources → s ≡ get_or sources i s → bytes ≡ s.bytes → Says i bytes (Ok u) → new ≡ units ++ u ∷ [] → Reads sources i units → Reads sources (i + 1) new
told_unit sources i units new s u bytes lt is of said pushed so =
    subst (Reads sources (i + 1)) (sym pushed) (reads_next sources i units s u (at_index sources i s lt is) (subst (λ (bs : List ℕ). Says i bs (Ok u)) of said) so)

-- a fault of the source at hand, of these bytes, is told
pub told_refusal : (sources : List Source) (i : ℕ) (units : List TUnit) (s : Source) (e : TypeFault) (b : BuildFault) (bytes : List ℕ)
    → i < length sources → s ≡ get_or sources i s → bytes ≡ s.bytes → Told (Says i bytes) (Err e) → Refuses s e b → Reads sources i units → UnitsTold sources (Err b)
told_refusal sources i units s (At code place) (build.Refused r) bytes lt at of said is so =
    subst (Faults 0 sources) (sym is) (reads_fault sources i units s code place (at_index sources i s lt at) (subst (λ (bs : List ℕ). Says i bs (fault code place)) of said) so)
told_refusal sources i units s (At code place) build.NoMemory bytes lt at of said is so = tt
told_refusal sources i units s NoMemory (build.Refused r) bytes lt at of said is so = absurd is
told_refusal sources i units s NoMemory build.NoMemory bytes lt at of said is so = tt
