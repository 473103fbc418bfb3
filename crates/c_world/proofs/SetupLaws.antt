-- What is worked out once is what a run asks for.
use Rattle.std.proofs.Common.{◌≡◌, ℕ, zero, suc, ◌+◌, Bool, true, false, cond, eqb, List, [], ◌∷◌, map, refl, ap, sym, ◌∙◌, arith, Option, Some, None, option_map, slice_get, slice_index, unwrap_or}
use Rattle.std.specs.Prelude.{option_and_then}
use Rattle.std.specs.List.{filter}
use Rattle.std.proofs.lemmas.Option.{slice_get-map, unwrap_or-slice_get}
use Rattle.ns_types.specs.declared.event.Veneer.{Veneer}
use Rattle.ns_types.specs.Veneers.{enters_of, name_at, place_of}
use Rattle.c_tree.specs.declared.program.TFunction.{TFunction}
use Rattle.c_world.specs.declared.plan.Plan.{Plan}
use Rattle.c_world.specs.Plans.{plan_of}
use Rattle.c_world.specs.Here.{here}
use Rattle.c_world.specs.Setups.{Setup, door_of, enters, entry_at, entry_numbers}
use Rattle.c_world.specs.declared.plan.At.{At}
use Rattle.c_world.specs.declared.setup.Door.{Door}
use Rattle.c_mean.specs.Homes.{homes}
use Rattle.ns_types.specs.Boundary.{goes_of, goes_or, goes_outside}
use Rattle.ns_types.specs.Platform.{aligned}
use Rattle.ns_types.specs.declared.goes.Goes.{Goes}

-- ---- plans

pub plan_at : (fs : List TFunction) (n : ℕ) → slice_get (map plan_of fs) n ≡ option_map plan_of (slice_get fs n)
plan_at fs n = slice_get-map plan_of fs n

-- ---- entries

one_entry : (all : List TFunction) (f : TFunction) (n : ℕ) (b : Bool) (ns : List ℕ) (fs : List TFunction)
    → slice_get all n ≡ Some f → ((e : ℕ) → option_and_then (slice_get all) (slice_get ns e) ≡ slice_get fs e)
    → (e : ℕ) → option_and_then (slice_get all) (slice_get (cond b (n ∷ ns) ns) e) ≡ slice_get (cond b (f ∷ fs) fs) e
one_entry all f n true ns fs here rest zero = here
one_entry all f n true ns fs here rest (suc e) = rest e
one_entry all f n false ns fs here rest e = rest e

entries_from : (all fs : List TFunction) (n : ℕ) → ((k : ℕ) → slice_get all (n + k) ≡ slice_get fs k)
    → (e : ℕ) → option_and_then (slice_get all) (slice_get (entry_numbers n fs) e) ≡ slice_get (filter (λ f. f.entry) fs) e
entries_from all [] n same e = refl
entries_from all (f ∷ fs) n same e =
    let zeroth : n ≡ n + 0 = omega arith in
    one_entry all f n f.entry (entry_numbers (n + 1) fs) (filter (λ f. f.entry) fs) (ap (slice_get all) zeroth ∙ same 0)
    (entries_from all fs (n + 1) (λ k. let next : (n + 1) + k ≡ n + suc k = omega arith in ap (slice_get all) next ∙ same (suc k))) e

same_at_zero : (all : List TFunction) (k : ℕ) → slice_get all (0 + k) ≡ slice_get all k
same_at_zero all k = let e : 0 + k ≡ k = omega arith in ap (slice_get all) e

pub entries_are : (all : List TFunction) (e : ℕ) → option_and_then (slice_get all) (slice_get (entry_numbers 0 all) e) ≡ slice_get (filter (λ f. f.entry) all) e
entries_are all e = entries_from all all 0 (same_at_zero all) e

-- ---- doors

one_door : (b : Bool) (g : List ℕ → Option ℕ) (x : List ℕ) (y : Option ℕ) (o : Option (List ℕ)) → y ≡ option_and_then g o → cond b (g x) y ≡ option_and_then g (cond b (Some x) o)
one_door true g x y o is = refl
one_door false g x y o is = is

pub doors_are : (entries : List (List ℕ)) (vs : List Veneer) (a : ℕ) → entry_at (map (door_of entries) vs) a ≡ enters_of vs entries a
doors_are entries [] a = refl
doors_are entries (v ∷ vs) a = one_door (eqb a v.address) (place_of entries) v.name _ (name_at vs a) (doors_are entries vs a)

-- a branch to a place where no entry stands
pub goes_elsewhere : (s : Setup) (doors ds : List Door) (a t : ℕ) (g : Goes) → doors ≡ map (door_of s.program.entries) s.veneers → ds ≡ doors → a ≡ aligned 2 t → None ≡ entry_at ds a
    → g ≡ goes_outside a → g ≡ goes_of (enters s) t
unfolding goes_of
goes_elsewhere s doors ds a t g ready same even none is =
    let nowhere : enters s a ≡ None = sym (doors_are s.program.entries s.veneers a) ∙ ap (λ (d : List Door). entry_at d a) (sym (same ∙ ready)) ∙ sym none in
    is ∙ ap (λ (o : Option ℕ). goes_or o a) (sym nowhere) ∙ ap (λ (k : ℕ). goes_or (enters s k) k) even

-- a global that there isn't
pub no_home : (s : Setup) (plan : Plan) (at : At) (placed : List ℕ) (n : ℕ) → placed ≡ homes s.program.globals → None ≡ slice_get placed n → 0 ≡ slice_index (here s plan at).globals n
unfolding here
no_home s plan at placed n ready none =
    ap (λ (o : Option ℕ). unwrap_or o 0) none ∙ unwrap_or-slice_get placed n 0 ∙ ap (λ (list : List ℕ). slice_index list n) ready
