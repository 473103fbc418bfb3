-- One check or one step after another keeps what each of them keeps.
use Rattle.std.proofs.Common.{◌≡◌, ℕ, Bool, true, false, cond, length, map, le_trans, le_refl, refl, subst, sym}
use Rattle.std.specs.Prelude.{Ok, Err}
use Rattle.cm_base.specs.declared.place.Place.{Place}
use Rattle.c_tree.specs.Numbers.{Names, names_of_unit}
use Rattle.c_scope.specs.declared.tables.Tables.{Tables}
use Rattle.c_rows.specs.Answers.{Checked, ◌>>=◌, fault}
use Rattle.c_scope.specs.Steps.{◌>>>◌, keeping, refuse}
use Rattle.later_laws.proofs.LaterLaws.{kept_later, kept_same, kept_trans, later_same, later_trans}
use Rattle.range_laws.specs.Ranges.{Follows, Grows, IsWithin, NamesWithin, extern_of, names, range}
use Rattle.range_laws.specs.Few.{IsFit}
use Rattle.range_laws.specs.Steps.{Answers, Came, Goes, Passed, Passes}

pub names_same : (a : Names) → NamesWithin a a
names_same a = record { globals = λ n h. h; functions = λ n many h. h }

pub names_trans : (a b c : Names) → NamesWithin a b → NamesWithin b c → NamesWithin a c
names_trans a b c f g = record { globals = λ n h. g.globals n (f.globals n h); functions = λ n many h. g.functions n many (f.functions n many h) }

pub grows_same : (s : Tables) → Grows s s
grows_same s = record { locals = le_refl (length s.locals); kept = kept_same s }

pub grows_trans : (s t u : Tables) → Grows s t → Grows t u → Grows s u
grows_trans s t u f g = record { locals = le_trans f.locals g.locals; kept = kept_trans s t u f.kept g.kept }

-- the externs are the same
pub names_as : (s t : Tables) → t.externs ≡ s.externs → NamesWithin (names s) (names t)
names_as s t e = subst (λ xs. NamesWithin (names s) (names_of_unit (map extern_of xs))) (sym e) (names_same (names s))

pub follows_same : (s : Tables) → Follows s s
follows_same s = record { names = names_same (names s); later = later_same s }

pub follows_trans : (s t u : Tables) → Follows s t → Follows t u → Follows s u
follows_trans s t u f g = record { names = names_trans (names s) (names t) (names u) f.names g.names; later = later_trans s t u f.later g.later }

pub grows_follows : (s t : Tables) → Grows s t → Follows s t
grows_follows s t g = record { names = names_as s t g.kept.externs; later = kept_later s t g.kept }

pub within : (entry : Bool) (s t : Tables) → Grows s t → IsWithin (range entry s) (range entry t)
within entry s t g = record { names = names_as s t g.kept.externs; locals = g.locals; entry = λ h. h }

-- ---- answers

pub told : {A : Type 0} {Q : A → Type 0} (x : A) → Q x → Answers Q (Ok x)
told x q = record { it = q }

pub silent : {A : Type 0} {Q : A → Type 0} {code : ℕ} {place : Place} → Answers Q (fault code place)
silent = record { it = tt }

pub answers_then : {A B : Type 0} {Q : A → Type 0} {R : B → Type 0} (r : Checked A) (f : A → Checked B) → Answers Q r → ((x : A) → Q x → Answers R (f x)) → Answers R (r >>= f)
answers_then (Ok x) f h k = k x h.it
answers_then (Err e) f h k = record { it = tt }

-- where the second rests on what the first answered
pub answers_on : {A B : Type 0} {Q : A → Type 0} {R : B → Type 0} (r : Checked A) (f : A → Checked B) → Answers Q r → ((x : A) → r ≡ Ok x → Q x → Answers R (f x)) → Answers R (r >>= f)
answers_on (Ok x) f h k = k x refl h.it
answers_on (Err e) f h k = record { it = tt }

pub answers_cond : {A : Type 0} {Q : A → Type 0} (b : Bool) (x y : Checked A) → (b ≡ true → Answers Q x) → (b ≡ false → Answers Q y) → Answers Q (cond b x y)
answers_cond true x y f g = f refl
answers_cond false x y f g = g refl

-- unless it is refused
pub answers_unless : {A : Type 0} {Q : A → Type 0} (b : Bool) (code : ℕ) (place : Place) (y : Checked A) → (b ≡ false → Answers Q y) → Answers Q (cond b (fault code place) y)
answers_unless true code place y g = silent
answers_unless false code place y g = g refl

pub answers_more : {A : Type 0} {Q R : A → Type 0} (r : Checked A) → Answers Q r → ((x : A) → Q x → R x) → Answers R r
answers_more (Ok x) h k = record { it = k x h.it }
answers_more (Err e) h k = record { it = tt }

-- ---- steps

pub stays : {A : Type 0} {Q : A → Tables → Type 0} (s : Tables) (x : A) → IsFit s → Q x s → Goes Q s (Ok (x, s))
stays s x fit q = record { it = record { grows = grows_same s; fit = fit; holds = q } }

pub comes : {A : Type 0} {Q : A → Tables → Type 0} (s t : Tables) (x : A) → Grows s t → IsFit t → Q x t → Goes Q s (Ok (x, t))
comes s t x g fit q = record { it = record { grows = g; fit = fit; holds = q } }

pub stops : {A : Type 0} {Q : A → Tables → Type 0} {s : Tables} {code : ℕ} {place : Place} → Goes Q s (fault code place)
stops = record { it = tt }

pub behind : {A : Type 0} {Q : A → Tables → Type 0} (s t : Tables) (r : Checked (A × Tables)) → Grows s t → Goes Q t r → Goes Q s r
behind s t (Ok p) g h = record { it = record { grows = grows_trans s t p.1 g h.it.grows; fit = h.it.fit; holds = h.it.holds } }
behind s t (Err e) g h = record { it = tt }

pub goes_then : {A B : Type 0} {Q : A → Tables → Type 0} {R : B → Tables → Type 0} (s : Tables) (r : Checked (A × Tables)) (f : A → Tables → Checked (B × Tables))
    → Goes Q s r → ((x : A) (t : Tables) → Came Q s x t → Goes R t (f x t)) → Goes R s (r >>> f)
goes_then s (Ok p) f h k = behind s p.1 (f p.0 p.1) h.it.grows (k p.0 p.1 h.it)
goes_then s (Err e) f h k = record { it = tt }

pub then_goes : {A B : Type 0} {Q : A → Type 0} {R : B → Tables → Type 0} (s : Tables) (r : Checked A) (f : A → Checked (B × Tables))
    → Answers Q r → ((x : A) → Q x → Goes R s (f x)) → Goes R s (r >>= f)
then_goes s (Ok x) f h k = k x h.it
then_goes s (Err e) f h k = record { it = tt }

pub keeps : {A : Type 0} {Q : A → Tables → Type 0} (s : Tables) (r : Checked A) → IsFit s → Answers (λ x. Q x s) r → Goes Q s (keeping s r)
keeps s (Ok x) fit h = stays s x fit h.it
keeps s (Err e) fit h = record { it = tt }

pub goes_unless : {A : Type 0} {Q : A → Tables → Type 0} (s : Tables) (b : Bool) (code : ℕ) (place : Place) (y : Checked (A × Tables)) → (b ≡ false → Goes Q s y) → Goes Q s (refuse b code place y)
goes_unless s true code place y g = record { it = tt }
goes_unless s false code place y g = g refl

pub goes_cond : {A : Type 0} {Q : A → Tables → Type 0} (s : Tables) (b : Bool) (x y : Checked (A × Tables)) → Goes Q s x → Goes Q s y → Goes Q s (cond b x y)
goes_cond s true x y f g = f
goes_cond s false x y f g = g

-- what is known besides
pub goes_and : {A : Type 0} {Q R : A → Tables → Type 0} (s : Tables) (r : Checked (A × Tables)) → Goes Q s r → Answers (λ p. R p.0 p.1) r → Goes (λ x t. Q x t × R x t) s r
goes_and s (Ok p) h k = record { it = record { grows = h.it.grows; fit = h.it.fit; holds = (h.it.holds, k.it) } }
goes_and s (Err e) h k = record { it = tt }

-- ---- steps at file scope

pub passes_on : {A : Type 0} {Q : A → Tables → Type 0} (s t : Tables) (x : A) → Follows s t → IsFit t → Q x t → Passes Q s (Ok (x, t))
passes_on s t x f fit q = record { it = record { follows = f; fit = fit; holds = q } }

pub passes_same : {A : Type 0} {Q : A → Tables → Type 0} (s : Tables) (x : A) → IsFit s → Q x s → Passes Q s (Ok (x, s))
passes_same s x fit q = passes_on s s x (follows_same s) fit q

pub passes_not : {A : Type 0} {Q : A → Tables → Type 0} {s : Tables} {code : ℕ} {place : Place} → Passes Q s (fault code place)
passes_not = record { it = tt }

pub passes_behind : {A : Type 0} {Q : A → Tables → Type 0} (s t : Tables) (r : Checked (A × Tables)) → Follows s t → Passes Q t r → Passes Q s r
passes_behind s t (Ok p) f h = record { it = record { follows = follows_trans s t p.1 f h.it.follows; fit = h.it.fit; holds = h.it.holds } }
passes_behind s t (Err e) f h = record { it = tt }

pub passes_then : {A B : Type 0} {Q : A → Tables → Type 0} {R : B → Tables → Type 0} (s : Tables) (r : Checked (A × Tables)) (f : A → Tables → Checked (B × Tables))
    → Passes Q s r → ((x : A) (t : Tables) → Passed Q s x t → Passes R t (f x t)) → Passes R s (r >>> f)
passes_then s (Ok p) f h k = passes_behind s p.1 (f p.0 p.1) h.it.follows (k p.0 p.1 h.it)
passes_then s (Err e) f h k = record { it = tt }

-- a step in a function or before a declarator is one at file scope
pub passes_from : {A : Type 0} {Q : A → Tables → Type 0} (s : Tables) (r : Checked (A × Tables)) → Goes Q s r → Passes Q s r
passes_from s (Ok p) h = record { it = record { follows = grows_follows s p.1 h.it.grows; fit = h.it.fit; holds = h.it.holds } }
passes_from s (Err e) h = record { it = tt }

-- one after such a step, which leaves the externs as they are
pub goes_passes : {A B : Type 0} {Q : A → Tables → Type 0} {R : B → Tables → Type 0} (s : Tables) (r : Checked (A × Tables)) (f : A → Tables → Checked (B × Tables))
    → Goes Q s r → ((x : A) (t : Tables) → Came Q s x t → Passes R t (f x t)) → Passes R s (r >>> f)
goes_passes s (Ok p) f h k = passes_behind s p.1 (f p.0 p.1) (grows_follows s p.1 h.it.grows) (k p.0 p.1 h.it)
goes_passes s (Err e) f h k = record { it = tt }

pub then_passes : {A B : Type 0} {Q : A → Type 0} {R : B → Tables → Type 0} (s : Tables) (r : Checked A) (f : A → Checked (B × Tables))
    → Answers Q r → ((x : A) → Q x → Passes R s (f x)) → Passes R s (r >>= f)
then_passes s (Ok x) f h k = k x h.it
then_passes s (Err e) f h k = record { it = tt }

pub passes_unless : {A : Type 0} {Q : A → Tables → Type 0} (s : Tables) (b : Bool) (code : ℕ) (place : Place) (y : Checked (A × Tables)) → (b ≡ false → Passes Q s y) → Passes Q s (refuse b code place y)
passes_unless s true code place y g = record { it = tt }
passes_unless s false code place y g = g refl

pub passes_cond : {A : Type 0} {Q : A → Tables → Type 0} (s : Tables) (b : Bool) (x y : Checked (A × Tables)) → Passes Q s x → Passes Q s y → Passes Q s (cond b x y)
passes_cond s true x y f g = f
passes_cond s false x y f g = g

pub passes_and : {A : Type 0} {Q R : A → Tables → Type 0} (s : Tables) (r : Checked (A × Tables)) → Passes Q s r → Answers (λ p. R p.0 p.1) r → Passes (λ x t. Q x t × R x t) s r
passes_and s (Ok p) h k = record { it = record { follows = h.it.follows; fit = h.it.fit; holds = (h.it.holds, k.it) } }
passes_and s (Err e) h k = record { it = tt }
