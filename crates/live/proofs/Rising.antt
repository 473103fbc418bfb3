-- The variables at a point ascend, so places that differ don't clash.
use Rattle.std.proofs.Common.{◌≡◌, ℕ, suc, ◌<◌, ◌≤◌, true, false, cond, List, [], ◌∷◌, ◌++◌, length, map, Some, None, refl, sym, ap, subst, ◌∙◌, arith}
use Rattle.mid_ir.specs.declared.stmt.MidStmt.{MidStmt, roll-MidStmt}
use Rattle.mid_ir.specs.declared.stmt.MidStmt.TheOpen.{MidStmt-F, Seq, Const, Set as SetVar, Home, Load, Store, Call, NsCall, Range, Caller, If, Loop, Block, Break, Return}
use Rattle.mid_ir.specs.declared.stmt.MidStmt.TheFolds.{map-MidStmt, fold-roll-MidStmt, ind-MidStmt}
use Rattle.mid_ir.specs.declared.program.MidFn.{MidFn}
use Rattle.mid_ir.specs.Uses.{sets}
use Rattle.live.specs.declared.lives.Point.{Point}
use Rattle.live.specs.declared.places.Where.{Where}
use Rattle.live.specs.Sets.{Set, members_from, nothing, with_first, with_set}
use Rattle.live.specs.Live.{Walk, at_end, before_all, inner, inner_step, live_before, lives, points_all, points_of, walk, walk_step}
use Rattle.live.specs.Clash.{clash, first_sharing, least_from, lesser, pair_in, pair_or}
use Rattle.live.specs.Apart.{Apart}

-- numbers that ascend from n on
abbrev pub Rising : ℕ → List ℕ → Type 0
Rising n [] = Unit {0}
Rising n (v ∷ vs) = (n ≤ v) × Rising (suc v) vs

lower : (m n : ℕ) (vs : List ℕ) → m ≤ n → Rising n vs → Rising m vs
lower m n [] le r = tt
lower m n (v ∷ vs) le r = (let h = r.0 in omega arith, r.1)

members_rise : (n : ℕ) (xs : Set) → Rising n (members_from n xs)
members_rise n [] = tt
members_rise n (true ∷ xs) = (omega arith, members_rise (suc n) xs)
members_rise n (false ∷ xs) = lower n (suc n) (members_from (suc n) xs) (omega arith) (members_rise (suc n) xs)

-- ---- places that differ

first_none : (places : List Where) → Apart places → (v m : ℕ) (ws : List ℕ) → v < m → Rising m ws → first_sharing places v ws ≡ None
first_none places a v m [] lt r = refl
first_none places a v m (w ∷ ws) lt r =
    let h = r.0 in
    ap (λ b. cond b (Some w) (first_sharing places v ws)) (a v w (omega arith)) ∙ first_none places a v (suc w) ws (omega arith) r.1

pair_none : (places : List Where) → Apart places → (m : ℕ) (vs : List ℕ) → Rising m vs → pair_in places vs ≡ None
pair_none places a m [] r = refl
pair_none places a m (v ∷ vs) r =
    ap (λ o. pair_or v o (pair_in places vs)) (first_none places a v (suc v) vs (omega arith) r.1) ∙ pair_none places a (suc v) vs r.1

abbrev pub AllRise : List Point → Type 0
AllRise [] = Unit {0}
AllRise (p ∷ ps) = (Rising 0 p.before × Rising 0 p.after) × AllRise ps

least_none : (places : List Where) → Apart places → (ps : List Point) → AllRise ps → least_from places None ps ≡ None
least_none places a [] all = refl
least_none places a (p ∷ ps) all =
    ap (λ o. least_from places (lesser (lesser None o) (pair_in places p.after)) ps) (pair_none places a 0 p.before all.0.0)
    ∙ ap (λ o. least_from places (lesser None o) ps) (pair_none places a 0 p.after all.0.1)
    ∙ least_none places a ps all.1

joined : (ps qs : List Point) → AllRise ps → AllRise qs → AllRise (ps ++ qs)
joined [] qs a b = b
joined (p ∷ ps) qs a b = (a.0, joined ps qs a.1 b)

-- ---- the points of a statement

abbrev Good : MidStmt → Type 0
Good s = (after : Set) (around : List Set) → AllRise (inner s after around)

abbrev AStmt : Type 0
AStmt = (s : MidStmt) × Good s

abbrev stmts : List AStmt → List MidStmt
stmts xs = map (λ x. x.0) xs

into : (x : MidStmt-F MidStmt) → ((after : Set) (around : List Set) → AllRise (inner_step (map-MidStmt MidStmt Walk walk x) after around)) → Good (roll-MidStmt x)
into x h after around = subst (λ w. AllRise (w.inner after around)) (sym (fold-roll-MidStmt Walk walk_step x)) (h after around)

one : (x : AStmt) (after : Set) (around : List Set) → AllRise (points_of (walk x.0) after around)
one x after around = ((members_rise 0 (live_before x.0 after around), members_rise 0 (with_set after (walk x.0).sets)), x.1 after around)

all : (xs : List AStmt) (after : Set) (around : List Set) → AllRise (points_all (map walk (stmts xs)) after around)
all [] after around = tt
all (x ∷ xs) after around =
    let behind = before_all (map walk (stmts xs)) after around in
    joined (points_of (walk x.0) behind around) (points_all (map walk (stmts xs)) after around) (one x behind around) (all xs after around)

law : (y : MidStmt-F AStmt) → Good (roll-MidStmt (map-MidStmt AStmt MidStmt (λ x. x.0) y))
law (Seq xs) = into (Seq (stmts xs)) (all xs)
law (Const v n) = into (Const v n) (λ after around. tt)
law (SetVar v o a b) = into (SetVar v o a b) (λ after around. tt)
law (Home v offset) = into (Home v offset) (λ after around. tt)
law (Load v a size signed) = into (Load v a size signed) (λ after around. tt)
law (Store a size v) = into (Store a size v) (λ after around. tt)
law (Call v f args) = into (Call v f args) (λ after around. tt)
law (NsCall v target args kind) = into (NsCall v target args kind) (λ after around. tt)
law (Range v p n flags) = into (Range v p n flags) (λ after around. tt)
law (Caller v) = into (Caller v) (λ after around. tt)
law (If v a b) = into (If v a.0 b.0) (λ after around. joined (points_of (walk a.0) after around) (points_of (walk b.0) after around) (one a after around) (one b after around))
law (Loop a) = into (Loop a.0) (λ after around. one a (live_before a.0 (nothing after) (around ++ after ∷ [])) (around ++ after ∷ []))
law (Block a) = into (Block a.0) (λ after around. one a after (around ++ after ∷ []))
law (Break k) = into (Break k) (λ after around. tt)
law (Return v) = into (Return v) (λ after around. tt)

inner_rise : (s : MidStmt) → Good s
inner_rise = ind-MidStmt Good (λ x y is. subst (λ z. Good (roll-MidStmt z)) is (law y))

pub lives_rise : (f : MidFn) → AllRise (lives f)
lives_rise f = ((members_rise 0 (with_first (length f.narrow) (live_before f.body (at_end f) [])), members_rise 0 (with_set (at_end f) (sets f.body))), inner_rise f.body (at_end f) [])

pub no_clash : (f : MidFn) (places : List Where) → Apart places → clash places (lives f) ≡ None
no_clash f places a = least_none places a (lives f) (lives_rise f)
