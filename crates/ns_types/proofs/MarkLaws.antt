-- What the caller sees of a program's events follows from the events, the turns and the start.
use Rattle.std.proofs.Common.{◌≡◌, ℕ, zero, suc, ◌*◌, Bool, true, false, cond, List, [], ◌∷◌, ◌++◌, length, refl, sym, ap, ◌∙◌, subst, Option, Some, None}
use Rattle.std.specs.Prelude.{take, ltb}
use Rattle.std.proofs.lemmas.List.{map-append, take-map}
use Rattle.cm_base.specs.declared.stop.Stop.{Stop}
use Rattle.cm_base.specs.declared.stop.Stop.TheVariants as stop
use Rattle.ns_types.specs.declared.goes.Goes.{Goes}
use Rattle.ns_types.specs.declared.goes.Goes.TheVariants as goes
use Rattle.ns_types.specs.declared.event.CEvent.{CEvent}
use Rattle.ns_types.specs.declared.event.CEvent.TheVariants as c
use Rattle.ns_types.specs.declared.event.End.TheVariants as end
use Rattle.ns_types.specs.Turns.{Turn}
use Rattle.ns_types.specs.declared.turn.Start.{Start}
use Rattle.ns_types.specs.State.{Memory}
use Rattle.ns_types.specs.Platform.{aligned}
use Rattle.ns_types.specs.declared.event.Mark.{Mark}
use Rattle.ns_types.specs.Boundary.{acted, goes_of, in_four, eight_zeros, kept_of, start_mark}
use Rattle.ns_types.specs.declared.event.Marked.{Marked}
use Rattle.ns_types.specs.CRun.{World, Outcome, Gave, Over, then_go, mark_at, emit, emit_plain, counted, chain, phase, take_turn, turned, stop_or, stop_with, at_top, run_of, fresh, c_run}
use Rattle.ns_types.specs.Show.{Shown, show, shown_of}
use Rattle.ns_types.specs.Marks.{Frame, Tracker, newest, older, tracker_past, tracker_onward, going, tracker_after, mark_by, tracked, tracker_behind, first_tracker, events_of, shown_each, IsTold, Follows, Left, Tracks, AreTracked}

module _ (enters : ℕ → Option ℕ) where
  tracked_append : (xs ys : List CEvent) (t : Tracker) → tracked enters (xs ++ ys) t ≡ tracked enters xs t ++ tracked enters ys (tracker_behind enters xs t)
  tracked_append [] ys t = refl
  tracked_append (x ∷ xs) ys t = ap (λ l. record { event = x; mark = mark_by t } ∷ l) (tracked_append xs ys (tracker_after enters x t))

  behind_append : (xs ys : List CEvent) (t : Tracker) → tracker_behind enters (xs ++ ys) t ≡ tracker_behind enters ys (tracker_behind enters xs t)
  behind_append [] ys t = refl
  behind_append (x ∷ xs) ys t = behind_append xs ys (tracker_after enters x t)

  events_more : (ms : List Marked) (m : Marked) → events_of (ms ++ m ∷ []) ≡ events_of ms ++ m.event ∷ []
  events_more ms m = map-append (λ (x : Marked). x.event) ms (m ∷ [])

  -- one more event, which shows what it would show with the mark that follows
  told_more : (first now : Tracker) (ms : List Marked) (m : Marked) → IsTold enters first ms → tracker_behind enters (events_of ms) first ≡ now → shown_of enters m.event m.mark ≡ shown_of enters m.event (mark_by now) → IsTold enters first (ms ++ m ∷ [])
  told_more first now ms m h at same = record {
    shown =
        let es = events_of ms in
        let e = m.event in
        let pieces = λ (l : List Marked). shown_each enters l in
        map-append (λ (x : Marked). shown_of enters x.event x.mark) ms (m ∷ [])
        ∙ ap (λ l. l ++ shown_of enters e m.mark ∷ []) h.shown
        ∙ ap (λ p. shown_each enters (tracked enters es first) ++ p ∷ []) same
        ∙ ap (λ t. shown_each enters (tracked enters es first) ++ shown_of enters e (mark_by t) ∷ []) (sym at)
        ∙ sym (map-append (λ (x : Marked). shown_of enters x.event x.mark) (tracked enters es first) (record { event = e; mark = mark_by (tracker_behind enters es first) } ∷ []))
        ∙ ap pieces (sym (tracked_append es (e ∷ []) first))
        ∙ ap (λ l. pieces (tracked enters l first)) (sym (events_more ms m));
  }

  behind_more : (first now : Tracker) (ms : List Marked) (m : Marked) → tracker_behind enters (events_of ms) first ≡ now → tracker_behind enters (events_of (ms ++ m ∷ [])) first ≡ tracker_after enters m.event now
  behind_more first now ms m at =
      ap (λ l. tracker_behind enters l first) (events_more ms m) ∙ behind_append (events_of ms) (m.event ∷ []) first ∙ ap (tracker_after enters m.event) at

  -- a stop shows the same with any mark
  pub tracks_stop : (first now here : Tracker) (active : List Frame) (x : Stop) (w : World) → Follows enters first now here w → Tracks enters first active (stop_with x w)
  tracks_stop first now here active x w f = record { by = told_more first now w.events (record { event = c.Stopped x; mark = mark_at 0 eight_zeros w }) f.told f.behind refl }

  -- a write shows the same with any mark, and a call with any mark that has the stack pointers
  pub follows_wrote : (first now : Tracker) (a n v : ℕ) (w : World) → Follows enters first now now w → Follows enters first now now (emit_plain (c.Wrote a n v) w)
  follows_wrote first now a n v w f =
      let m : Marked = record { event = c.Wrote a n v; mark = mark_at 0 eight_zeros w } in
      record { told = told_more first now w.events m f.told f.behind refl; behind = behind_more first now w.events m f.behind; turns = f.turns; msp_ns = f.msp_ns; psp_ns = f.psp_ns }

  pub follows_called : (first now : Tracker) (target : ℕ) (args : List ℕ) (exit : ℕ) (kept : List ℕ) (w : World) → Follows enters first now now w → Follows enters first (tracker_onward enters now) now (emit (c.Called target args) (mark_at exit kept w) w)
  follows_called first now target args exit kept w f =
      let e = c.Called target args in
      let m : Marked = record { event = e; mark = mark_at exit kept w } in
      let with : ℕ → ℕ → Mark = λ x y. record { exit = exit; kept = kept; msp_ns = x; psp_ns = y } in
      let same : shown_of enters e m.mark ≡ shown_of enters e (mark_by now) = ap (λ x. shown_of enters e (with x w.psp_ns)) f.msp_ns ∙ ap (λ x. shown_of enters e (with now.msp_ns x)) f.psp_ns in
      record { told = told_more first now w.events m f.told f.behind same; behind = behind_more first now w.events m f.behind; turns = f.turns; msp_ns = f.msp_ns; psp_ns = f.psp_ns }

  pub tracks_then : (first : Tracker) (active active' : List Frame) (o : Outcome) (f : ℕ → World → Outcome) → Tracks enters first active o → ((x : ℕ) (u : World) → Left enters first active u → Tracks enters first active' (f x u)) → Tracks enters first active' (then_go o f)
  tracks_then first active active' (Gave x u) f h g = g x u h.by
  tracks_then first active active' (Over e u) f h g = record { by = h.by }

  tracks_or : (first now here : Tracker) (active : List Frame) (o : Option Stop) (w : World) (rest : Outcome) → Follows enters first now here w → Tracks enters first active rest → Tracks enters first active (stop_or o w rest)
  tracks_or first now here active None w rest f h = h
  tracks_or first now here active (Some x) w rest f h = tracks_stop first now here active x w f

  tracks_cond : (first : Tracker) (active : List Frame) (b : Bool) (o : Outcome) (w : World) → Tracks enters first active o → IsTold enters first w.events → Tracks enters first active (cond b o (Over end.Spent w))
  tracks_cond first active true o w h told = h
  tracks_cond first active false o w h told = record { by = told }

  -- a phase of turns keeps to it, where the tracker is behind the crossing that follows
  abbrev pub PhaseIsTracked : (World → Outcome) → Type 0
  PhaseIsTracked next = (first here : Tracker) (w : World) → Follows enters first (tracker_onward enters here) here w → Tracks enters first here.active (next w)

  abbrev mark_of : Frame → ℕ → ℕ → Mark
  mark_of f msp psp = record { exit = f.exit; kept = f.kept; msp_ns = msp; psp_ns = psp }

  -- the event of a result that goes to the exit of its frame
  after_result : (first : Tracker) (frame : Frame) (active : List Frame) (e r : ℕ) (u : World) (l : Left enters first (frame ∷ active) u)
      → Follows enters first (going enters (goes_of enters frame.exit) frame (record l.now { active = older l.now.active })) (record l.now { active = older l.now.active }) (emit (c.Result e r) (mark_at frame.exit frame.kept u) u)
  after_result first frame active e r u l =
      let f = l.follows in
      let now = l.now in
      let here : Tracker = record now { active = older now.active } in
      let m : Marked = record { event = c.Result e r; mark = mark_at frame.exit frame.kept u } in
      let is : newest now.active ≡ frame = ap newest l.same in
      let mark : mark_at frame.exit frame.kept u ≡ mark_by now = ap (λ x. mark_of frame x u.psp_ns) f.msp_ns ∙ ap (λ x. mark_of frame now.msp_ns x) f.psp_ns ∙ ap (λ x. mark_of x now.msp_ns now.psp_ns) (sym is) in
      record {
        told = told_more first now u.events m f.told f.behind (ap (shown_of enters (c.Result e r)) mark);
        behind = behind_more first now u.events m f.behind ∙ ap (λ (x : Frame). going enters (goes_of enters x.exit) x here) is;
        turns = f.turns;
        msp_ns = f.msp_ns;
        psp_ns = f.psp_ns;
      }

  tracks_take : (first : Tracker) (active : List Frame) (a : Outcome) (f : Turn → List Turn → Outcome) (ts : List Turn) → Tracks enters first active a → ((t : Turn) (rest : List Turn) → ts ≡ t ∷ rest → Tracks enters first active (f t rest)) → Tracks enters first active (take_turn a f ts)
  tracks_take first active a f [] x y = x
  tracks_take first active a f (t ∷ ts) x y = y t ts refl

  module _ (enter : ℕ → List ℕ → World → Outcome) (body : AreTracked enters enter) where
    pub tracks_chain : (next : World → Outcome) → PhaseIsTracked next → (turns exit : ℕ) (kept : List ℕ) (left : ℕ) (g : Goes) (args : List ℕ) (w : World) (first here : Tracker) → Follows enters first (going enters g (record { exit = exit; kept = kept }) here) here w → Tracks enters first here.active (chain enters enter next turns exit kept left g args w)
    tracks_chain next phases turns exit kept zero (goes.Enter e) args w first here f = record { by = f.told }
    tracks_chain next phases turns exit kept zero goes.Return args w first here f = record { by = record { now = here; same = refl; follows = f } }
    tracks_chain next phases turns exit kept zero goes.Turn args w first here f = phases first here w f
    tracks_chain next phases turns exit kept zero goes.EntryPoint args w first here f = tracks_stop first here here here.active stop.EntryPoint w f
    tracks_chain next phases turns exit kept zero goes.Astray args w first here f = tracks_stop first here here here.active stop.Astray w f
    tracks_chain next phases turns exit kept (suc left) (goes.Enter e) args w first here f =
        let frame : Frame = record { exit = exit; kept = kept } in
        let now : Tracker = record here { active = frame ∷ here.active } in
        tracks_cond first here.active (ltb w.entries turns) _ w
        (tracks_then first now.active here.active (enter e args (counted w)) _
        (body.by first now e args (counted w) (record { told = f.told; behind = f.behind; turns = f.turns; msp_ns = f.msp_ns; psp_ns = f.psp_ns }))
        (λ r u l.
        let after = after_result first frame here.active e r u l in
        subst (λ a. Tracks enters first a (chain enters enter next turns exit kept left (goes_of enters exit) (in_four (r ∷ [])) (emit (c.Result e r) (mark_at exit kept u) u))) (ap older l.same)
        (tracks_chain next phases turns exit kept left (goes_of enters exit) (in_four (r ∷ [])) (emit (c.Result e r) (mark_at exit kept u) u) first (record l.now { active = older l.now.active }) after)))
        f.told
    tracks_chain next phases turns exit kept (suc left) goes.Return args w first here f = record { by = record { now = here; same = refl; follows = f } }
    tracks_chain next phases turns exit kept (suc left) goes.Turn args w first here f = phases first here w f
    tracks_chain next phases turns exit kept (suc left) goes.EntryPoint args w first here f = tracks_stop first here here here.active stop.EntryPoint w f
    tracks_chain next phases turns exit kept (suc left) goes.Astray args w first here f = tracks_stop first here here here.active stop.Astray w f

    pub tracks_phase : (turns fuel : ℕ) → PhaseIsTracked (phase enters enter turns fuel)
    tracks_phase turns zero first here w f =
        tracks_take first here.active _ _ w.turns (record { by = f.told }) (λ t rest e. record { by = f.told })
    tracks_phase turns (suc fuel) first here w f =
        tracks_take first here.active _ _ w.turns (record { by = f.told })
        (λ t rest e.
        let acts = acted t.items w.memory.ns_ram in
        let u = turned t rest acts.ram w in
        let next : Tracker = record { turns = rest; active = here.active; msp_ns = aligned 4 t.msp_ns; psp_ns = aligned 4 t.psp_ns } in
        let at : Follows enters first (going enters (goes_of enters t.target) (record { exit = aligned 2 t.lr; kept = kept_of t }) next) next u =
        record {
          told = record { shown = f.told.shown };
          behind = f.behind ∙ ap (λ l. tracker_past enters here.active l here.msp_ns here.psp_ns) (sym f.turns ∙ e);
          turns = refl;
          msp_ns = refl;
          psp_ns = refl;
        } in
        tracks_or first _ next here.active acts.stop u _ at
        (tracks_chain (phase enters enter turns fuel) (tracks_phase turns fuel) turns (aligned 2 t.lr) (kept_of t) (turns * suc fuel) (goes_of enters t.target) (take 4 t.r) u first next at))

    top_told : (first : Tracker) (active : List Frame) (o : Outcome) → Tracks enters first active o → IsTold enters first (run_of (at_top o)).list
    top_told first active (Gave x w) h = (tracks_stop first h.by.now h.by.now active stop.ReturnFault w h.by.follows).by
    top_told first active (Over e w) h = h.by

    -- a whole run
    pub run_told : (turns : ℕ) (start : Start) (memory : Memory) (ts : List Turn) → IsTold enters (first_tracker start ts) (run_of (c_run enters enter turns start memory ts)).list
    run_told turns start memory ts =
        let m = start_mark start in
        let first = first_tracker start ts in
        let here : Tracker = record { turns = ts; active = []; msp_ns = m.msp_ns; psp_ns = m.psp_ns } in
        top_told first [] _
        (tracks_chain (phase enters enter turns (length ts)) (tracks_phase turns (length ts)) turns m.exit m.kept (turns * suc (length ts)) (goes_of enters m.exit) (in_four []) (fresh start memory ts) first here
        (record { told = record { shown = refl }; behind = refl; turns = refl; msp_ns = refl; psp_ns = refl }))

  take_tracked : (n : ℕ) (es : List CEvent) (t : Tracker) → take n (tracked enters es t) ≡ tracked enters (take n es) t
  take_tracked zero es t = refl
  take_tracked (suc n) [] t = refl
  take_tracked (suc n) (e ∷ es) t = ap (λ l. record { event = e; mark = mark_by t } ∷ l) (take_tracked n es (tracker_after enters e t))

  first_shown : (first : Tracker) (ms : List Marked) (n : ℕ) → IsTold enters first ms → shown_each enters (take n ms) ≡ shown_each enters (tracked enters (take n (events_of ms)) first)
  first_shown first ms n h =
      let f = λ (m : Marked). shown_of enters m.event m.mark in
      sym (take-map f n ms) ∙ ap (take n) h.shown ∙ take-map f n (tracked enters (events_of ms) first) ∙ ap (shown_each enters) (take_tracked n (events_of ms) first)

  joined : List (List Shown) → List Shown
  joined [] = []
  joined (p ∷ ps) = p ++ joined ps

  show_joined : (ms : List Marked) → show enters ms ≡ joined (shown_each enters ms)
  unfolding joined
  show_joined [] = refl
  show_joined (m ∷ ms) = ap (λ l. shown_of enters m.event m.mark ++ l) (show_joined ms)

  -- equal first events show the same
  pub same_shown : (first : Tracker) (a b : List Marked) (n : ℕ) → IsTold enters first a → IsTold enters first b → take n (events_of a) ≡ take n (events_of b) → show enters (take n a) ≡ show enters (take n b)
  same_shown first a b n p q e =
      show_joined (take n a)
      ∙ ap joined (first_shown first a n p ∙ ap (λ l. shown_each enters (tracked enters l first)) e ∙ sym (first_shown first b n q))
      ∙ sym (show_joined (take n b))
