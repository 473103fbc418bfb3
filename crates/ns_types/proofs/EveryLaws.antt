-- What holds of each event that bodies of entries and the boundary make holds of each event of a run.
use Rattle.std.proofs.Common.{ℕ, zero, suc, ◌*◌, Bool, true, false, cond, List, [], ◌∷◌, ◌++◌, length, Option, Some, None}
use Rattle.std.specs.Prelude.{take, ltb}
use Rattle.cm_base.specs.declared.stop.Stop.{Stop}
use Rattle.cm_base.specs.declared.stop.Stop.TheVariants as stop
use Rattle.ns_types.specs.declared.goes.Goes.{Goes}
use Rattle.ns_types.specs.declared.goes.Goes.TheVariants as goes
use Rattle.ns_types.specs.declared.turn.Item.{Item}
use Rattle.ns_types.specs.declared.turn.Item.TheVariants.{Write, Read}
use Rattle.ns_types.specs.declared.event.CEvent.{CEvent}
use Rattle.ns_types.specs.declared.event.CEvent.TheVariants as c
use Rattle.ns_types.specs.declared.event.Marked.{Marked}
use Rattle.ns_types.specs.Turns.{Turn}
use Rattle.ns_types.specs.declared.turn.Start.{Start}
use Rattle.ns_types.specs.State.{Memory}
use Rattle.ns_types.specs.Platform.{in_row, is_secure, is_nonsecure, aligned}
use Rattle.ns_types.specs.Boundary.{Acted, acted, acted_or, item_stop, with_item, goes_of, in_four, eight_zeros, kept_of, reset_address}
use Rattle.ns_types.specs.CRun.{World, Outcome, Gave, Over, then_go, mark_at, emit, counted, chain, phase, take_turn, turned, stop_or, stop_with, at_top, run_of, fresh, c_run}
use Rattle.ns_types.specs.Bounds.{world_of}
use Rattle.ns_types.specs.Every.{EveryEvent, HoldsAtBoundary, Keep}

module _ (P : CEvent → Type 0) (at : HoldsAtBoundary P) where
  pub record Holds (o : Outcome) : Type 0 where
    pub by : EveryEvent P (world_of o).events

  one_more : (ms : List Marked) (m : Marked) → EveryEvent P ms → P m.event → EveryEvent P (ms ++ m ∷ [])
  one_more [] m h one = (one, tt)
  one_more (x ∷ ms) m h one = (h.0, one_more ms m h.1 one)

  holds_stop : (x : Stop) (w : World) → EveryEvent P w.events → P (c.Stopped x) → Holds (stop_with x w)
  holds_stop x w h one = record { by = one_more w.events (record { event = c.Stopped x; mark = mark_at 0 eight_zeros w }) h one }

  holds_then : (o : Outcome) (f : ℕ → World → Outcome) → EveryEvent P (world_of o).events → ((x : ℕ) (u : World) → EveryEvent P u.events → Holds (f x u)) → Holds (then_go o f)
  holds_then (Gave x u) f h g = g x u h
  holds_then (Over e u) f h g = record { by = h }

  holds_take : (a : Outcome) (f : Turn → List Turn → Outcome) (ts : List Turn) → Holds a → ((t : Turn) (rest : List Turn) → Holds (f t rest)) → Holds (take_turn a f ts)
  holds_take a f [] x y = x
  holds_take a f (t ∷ ts) x y = y t ts

  holds_cond : (b : Bool) (x y : Outcome) → Holds x → Holds y → Holds (cond b x y)
  holds_cond true x y f g = f
  holds_cond false x y f g = g

  -- the stops that an item can have
  abbrev Allowed : Option Stop → Type 0
  Allowed None = Unit {0}
  Allowed (Some x) = P (c.Stopped x)

  allowed_cond : (a b : Bool) → Allowed (cond a (Some stop.Access) (cond b None (Some stop.Astray)))
  allowed_cond true b = at.access
  allowed_cond false true = tt
  allowed_cond false false = at.astray

  item_allowed : (item : Item) → Allowed (item_stop item)
  item_allowed (Write a byte) = allowed_cond (is_secure a) (in_row 1 a)
  item_allowed (Read a) = allowed_cond (is_secure a) (is_nonsecure a)

  acted_allowed : (items : List Item) (ram : List ℕ) → Allowed (acted items ram).stop
  acted_allowed [] ram = tt
  acted_allowed (item ∷ items) ram = pick (item_stop item) (acted items (with_item item ram)) (item_allowed item) (acted_allowed items (with_item item ram))
    where
      pick : (o : Option Stop) (rest : Acted) → Allowed o → Allowed rest.stop → Allowed (acted_or o ram rest).stop
      pick None rest h g = g
      pick (Some x) rest h g = h

  holds_or : (o : Option Stop) (u : World) (rest : Outcome) → EveryEvent P u.events → Allowed o → Holds rest → Holds (stop_or o u rest)
  holds_or None u rest h f x = x
  holds_or (Some y) u rest h f x = holds_stop y u h f

  module _ (enters : ℕ → Option ℕ) (enter : ℕ → List ℕ → World → Outcome) (keep : Keep P enter) where
    pub holds_chain : (next : World → Outcome) → ((w : World) → EveryEvent P w.events → Holds (next w)) → (turns exit : ℕ) (kept : List ℕ) (left : ℕ) (g : Goes) (args : List ℕ) (w : World) → EveryEvent P w.events → Holds (chain enters enter next turns exit kept left g args w)
    holds_chain next later turns exit kept zero (goes.Enter e) args w h = record { by = h }
    holds_chain next later turns exit kept zero goes.Return args w h = record { by = h }
    holds_chain next later turns exit kept zero goes.Turn args w h = later w h
    holds_chain next later turns exit kept zero goes.EntryPoint args w h = holds_stop stop.EntryPoint w h at.entry_point
    holds_chain next later turns exit kept zero goes.Astray args w h = holds_stop stop.Astray w h at.astray
    holds_chain next later turns exit kept (suc left) (goes.Enter e) args w h =
        holds_cond (ltb w.entries turns) _ _
        (holds_then (enter e args (counted w)) _ (keep.by e args (counted w) h)
        (λ r u k. holds_chain next later turns exit kept left (goes_of enters exit) (in_four (r ∷ [])) (emit (c.Result e r) (mark_at exit kept u) u) (one_more u.events (record { event = c.Result e r; mark = mark_at exit kept u }) k (at.result e r))))
        (record { by = h })
    holds_chain next later turns exit kept (suc left) goes.Return args w h = record { by = h }
    holds_chain next later turns exit kept (suc left) goes.Turn args w h = later w h
    holds_chain next later turns exit kept (suc left) goes.EntryPoint args w h = holds_stop stop.EntryPoint w h at.entry_point
    holds_chain next later turns exit kept (suc left) goes.Astray args w h = holds_stop stop.Astray w h at.astray

    pub holds_phase : (turns fuel : ℕ) (w : World) → EveryEvent P w.events → Holds (phase enters enter turns fuel w)
    holds_phase turns zero w h = holds_take _ _ w.turns (record { by = h }) (λ t rest. record { by = h })
    holds_phase turns (suc fuel) w h =
        holds_take _ _ w.turns (record { by = h })
        (λ t rest.
        let acts = acted t.items w.memory.ns_ram in
        let u = turned t rest acts.ram w in
        holds_or acts.stop u _ h (acted_allowed t.items w.memory.ns_ram) (holds_chain (phase enters enter turns fuel) (holds_phase turns fuel) turns (aligned 2 t.lr) (kept_of t) (turns * suc fuel) (goes_of enters t.target) (take 4 t.r) u h))

    holds_top : (o : Outcome) → Holds o → EveryEvent P (run_of (at_top o)).list
    holds_top (Gave x w) h = (holds_stop stop.ReturnFault w h.by at.return_fault).by
    holds_top (Over e w) h = h.by

    pub run_holds : (turns : ℕ) (start : Start) (memory : Memory) (ts : List Turn) → EveryEvent P (run_of (c_run enters enter turns start memory ts)).list
    run_holds turns start memory ts =
        let exit = reset_address start in
        holds_top _ (holds_chain (phase enters enter turns (length ts)) (holds_phase turns (length ts)) turns exit eight_zeros (turns * suc (length ts)) (goes_of enters exit) (in_four []) (fresh start memory ts) (at.started, tt))
