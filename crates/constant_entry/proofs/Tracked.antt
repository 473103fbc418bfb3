-- The program's body keeps to what follows from its events, and its bound only lets it go further.
use Rattle.std.proofs.Common.{ℕ, zero, suc, ◌≤◌, List, [], refl, arith, Option}
use Rattle.std.proofs.lemmas.List.{append-nil}
use Rattle.ns_types.specs.CRun.{World}
use Rattle.ns_types.specs.Bounds.{world_of, Adds, Reaches, GoesFurther}
use Rattle.ns_types.specs.Marks.{Tracker, Follows, Tracks, AreTracked}
use Rattle.ns_types.specs.Declares.{HasFewArguments, AllHaveFewArguments, KeepFew}
use Rattle.ns_types.proofs.MarkLaws.{run_told}
use Rattle.ns_types.proofs.EveryLaws.{run_holds}
use Rattle.ns_types.specs.Memory.{memory_of}
use Rattle.ns_turns.specs.Refines.{CallsFew}
use Rattle.ns_turns.specs.TwoWorlds.{AlwaysTold}
use Rattle.constant_entry.specs.Meaning.{gives, constant_run}

tracked : (enters : ℕ → Option ℕ) (n deep : ℕ) → AreTracked enters (gives n deep)
tracked enters n deep = record { by = by deep }
  where
    by : (deep : ℕ) (first now : Tracker) (e : ℕ) (args : List ℕ) (w : World) → Follows enters first now now w → Tracks enters first now.active (gives n deep e args w)
    by zero first now e args w f = record { by = record { shown = f.told.shown } }
    by (suc deep) first now e args w f = record {
      by = record {
        now = now;
        same = refl;
        follows = record { told = record { shown = f.told.shown }; behind = f.behind; turns = f.turns; msp_ns = f.msp_ns; psp_ns = f.psp_ns };
      };
    }

pub always_told : (enters : ℕ → Option ℕ) (n : ℕ) → AlwaysTold enters (constant_run enters n)
always_told enters n start ts b = run_told enters (gives n b.deep) (tracked enters n b.deep) b.turns start (memory_of start) ts

-- the body under each bound
pub goes_further : (n : ℕ) → GoesFurther (λ b. gives n b.deep)
goes_further n = record { adds = λ b. adds b.deep; more = λ a b within. more a.deep b.deep within.1 }
  where
    adds : (deep e : ℕ) (args : List ℕ) (w : World) → Adds w (gives n deep e args w)
    adds zero e args w = record { front = ([], append-nil w.events) }
    adds (suc deep) e args w = record { front = ([], append-nil w.events) }

    more : (low high : ℕ) → low ≤ high → (e : ℕ) (args : List ℕ) (w : World) → Reaches (gives n low e args w) (gives n high e args w)
    more zero zero le e args w = record { front = ([], append-nil w.events); same = λ s. refl }
    more zero (suc high) le e args w = record { front = ([], append-nil w.events); same = λ s. cc }
    more (suc low) zero le e args w = absurd (omega arith)
    more (suc low) (suc high) le e args w = record { front = ([], append-nil w.events); same = λ s. refl }

keeps_few : (n deep : ℕ) → KeepFew (gives n deep)
keeps_few n deep = record { by = by deep }
  where
    by : (deep e : ℕ) (args : List ℕ) (w : World) → AllHaveFewArguments w.events → AllHaveFewArguments (world_of (gives n deep e args w)).events
    by zero e args w h = h
    by (suc deep) e args w h = h

-- it calls nothing
pub calls_few : (enters : ℕ → Option ℕ) (n : ℕ) → CallsFew (constant_run enters n)
calls_few enters n start ts b =
    run_holds HasFewArguments (record { started = tt; result = λ e x. tt; entry_point = tt; access = tt; return_fault = tt; astray = tt }) enters (gives n b.deep) (keeps_few n b.deep) b.turns start (memory_of start) ts
