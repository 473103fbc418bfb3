-- A machine that shows exactly what a program shows declares what the program declares.
use Rattle.std.proofs.Common.{ℕ, List, sym, subst, Option}
use Rattle.ns_types.specs.declared.event.Bound.{Bound}
use Rattle.ns_types.specs.Turns.{Turn}
use Rattle.ns_types.specs.declared.turn.Start.{Start}
use Rattle.ns_types.specs.CRun.{Run}
use Rattle.ns_types.specs.Show.{show}
use Rattle.ns_types.specs.Declares.{Declares}
use Rattle.ns_types.proofs.ShowLaws.{declares_itself, front_declares}
use Rattle.ns_turns.specs.Refines.{Only, OnlyDeclared, CallsFew}
use Rattle.ns_types.specs.State.{Device}

pub declares : (device : Device) (enters : ℕ → Option ℕ) (run : Start → List Turn → Bound → Run) → Only device enters run → CallsFew run → OnlyDeclared device enters run
declares device enters run only few start whole ts are n =
    let got = only start whole ts are n in
    let b = got.0 in
    let o = got.1 in
    let shown = show enters (run start ts b).list in
    let own = declares_itself enters (run start ts b).list (few start ts b) in (
      b,
      record {
        before = o.before;
        list = o.list;
        front = front_declares o.before shown own o.front;
        clean = o.clean;
        waits = λ h. let w = o.waits h in (w.0, subst (λ l. Declares l shown) (sym w.1) own);
      },
    )
