-- How a run goes on with more steps.
use Rattle.std.specs.Prelude.{◌≡◌, ◌≢◌}
use Rattle.ns_types.specs.declared.event.End.TheVariants as end
use Rattle.ns_types.specs.declared.event.Events.{Events}
use Rattle.ns_types.specs.Prefix.{IsFront}

-- More steps only add events, and a run that is over stays so.
pub record GoesOn (a b : Events) : Type 0 where
  pub front : IsFront a.list b.list
  pub over : a.end ≢ end.Spent → b ≡ a
