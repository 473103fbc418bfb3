use Rattle.std.proofs.Common.{◌+◌, sym, subst}
use Rattle.std.proofs.lemmas.List.Elements.{All-contains}
use Rattle.link_laws.specs.Resolve.{Reaches}
use Rattle.link_laws.proofs.GateLaws.{veneer_is}
use Rattle.linker.specs.Passes.{CanLead}
use Rattle.linker.proofs.gates.put_gate.Goals as goal

pub put_veneer-requires-clause-low : goal.put_veneer-requires-clause-low
put_veneer-requires-clause-low c =
    let is = veneer_is c.args.veneers.now c.args.at c.in-Some.v.now (sym c.in-Some.ensures) in
    (All-contains (CanLead c.args.names.now) c.args.veneers.now c.in-Some.v.now c.requires is.0).low

pub put_veneer-requires-clause-reach : goal.put_veneer-requires-clause-reach
put_veneer-requires-clause-reach c =
    let is = veneer_is c.args.veneers.now c.args.at c.in-Some.v.now (sym c.in-Some.ensures) in
    let lead = All-contains (CanLead c.args.names.now) c.args.veneers.now c.in-Some.v.now c.requires is.0 in
    subst (Reaches 30 (c.in-Some.v.now.address + 4)) (sym c.in_ok-code-in-Some.ensures) lead.reach
