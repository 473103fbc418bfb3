use Rattle.constant_entry.specs.Code.{constant_device}
use Rattle.constant_entry.proofs.Views.{shows_constant}
use Rattle.constant_entry.proofs.Placed.{gives_constant}
use Rattle.constant_entry.proofs.laws.first_call.Goals as goal

pub returns : goal.returns
returns c n small = shows_constant (constant_device n) n (gives_constant n small)
