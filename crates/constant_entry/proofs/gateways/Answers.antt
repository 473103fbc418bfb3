use Rattle.constant_entry.proofs.Placed.{gateway_all}
use Rattle.constant_entry.proofs.gateways.Goals as goal

pub put_code-requires : goal.put_code-requires
put_code-requires c = gateway_all
