use Rattle.import_lib.proofs.ReadBack.{reads_back}
use Rattle.import_lib.proofs.laws.reads_back.Goals as goal

pub returns : goal.returns
returns c = reads_back
