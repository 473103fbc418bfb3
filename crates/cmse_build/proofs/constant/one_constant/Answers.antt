use Rattle.cmse_build.proofs.Texts.{one_reading}
use Rattle.cmse_build.proofs.constant.one_constant.Goals as goal

pub returns : goal.returns
returns c = one_reading
