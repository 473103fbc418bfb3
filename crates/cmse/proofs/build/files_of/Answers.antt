use Rattle.cmse.proofs.BuildLaws.{builds}
use Rattle.cmse.proofs.build.files_of.Goals as goal

pub returns : goal.returns
returns c =
    builds c.args.text.now c.in-Some.name.now c.in_ok-library.library c.in_ok-image.image c.in-Some.n c.in-Some.ensures.found c.in_ok-library.ensures c.in_ok-image.ensures.file c.in_ok-image.ensures.reads
