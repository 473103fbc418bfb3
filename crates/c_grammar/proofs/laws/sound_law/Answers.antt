use Rattle.c_grammar.proofs.UnitSound.{found_by}
use Rattle.c_grammar.proofs.laws.sound_law.Goals as goal

pub returns : goal.returns
returns c = λ n ts u rest e h. found_by n ts u rest e h
