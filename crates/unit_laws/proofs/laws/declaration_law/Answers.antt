use Rattle.unit_laws.proofs.DeclLaws.{local_declaration_keeps}
use Rattle.unit_laws.proofs.FileLaws.{file_declaration_passes}
use Rattle.unit_laws.proofs.laws.declaration_law.Goals as goal

pub returns-clause-locals : goal.returns-clause-locals
returns-clause-locals c d around s fit = local_declaration_keeps d around s fit

pub returns-clause-files : goal.returns-clause-files
returns-clause-files c d made s fit sound m = file_declaration_passes d made s fit sound m
