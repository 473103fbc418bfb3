use Rattle.cmse_build.proofs.Ready.{library_ready}
use Rattle.file_tests.proofs.images.library.Goals as goal

pub write_implib-requires : goal.write_implib-requires
write_implib-requires c = rw (c.in_ok-push.ensures.ok, c.new-list.ensures) (library_ready c.in_ok-answer.field-0 c.in_ok-answer.ensures)
