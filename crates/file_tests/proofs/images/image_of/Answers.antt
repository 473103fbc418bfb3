use Rattle.std.proofs.Common.{◌≤◌, ◌+◌, length, ap, arith}
use Rattle.cmse_build.proofs.Ready.{image_ready}
use Rattle.file_tests.proofs.images.image_of.Goals as goal

pub write_image-requires : goal.write_image-requires
write_image-requires c =
    let few : length c.args.rom.now + length c.as_slice.result.now ≤ 8000000 = omega (arith, c.requires, ap length c.as_slice.ensures) in
    rw (c.as_slice-2.ensures, c.in_ok-push.ensures.ok, c.new-gates.ensures) (image_ready c.in_ok-answer.field-0 c.args.rom.now c.as_slice.result.now 0x100000D0 c.in_ok-answer.ensures (omega arith) few)
