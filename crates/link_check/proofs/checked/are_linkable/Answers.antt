use Rattle.std.proofs.Common.{◌∙◌}
use Rattle.link_check.proofs.CheckLaws.{read_objects}
use Rattle.link_check.proofs.checked.are_linkable.Goals as goal

pub can_link-requires : goal.can_link-requires
can_link-requires c =
    let same = rw c.in-Some.is at c.in_ok-objects_of.ensures.objects in
    let files = rw c.in-Some.is at c.in_ok-objects_of.ensures.files in
    read_objects c.as_slice.result.now c.args.files.now (c.as_slice.ensures ∙ same) files
