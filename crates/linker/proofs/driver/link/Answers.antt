use Rattle.std.proofs.Common.{map}
use Rattle.elf_object.specs.Reading.{object_in}
use Rattle.linker.proofs.PassLaws.{can_make, can_pass, links_from, kept_from, placed_from, veneers_from, code_from}
use Rattle.linker.proofs.driver.link.Goals as goal

pub made_of-requires-clause-can : goal.made_of-requires-clause-can
made_of-requires-clause-can c =
    let v = c.in_ok-veneers.veneers in
    can_pass (map object_in c.args.objects.now) c.args.entries.now v.list
    (can_make c.args.objects.now c.args.entries.now _ v c.requires.are c.requires.can_link c.requires.few c.requires.entries_differ c.requires.old_differ c.in_ok-veneers.ensures.value)

pub returns-clause-value : goal.returns-clause-value
returns-clause-value c =
    links_from (map object_in c.args.objects.now) c.args.entries.now _ c.in_ok-veneers.veneers c.in_ok-linked.linked c.in_ok-veneers.ensures.value c.in_ok-linked.ensures

pub returns-clause-placed : goal.returns-clause-placed
returns-clause-placed c =
    let v = c.in_ok-veneers.veneers in
    placed_from (map object_in c.args.objects.now) c.args.entries.now v.list c.in_ok-linked.linked
    (can_make c.args.objects.now c.args.entries.now _ v c.requires.are c.requires.can_link c.requires.few c.requires.entries_differ c.requires.old_differ c.in_ok-veneers.ensures.value)
    c.in_ok-linked.ensures

pub returns-clause-veneers : goal.returns-clause-veneers
returns-clause-veneers c =
    let v = c.in_ok-veneers.veneers in
    veneers_from (map object_in c.args.objects.now) c.args.entries.now v.list c.in_ok-linked.linked
    (can_make c.args.objects.now c.args.entries.now _ v c.requires.are c.requires.can_link c.requires.few c.requires.entries_differ c.requires.old_differ c.in_ok-veneers.ensures.value)
    c.in_ok-linked.ensures

pub returns-clause-kept : goal.returns-clause-kept
returns-clause-kept c =
    kept_from (map object_in c.args.objects.now) _ c.in_ok-veneers.veneers.list c.in_ok-linked.linked c.in_ok-veneers.ensures.kept c.in_ok-linked.ensures

pub returns-clause-code : goal.returns-clause-code
returns-clause-code c =
    let v = c.in_ok-veneers.veneers in
    code_from (map object_in c.args.objects.now) c.args.entries.now v.list c.in_ok-linked.linked
    (can_make c.args.objects.now c.args.entries.now _ v c.requires.are c.requires.can_link c.requires.few c.requires.entries_differ c.requires.old_differ c.in_ok-veneers.ensures.value)
    c.in_ok-linked.ensures
