use Rattle.std.proofs.Common.{◌≡◌, ◌+◌, ◌-◌, ◌*◌, length}
use Rattle.c_grammar.specs.Reading.{levels}
use Rattle.c_grammar.specs.Reading as spec
use Rattle.c_stmts.proofs.stmts.+stmts.Given as goal

abbrev pub decreases-block : goal.decreases-block
decreases-block l = l.left * 64 + 4

abbrev pub decreases-item_item : goal.decreases-item_item
decreases-item_item l = l.left * 64 + 2

abbrev pub decreases-items : goal.decreases-items
decreases-items l = l.left * 64 + 3

abbrev pub decreases-item : goal.decreases-item
decreases-item l = l.left * 64 + 1

abbrev pub decreases-stmt : goal.decreases-stmt
decreases-stmt l = l.left * 64 + 0

abbrev pub decreases-stmt_below : goal.decreases-stmt_below
decreases-stmt_below l = l.left * 64 + 6

abbrev pub decreases-if_stmt : goal.decreases-if_stmt
decreases-if_stmt l = l.left * 64 + 2

abbrev pub decreases-if_else : goal.decreases-if_else
decreases-if_else l = l.left * 64 + 1

abbrev pub decreases-while_stmt : goal.decreases-while_stmt
decreases-while_stmt l = l.left * 64 + 1

abbrev pub decreases-do_stmt : goal.decreases-do_stmt
decreases-do_stmt l = l.left * 64 + 1

abbrev pub decreases-for_stmt : goal.decreases-for_stmt
decreases-for_stmt l = l.left * 64 + 1

abbrev pub decreases-switch_stmt : goal.decreases-switch_stmt
decreases-switch_stmt l = l.left * 64 + 4

abbrev pub decreases-part_item : goal.decreases-part_item
decreases-part_item l = l.left * 64 + 2

abbrev pub decreases-parts : goal.decreases-parts
decreases-parts l = l.left * 64 + 3

abbrev pub decreases-part : goal.decreases-part
decreases-part l = l.left * 64 + 1

abbrev pub invariant-items-loop : goal.invariant-items-loop
invariant-items-loop l = spec.repeat (spec.in_braces) (spec.read_item_item l.names (levels l.names l.left)) (length l.fn.ts - l.counter) l.all l.rest ≡ spec.repeat (spec.in_braces) (spec.read_item_item l.names (levels l.names l.left)) (length l.fn.ts) l.fn.so_far l.fn.ts

abbrev pub invariant-parts-loop : goal.invariant-parts-loop
invariant-parts-loop l = spec.repeat (spec.in_braces) (spec.read_part_item l.names (levels l.names l.left)) (length l.fn.ts - l.counter) l.all l.rest ≡ spec.repeat (spec.in_braces) (spec.read_part_item l.names (levels l.names l.left)) (length l.fn.ts) l.fn.so_far l.fn.ts
