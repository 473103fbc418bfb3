use Rattle.range_laws.proofs.RowLaws as rows
use Rattle.range_laws.proofs.TreeLaws.{valued_made}
use Rattle.range_laws.proofs.laws.operator_law.Goals as goal

pub returns-clause-values : goal.returns-clause-values
returns-clause-values c a e first h = valued_made a e first h

pub returns-clause-binary : goal.returns-clause-binary
returns-clause-binary c a op place x y h g = rows.binary_law a op place x y h g

pub returns-clause-shifted : goal.returns-clause-shifted
returns-clause-shifted c a op place x y h g = rows.shifted_law a op place x y h g

pub returns-clause-unary : goal.returns-clause-unary
returns-clause-unary c a op place e h = rows.unary_law a op place e h

pub returns-clause-negated : goal.returns-clause-negated
returns-clause-negated c a place e h = rows.negated_law a place e h

pub returns-clause-added : goal.returns-clause-added
returns-clause-added c a place x y h g = rows.added_law a place x y h g

pub returns-clause-subtracted : goal.returns-clause-subtracted
returns-clause-subtracted c a place x y h g = rows.subtracted_law a place x y h g

pub returns-clause-dereferenced : goal.returns-clause-dereferenced
returns-clause-dereferenced c a place p h = rows.dereferenced_law a place p h

pub returns-clause-element : goal.returns-clause-element
returns-clause-element c a place x i h g = rows.element_law a place x i h g

pub returns-clause-ordered : goal.returns-clause-ordered
returns-clause-ordered c a op place x y h g = rows.ordered_law a op place x y h g

pub returns-clause-equated : goal.returns-clause-equated
returns-clause-equated c a op place x y h g = rows.equated_law a op place x y h g

pub returns-clause-either : goal.returns-clause-either
returns-clause-either c a is_and place x y h g = rows.either_law a is_and place x y h g

pub returns-clause-chosen : goal.returns-clause-chosen
returns-clause-chosen c a place k x y f h g = rows.chosen_law a place k x y f h g

pub returns-clause-in_order : goal.returns-clause-in_order
returns-clause-in_order c a place x y h g = rows.in_order_law a place x y h g
