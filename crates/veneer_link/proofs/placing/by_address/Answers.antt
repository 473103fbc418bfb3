use Rattle.std.proofs.Common.{rules}
use Rattle.std.proofs.lemmas.List.Sorted.{IsNonDecreasingBy-from_sort_by_key}
use Rattle.veneer_link.proofs.placing.by_address.Goals as goal

pub returns-clause-ascending : goal.returns-clause-ascending
returns-clause-ascending c =
    let up = IsNonDecreasingBy-from_sort_by_key (λ v. v.address) _ c.in_ok-sort_by_key.ensures.sorted (λ a r q k. search rules) in
    rw c.from_vec.ensures up
