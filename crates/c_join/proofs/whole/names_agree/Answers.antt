use Rattle.std.proofs.Common.{◌≡◌, ◌∙◌, [], sym, None}
use Rattle.std.proofs.lemmas.Result.{IfErr-weaker, on_ok_weaker}
use Rattle.join_laws.specs.Joined.{defined_twice, disputed, name_in}
use Rattle.c_join.proofs.JoinLaws.{all_none, at60, none61}
use Rattle.c_join.proofs.whole.names_agree.Goals as goal

pub returns-clause-ok : goal.returns-clause-ok
returns-clause-ok c =
    let us = c.args.units.now in
    let seen = c.args.seen.now in
    let h61 : name_in (defined_twice us) ≡ None = none61 us seen _ c.requires.seen c.again.ensures c.in_ok-no_name.ensures.ok in
    let h62 : disputed [] us ≡ None = sym c.disputed.ensures ∙ c.in_ok-no_name-2.ensures.ok in
    on_ok_weaker c.no_name-3.result (all_none us seen c.in_ok-missing.missing _ c.requires.seen h61 h62 c.in_ok-missing.ensures c.name.ensures) c.no_name-3.ensures.ok

pub returns-clause-fault : goal.returns-clause-fault
returns-clause-fault c =
    let us = c.args.units.now in
    let seen = c.args.seen.now in
    let h61 : name_in (defined_twice us) ≡ None = none61 us seen _ c.requires.seen c.again.ensures c.in_ok-no_name.ensures.ok in
    let h62 : disputed [] us ≡ None = sym c.disputed.ensures ∙ c.in_ok-no_name-2.ensures.ok in
    IfErr-weaker c.no_name-3.result _ _ (at60 us seen c.in_ok-missing.missing _ c.requires.seen h61 h62 c.in_ok-missing.ensures c.name.ensures) c.no_name-3.ensures.fault
