use Rattle.std.proofs.Common.{◌≡◌, length, true, rules}
use Rattle.c_lex.specs.declared.token.Punct.TheVariants as mark
use Rattle.c_grammar.specs.declared.tokens.Sign.TheVariants.{Mark}
use Rattle.c_grammar.specs.Tokens.{next_is, has, op_of, begins_access, begins_spec, begins_suffix, comma_more}
use Rattle.c_grammar.specs.Reading.{levels}
use Rattle.c_grammar.specs.Reading as spec
use Rattle.c_nodes.proofs.LevelLaws.{goes_on}
use Rattle.c_exprs.proofs.+syntax.Goals as goal

pub exprs::more_commas-loop-preserved : goal.exprs::more_commas-loop-preserved
exprs::more_commas-loop-preserved t c =
    let h : (next_is (Mark mark.Comma)) c.loop.rest.now ≡ true = search rules in
    goes_on (next_is (Mark mark.Comma)) (spec.read_comma_item c.args.names.now (levels c.args.names.now c.args.left)) (length c.args.ts.now) c.loop.counter _ _ _ _ _ c.loop-test.true h c.in_ok-more.ensures c.loop.invariant

pub exprs::more_exprs-loop-preserved : goal.exprs::more_exprs-loop-preserved
exprs::more_exprs-loop-preserved t c =
    let h : (next_is (Mark mark.Comma)) c.loop.rest.now ≡ true = search rules in
    goes_on (next_is (Mark mark.Comma)) (spec.read_expr_item c.args.names.now (levels c.args.names.now c.args.left)) (length c.args.ts.now) c.loop.counter _ _ _ _ _ c.loop-test.true h c.in_ok-more.ensures c.loop.invariant

pub exprs::more_ops-loop-preserved : goal.exprs::more_ops-loop-preserved
exprs::more_ops-loop-preserved t c =
    let h : (has (op_of c.args.level)) c.loop.rest.now ≡ true = search rules in
    goes_on (has (op_of c.args.level)) (spec.read_op_item (spec.read_binary (levels c.args.names.now c.args.left) c.args.level) c.args.level) (length c.args.ts.now) c.loop.counter _ _ _ _ _ c.loop-test.true h c.in_ok-more.ensures c.loop.invariant

pub exprs::accesses-loop-preserved : goal.exprs::accesses-loop-preserved
exprs::accesses-loop-preserved t c =
    let h : (begins_access) c.loop.rest.now ≡ true = search rules in
    goes_on (begins_access) (spec.read_access_item c.args.names.now (levels c.args.names.now c.args.left)) (length c.args.ts.now) c.loop.counter _ _ _ _ _ c.loop-test.true h c.in_ok-more.ensures c.loop.invariant

pub types::more_specs-loop-preserved : goal.types::more_specs-loop-preserved
types::more_specs-loop-preserved t c =
    let h : (begins_spec c.args.names.now) c.loop.rest.now ≡ true = search rules in
    goes_on (begins_spec c.args.names.now) (spec.read_spec_item c.args.names.now (levels c.args.names.now c.args.left)) (length c.args.ts.now) c.loop.counter _ _ _ _ _ c.loop-test.true h c.in_ok-more.ensures c.loop.invariant

pub types::more_members-loop-preserved : goal.types::more_members-loop-preserved
types::more_members-loop-preserved t c =
    let h : (begins_spec c.args.names.now) c.loop.rest.now ≡ true = search rules in
    goes_on (begins_spec c.args.names.now) (spec.read_member_item c.args.names.now (levels c.args.names.now c.args.left)) (length c.args.ts.now) c.loop.counter _ _ _ _ _ c.loop-test.true h c.in_ok-more.ensures c.loop.invariant

pub types::more_declarators-loop-preserved : goal.types::more_declarators-loop-preserved
types::more_declarators-loop-preserved t c =
    let h : (next_is (Mark mark.Comma)) c.loop.rest.now ≡ true = search rules in
    goes_on (next_is (Mark mark.Comma)) (spec.read_declarator_item c.args.names.now (levels c.args.names.now c.args.left)) (length c.args.ts.now) c.loop.counter _ _ _ _ _ c.loop-test.true h c.in_ok-more.ensures c.loop.invariant

pub types::more_enumrs-loop-preserved : goal.types::more_enumrs-loop-preserved
types::more_enumrs-loop-preserved t c =
    let h : (comma_more) c.loop.rest.now ≡ true = search rules in
    goes_on (comma_more) (spec.read_enumr_item c.args.names.now (levels c.args.names.now c.args.left)) (length c.args.ts.now) c.loop.counter _ _ _ _ _ c.loop-test.true h c.in_ok-more.ensures c.loop.invariant

pub declarators::suffixes-loop-preserved : goal.declarators::suffixes-loop-preserved
declarators::suffixes-loop-preserved t c =
    let h : (begins_suffix) c.loop.rest.now ≡ true = search rules in
    goes_on (begins_suffix) (spec.read_suffix_item c.args.names.now (levels c.args.names.now c.args.left)) (length c.args.ts.now) c.loop.counter _ _ _ _ _ c.loop-test.true h c.in_ok-more.ensures c.loop.invariant

pub declarators::more_params-loop-preserved : goal.declarators::more_params-loop-preserved
declarators::more_params-loop-preserved t c =
    let h : (next_is (Mark mark.Comma)) c.loop.rest.now ≡ true = search rules in
    goes_on (next_is (Mark mark.Comma)) (spec.read_param_item c.args.names.now (levels c.args.names.now c.args.left)) (length c.args.ts.now) c.loop.counter _ _ _ _ _ c.loop-test.true h c.in_ok-more.ensures c.loop.invariant
