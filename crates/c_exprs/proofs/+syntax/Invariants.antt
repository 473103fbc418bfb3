use Rattle.std.proofs.Common.{◌≡◌, ◌+◌, ◌-◌, ◌*◌, length}
use Rattle.c_lex.specs.declared.token.Punct.TheVariants as mark
use Rattle.c_grammar.specs.declared.tokens.Sign.TheVariants.{Mark}
use Rattle.c_grammar.specs.Tokens.{next_is, has, op_of, begins_access, begins_spec, begins_suffix, comma_more}
use Rattle.c_grammar.specs.Reading.{levels}
use Rattle.c_grammar.specs.Reading as spec
use Rattle.c_exprs.proofs.+syntax.Given as goal

abbrev pub decreases-exprs::expr : goal.decreases-exprs::expr
decreases-exprs::expr l = l.left * 64 + 3

abbrev pub decreases-exprs::comma_item : goal.decreases-exprs::comma_item
decreases-exprs::comma_item l = l.left * 64 + 1

abbrev pub decreases-exprs::more_commas : goal.decreases-exprs::more_commas
decreases-exprs::more_commas l = l.left * 64 + 2

abbrev pub decreases-exprs::expr_item : goal.decreases-exprs::expr_item
decreases-exprs::expr_item l = l.left * 64 + 1

abbrev pub decreases-exprs::more_exprs : goal.decreases-exprs::more_exprs
decreases-exprs::more_exprs l = l.left * 64 + 2

abbrev pub decreases-exprs::assign : goal.decreases-exprs::assign
decreases-exprs::assign l = l.left * 64 + 0

abbrev pub decreases-exprs::assigned : goal.decreases-exprs::assigned
decreases-exprs::assigned l = l.left * 64 + 1

abbrev pub decreases-exprs::cond : goal.decreases-exprs::cond
decreases-exprs::cond l = l.left * 64 + 0

abbrev pub decreases-exprs::chosen : goal.decreases-exprs::chosen
decreases-exprs::chosen l = l.left * 64 + 4

abbrev pub decreases-exprs::op_item : goal.decreases-exprs::op_item
decreases-exprs::op_item l = l.left * 64 + 2 + 3 * l.level

abbrev pub decreases-exprs::more_ops : goal.decreases-exprs::more_ops
decreases-exprs::more_ops l = l.left * 64 + 3 + 3 * l.level

abbrev pub decreases-exprs::binary : goal.decreases-exprs::binary
decreases-exprs::binary l = l.left * 64 + 1 + 3 * l.level

abbrev pub decreases-exprs::cast : goal.decreases-exprs::cast
decreases-exprs::cast l = l.left * 64 + 0

abbrev pub decreases-exprs::converted : goal.decreases-exprs::converted
decreases-exprs::converted l = l.left * 64 + 13

abbrev pub decreases-exprs::unary : goal.decreases-exprs::unary
decreases-exprs::unary l = l.left * 64 + 10

abbrev pub decreases-exprs::prefixed : goal.decreases-exprs::prefixed
decreases-exprs::prefixed l = l.left * 64 + 1

abbrev pub decreases-exprs::stepped : goal.decreases-exprs::stepped
decreases-exprs::stepped l = l.left * 64 + 0

abbrev pub decreases-exprs::step_before : goal.decreases-exprs::step_before
decreases-exprs::step_before l = l.left * 64 + 11

abbrev pub decreases-exprs::size_of : goal.decreases-exprs::size_of
decreases-exprs::size_of l = l.left * 64 + 14

abbrev pub decreases-exprs::sizeof_type : goal.decreases-exprs::sizeof_type
decreases-exprs::sizeof_type l = l.left * 64 + 13

abbrev pub decreases-exprs::sizeof_expr : goal.decreases-exprs::sizeof_expr
decreases-exprs::sizeof_expr l = l.left * 64 + 11

abbrev pub decreases-exprs::postfix : goal.decreases-exprs::postfix
decreases-exprs::postfix l = l.left * 64 + 9

abbrev pub decreases-exprs::access_item : goal.decreases-exprs::access_item
decreases-exprs::access_item l = l.left * 64 + 7

abbrev pub decreases-exprs::accesses : goal.decreases-exprs::accesses
decreases-exprs::accesses l = l.left * 64 + 8

abbrev pub decreases-exprs::access : goal.decreases-exprs::access
decreases-exprs::access l = l.left * 64 + 6

abbrev pub decreases-exprs::indexed : goal.decreases-exprs::indexed
decreases-exprs::indexed l = l.left * 64 + 4

abbrev pub decreases-exprs::called : goal.decreases-exprs::called
decreases-exprs::called l = l.left * 64 + 5

abbrev pub decreases-exprs::args : goal.decreases-exprs::args
decreases-exprs::args l = l.left * 64 + 4

abbrev pub decreases-exprs::some_args : goal.decreases-exprs::some_args
decreases-exprs::some_args l = l.left * 64 + 3

abbrev pub decreases-exprs::primary : goal.decreases-exprs::primary
decreases-exprs::primary l = l.left * 64 + 5

abbrev pub decreases-exprs::grouped : goal.decreases-exprs::grouped
decreases-exprs::grouped l = l.left * 64 + 4

abbrev pub decreases-types::typename : goal.decreases-types::typename
decreases-types::typename l = l.left * 64 + 12

abbrev pub decreases-types::specs : goal.decreases-types::specs
decreases-types::specs l = l.left * 64 + 11

abbrev pub decreases-types::spec_item : goal.decreases-types::spec_item
decreases-types::spec_item l = l.left * 64 + 9

abbrev pub decreases-types::more_specs : goal.decreases-types::more_specs
decreases-types::more_specs l = l.left * 64 + 10

abbrev pub decreases-types::spec : goal.decreases-types::spec
decreases-types::spec l = l.left * 64 + 8

abbrev pub decreases-types::struct_spec : goal.decreases-types::struct_spec
decreases-types::struct_spec l = l.left * 64 + 0

abbrev pub decreases-types::struct_named : goal.decreases-types::struct_named
decreases-types::struct_named l = l.left * 64 + 16

abbrev pub decreases-types::members : goal.decreases-types::members
decreases-types::members l = l.left * 64 + 15

abbrev pub decreases-types::member_item : goal.decreases-types::member_item
decreases-types::member_item l = l.left * 64 + 13

abbrev pub decreases-types::more_members : goal.decreases-types::more_members
decreases-types::more_members l = l.left * 64 + 14

abbrev pub decreases-types::member : goal.decreases-types::member
decreases-types::member l = l.left * 64 + 12

abbrev pub decreases-types::declarator_item : goal.decreases-types::declarator_item
decreases-types::declarator_item l = l.left * 64 + 1

abbrev pub decreases-types::more_declarators : goal.decreases-types::more_declarators
decreases-types::more_declarators l = l.left * 64 + 2

abbrev pub decreases-types::enum_spec : goal.decreases-types::enum_spec
decreases-types::enum_spec l = l.left * 64 + 7

abbrev pub decreases-types::enum_named : goal.decreases-types::enum_named
decreases-types::enum_named l = l.left * 64 + 6

abbrev pub decreases-types::enumrs : goal.decreases-types::enumrs
decreases-types::enumrs l = l.left * 64 + 5

abbrev pub decreases-types::enumr_item : goal.decreases-types::enumr_item
decreases-types::enumr_item l = l.left * 64 + 3

abbrev pub decreases-types::more_enumrs : goal.decreases-types::more_enumrs
decreases-types::more_enumrs l = l.left * 64 + 4

abbrev pub decreases-types::enumr : goal.decreases-types::enumr
decreases-types::enumr l = l.left * 64 + 2

abbrev pub decreases-types::enumr_value : goal.decreases-types::enumr_value
decreases-types::enumr_value l = l.left * 64 + 1

abbrev pub decreases-declarators::declarator : goal.decreases-declarators::declarator
decreases-declarators::declarator l = l.left * 64 + 0

abbrev pub decreases-declarators::plain_declarator : goal.decreases-declarators::plain_declarator
decreases-declarators::plain_declarator l = l.left * 64 + 21

abbrev pub decreases-declarators::group_declarator : goal.decreases-declarators::group_declarator
decreases-declarators::group_declarator l = l.left * 64 + 21

abbrev pub decreases-declarators::suffix_item : goal.decreases-declarators::suffix_item
decreases-declarators::suffix_item l = l.left * 64 + 19

abbrev pub decreases-declarators::suffixes : goal.decreases-declarators::suffixes
decreases-declarators::suffixes l = l.left * 64 + 20

abbrev pub decreases-declarators::suffix : goal.decreases-declarators::suffix
decreases-declarators::suffix l = l.left * 64 + 18

abbrev pub decreases-declarators::array_suffix : goal.decreases-declarators::array_suffix
decreases-declarators::array_suffix l = l.left * 64 + 2

abbrev pub decreases-declarators::opt_cond : goal.decreases-declarators::opt_cond
decreases-declarators::opt_cond l = l.left * 64 + 1

abbrev pub decreases-declarators::params_suffix : goal.decreases-declarators::params_suffix
decreases-declarators::params_suffix l = l.left * 64 + 17

abbrev pub decreases-declarators::params : goal.decreases-declarators::params
decreases-declarators::params l = l.left * 64 + 16

abbrev pub decreases-declarators::some_params : goal.decreases-declarators::some_params
decreases-declarators::some_params l = l.left * 64 + 15

abbrev pub decreases-declarators::param_item : goal.decreases-declarators::param_item
decreases-declarators::param_item l = l.left * 64 + 13

abbrev pub decreases-declarators::more_params : goal.decreases-declarators::more_params
decreases-declarators::more_params l = l.left * 64 + 14

abbrev pub decreases-declarators::param : goal.decreases-declarators::param
decreases-declarators::param l = l.left * 64 + 12

abbrev pub decreases-declarators::either : goal.decreases-declarators::either
decreases-declarators::either l = l.left * 64 + 0

abbrev pub decreases-declarators::after_stars : goal.decreases-declarators::after_stars
decreases-declarators::after_stars l = l.left * 64 + 22

abbrev pub decreases-declarators::plain_either : goal.decreases-declarators::plain_either
decreases-declarators::plain_either l = l.left * 64 + 21

abbrev pub decreases-declarators::named_either : goal.decreases-declarators::named_either
decreases-declarators::named_either l = l.left * 64 + 21

abbrev pub decreases-declarators::group_either : goal.decreases-declarators::group_either
decreases-declarators::group_either l = l.left * 64 + 21

abbrev pub decreases-declarators::bare_either : goal.decreases-declarators::bare_either
decreases-declarators::bare_either l = l.left * 64 + 21

abbrev pub decreases-declarators::nameless : goal.decreases-declarators::nameless
decreases-declarators::nameless l = l.left * 64 + 0

abbrev pub decreases-declarators::group_abstract : goal.decreases-declarators::group_abstract
decreases-declarators::group_abstract l = l.left * 64 + 21

abbrev pub invariant-exprs::more_commas-loop : goal.invariant-exprs::more_commas-loop
invariant-exprs::more_commas-loop l = spec.repeat (next_is (Mark mark.Comma)) (spec.read_comma_item l.names (levels l.names l.left)) (length l.fn.ts - l.counter) l.all l.rest ≡ spec.repeat (next_is (Mark mark.Comma)) (spec.read_comma_item l.names (levels l.names l.left)) (length l.fn.ts) l.fn.so_far l.fn.ts

abbrev pub invariant-exprs::more_exprs-loop : goal.invariant-exprs::more_exprs-loop
invariant-exprs::more_exprs-loop l = spec.repeat (next_is (Mark mark.Comma)) (spec.read_expr_item l.names (levels l.names l.left)) (length l.fn.ts - l.counter) l.all l.rest ≡ spec.repeat (next_is (Mark mark.Comma)) (spec.read_expr_item l.names (levels l.names l.left)) (length l.fn.ts) l.fn.so_far l.fn.ts

abbrev pub invariant-exprs::more_ops-loop : goal.invariant-exprs::more_ops-loop
invariant-exprs::more_ops-loop l = spec.repeat (has (op_of l.level)) (spec.read_op_item (spec.read_binary (levels l.names l.left) l.level) l.level) (length l.fn.ts - l.counter) l.all l.rest ≡ spec.repeat (has (op_of l.level)) (spec.read_op_item (spec.read_binary (levels l.names l.left) l.level) l.level) (length l.fn.ts) l.fn.so_far l.fn.ts

abbrev pub invariant-exprs::accesses-loop : goal.invariant-exprs::accesses-loop
invariant-exprs::accesses-loop l = spec.repeat (begins_access) (spec.read_access_item l.names (levels l.names l.left)) (length l.fn.ts - l.counter) l.all l.rest ≡ spec.repeat (begins_access) (spec.read_access_item l.names (levels l.names l.left)) (length l.fn.ts) l.fn.so_far l.fn.ts

abbrev pub invariant-types::more_specs-loop : goal.invariant-types::more_specs-loop
invariant-types::more_specs-loop l = spec.repeat (begins_spec l.names) (spec.read_spec_item l.names (levels l.names l.left)) (length l.fn.ts - l.counter) l.all l.rest ≡ spec.repeat (begins_spec l.names) (spec.read_spec_item l.names (levels l.names l.left)) (length l.fn.ts) l.fn.so_far l.fn.ts

abbrev pub invariant-types::more_members-loop : goal.invariant-types::more_members-loop
invariant-types::more_members-loop l = spec.repeat (begins_spec l.names) (spec.read_member_item l.names (levels l.names l.left)) (length l.fn.ts - l.counter) l.all l.rest ≡ spec.repeat (begins_spec l.names) (spec.read_member_item l.names (levels l.names l.left)) (length l.fn.ts) l.fn.so_far l.fn.ts

abbrev pub invariant-types::more_declarators-loop : goal.invariant-types::more_declarators-loop
invariant-types::more_declarators-loop l = spec.repeat (next_is (Mark mark.Comma)) (spec.read_declarator_item l.names (levels l.names l.left)) (length l.fn.ts - l.counter) l.all l.rest ≡ spec.repeat (next_is (Mark mark.Comma)) (spec.read_declarator_item l.names (levels l.names l.left)) (length l.fn.ts) l.fn.so_far l.fn.ts

abbrev pub invariant-types::more_enumrs-loop : goal.invariant-types::more_enumrs-loop
invariant-types::more_enumrs-loop l = spec.repeat (comma_more) (spec.read_enumr_item l.names (levels l.names l.left)) (length l.fn.ts - l.counter) l.all l.rest ≡ spec.repeat (comma_more) (spec.read_enumr_item l.names (levels l.names l.left)) (length l.fn.ts) l.fn.so_far l.fn.ts

abbrev pub invariant-declarators::suffixes-loop : goal.invariant-declarators::suffixes-loop
invariant-declarators::suffixes-loop l = spec.repeat (begins_suffix) (spec.read_suffix_item l.names (levels l.names l.left)) (length l.fn.ts - l.counter) l.all l.rest ≡ spec.repeat (begins_suffix) (spec.read_suffix_item l.names (levels l.names l.left)) (length l.fn.ts) l.fn.so_far l.fn.ts

abbrev pub invariant-declarators::more_params-loop : goal.invariant-declarators::more_params-loop
invariant-declarators::more_params-loop l = spec.repeat (next_is (Mark mark.Comma)) (spec.read_param_item l.names (levels l.names l.left)) (length l.fn.ts - l.counter) l.all l.rest ≡ spec.repeat (next_is (Mark mark.Comma)) (spec.read_param_item l.names (levels l.names l.left)) (length l.fn.ts) l.fn.so_far l.fn.ts
