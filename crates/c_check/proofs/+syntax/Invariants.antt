use Rattle.std.proofs.Common.{◌≡◌, [], drop, map}
use Rattle.c_check.specs.Specified.{none_yet}
use Rattle.c_check.specs.Typed.{typed, links, commas, accesses, arguments, arguments_from, specifiers, specifiers_from, specifying, members, members_from, adding, declarators, enumerators, suffixes, suffixes_from, derives, params, params_from, passing}
use Rattle.c_check.proofs.+syntax.Given as goal

-- what is left to read answers as the whole
abbrev pub invariant-exprs::links-loop-link : goal.invariant-exprs::links-loop-link
invariant-exprs::links-loop-link l = links l.around l.fn.start.first l.initial.left l.more l.fn.tables ≡ links l.around l.fn.start.first l.left (drop l.link-index l.more) l.tables

abbrev pub invariant-exprs::commas-loop-next : goal.invariant-exprs::commas-loop-next
invariant-exprs::commas-loop-next l = commas l.around l.fn.start.first l.initial.left l.more l.fn.tables ≡ commas l.around l.fn.start.first l.left (drop l.next-index l.more) l.tables

abbrev pub invariant-exprs::accesses-loop-access : goal.invariant-exprs::accesses-loop-access
invariant-exprs::accesses-loop-access l = accesses l.around l.fn.first l.more l.fn.tables ≡ accesses l.around l.left (drop l.access-index l.more) l.tables

abbrev pub invariant-exprs::arguments-loop-e : goal.invariant-exprs::arguments-loop-e
invariant-exprs::arguments-loop-e l = arguments l.around l.args l.fn.tables ≡ arguments_from l.around l.done (map typed (drop l.e-index l.args)) l.tables

abbrev pub invariant-types::specifiers-loop-one : goal.invariant-types::specifiers-loop-one
invariant-types::specifiers-loop-one l = specifiers l.stored l.around l.specs l.fn.tables ≡ specifiers_from l.stored l.around l.so_far (map specifying (drop l.one-index l.specs)) l.tables

abbrev pub invariant-types::members-loop-member : goal.invariant-types::members-loop-member
invariant-types::members-loop-member l = members l.around l.list l.fn.tables ≡ members_from l.around l.layout (map adding (drop l.member-index l.list)) l.tables

abbrev pub invariant-types::declarators-loop-d : goal.invariant-types::declarators-loop-d
invariant-types::declarators-loop-d l = declarators l.around l.head l.fn.layout l.list l.fn.tables ≡ declarators l.around l.head l.layout (drop l.d-index l.list) l.tables

abbrev pub invariant-types::enumerators-loop-e : goal.invariant-types::enumerators-loop-e
invariant-types::enumerators-loop-e l = enumerators l.around 0 l.list l.fn.tables ≡ enumerators l.around l.next (drop l.e-index l.list) l.tables

abbrev pub invariant-types::suffixes-loop-suffix : goal.invariant-types::suffixes-loop-suffix
invariant-types::suffixes-loop-suffix l = suffixes l.around l.list l.fn.tables ≡ suffixes_from l.around l.done (map derives (drop l.suffix-index l.list)) l.tables

abbrev pub invariant-types::parameter_list-loop-p : goal.invariant-types::parameter_list-loop-p
invariant-types::parameter_list-loop-p l = params l.around l.list l.fn.tables ≡ params_from l.around l.done (map passing (drop l.p-index l.list)) l.tables
