use Rattle.std.proofs.Common.{length}
use Rattle.ns_script.proofs.NumberLaws.{empty_yes}
use Rattle.ns_script.proofs.ScriptLaws.{script_none}
use Rattle.ns_script.proofs.script.read_script.Goals as goal

pub returns-then-is_empty-clause-exact : goal.returns-then-is_empty-clause-exact
returns-then-is_empty-clause-exact c =
    script_none c.args.bytes.now (empty_yes (length c.args.bytes.now) c.is_empty.result c.is_empty.ensures c.if-is_empty.true)
