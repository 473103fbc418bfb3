use Rattle.std.proofs.Common.{◌∙◌, sym}
use Rattle.std.proofs.lemmas.Result.{IfErr-weaker, IfOk-weaker}
use Rattle.v8m_core.proofs.KnownLaws.{none_at, read_at}
use Rattle.v8m_core.proofs.Steps.{step_narrow, step_short, step_wide}
use Rattle.v8m_core.proofs.decoder.read.Goals as goal

pub returns-then-is_narrow-clause-ok : goal.returns-then-is_narrow-clause-ok
returns-then-is_narrow-clause-ok c =
    let narrow = sym c.is_narrow.ensures ∙ c.if-is_narrow.true in
    let does = step_narrow c.args.memory.now.device c.args.at c.half-first.result c.requires c.half-first.ensures narrow in
    IfOk-weaker c.decoded.result _ _ (read_at c.args.memory.now.device c.args.at _ does) c.decoded.ensures.ok

pub returns-then-is_narrow-clause-err : goal.returns-then-is_narrow-clause-err
returns-then-is_narrow-clause-err c =
    let narrow = sym c.is_narrow.ensures ∙ c.if-is_narrow.true in
    let does = step_narrow c.args.memory.now.device c.args.at c.half-first.result c.requires c.half-first.ensures narrow in
    IfErr-weaker c.decoded.result _ _ (none_at c.args.memory.now.device c.args.at _ does) c.decoded.ensures.err

pub returns-then-not-is_in_rom-clause-err : goal.returns-then-not-is_in_rom-clause-err
returns-then-not-is_in_rom-clause-err c =
    let wide = sym c.is_narrow.ensures ∙ c.if-is_narrow.false in
    step_short c.args.memory.now.device c.args.at c.half-first.result c.requires c.half-first.ensures wide (sym c.is_in_rom.ensures ∙ c.if-not-is_in_rom.true)

pub returns-clause-ok : goal.returns-clause-ok
returns-clause-ok c =
    let wide = sym c.is_narrow.ensures ∙ c.if-is_narrow.false in
    let does = step_wide c.args.memory.now.device c.args.at c.half-first.result c.half.result c.requires c.half-first.ensures wide (sym c.is_in_rom.ensures ∙ c.if-not-is_in_rom.false) c.half.ensures in
    IfOk-weaker c.decoded-2.result _ _ (read_at c.args.memory.now.device c.args.at _ does) c.decoded-2.ensures.ok

pub returns-clause-err : goal.returns-clause-err
returns-clause-err c =
    let wide = sym c.is_narrow.ensures ∙ c.if-is_narrow.false in
    let does = step_wide c.args.memory.now.device c.args.at c.half-first.result c.half.result c.requires c.half-first.ensures wide (sym c.is_in_rom.ensures ∙ c.if-not-is_in_rom.false) c.half.ensures in
    IfErr-weaker c.decoded-2.result _ _ (none_at c.args.memory.now.device c.args.at _ does) c.decoded-2.ensures.err
