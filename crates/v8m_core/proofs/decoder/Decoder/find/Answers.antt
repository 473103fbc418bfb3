use Rattle.std.proofs.Common.{◌≡◌, ◌<◌, ◌/◌, ◌%◌, ◌∙◌, sym, subst, true, false, length, arith}
use Rattle.std.specs.Prelude.{IsSomeAnd, slice_get}
use Rattle.v8m_core.specs.Known.{AreRead, IsAt}
use Rattle.ns_types.specs.Platform.{is_in_rom}
use Rattle.v8m_core.proofs.KnownLaws.{kept_at, put_at}
use Rattle.v8m_core.proofs.Steps.{step_out}
use Rattle.v8m_core.proofs.decoder.Decoder.find.Goals as goal

pub returns-then-not-is_in_rom-clause-err : goal.returns-then-not-is_in_rom-clause-err
returns-then-not-is_in_rom-clause-err c =
    let place : is_in_rom c.args.pc ≡ false = sym c.is_in_rom.ensures ∙ c.if-not-is_in_rom.true in
    λ s pc. step_out c.args.memory.now.device s c.args.pc pc place

pub returns-in_ok-self-inside-clause-ok : goal.returns-in_ok-self-inside-clause-ok
returns-in_ok-self-inside-clause-ok c =
    let place : is_in_rom c.args.pc ≡ true = sym c.is_in_rom.ensures ∙ c.if-not-is_in_rom.false in
    let inside : c.args.pc / 2 % 4096 < length c.self.inside.known.items = omega (arith, c.self.invariant) in
    (place, put_at c.args.memory.now.device c.args.pc c.self.inside.known.items (c.args.pc / 2 % 4096) c.in_ok-self-inside.field-0 inside c.in_ok-self-inside.ensures.ok)

pub returns-else-index-pc-clause-ok : goal.returns-else-index-pc-clause-ok
returns-else-index-pc-clause-ok c =
    let place : is_in_rom c.args.pc ≡ true = sym c.is_in_rom.ensures ∙ c.if-not-is_in_rom.false in
    let inside : c.args.pc / 2 % 4096 < length c.self.inside.known.items = omega (arith, c.self.invariant) in
    let device = c.args.memory.now.device in
    let known = c.self.inside.known.items in
    let all : AreRead device known = subst (λ l. AreRead device l) (sym c.self.view_is) c.requires in
    let there = kept_at device c.args.pc known (c.args.pc / 2 % 4096) c.index.result.now inside c.index.ensures c.if-index-pc.false place all in
    (place, subst (λ l. IsSomeAnd (slice_get l (c.args.pc / 2 % 4096)) (λ k. IsAt device c.args.pc k)) c.self.view_is there)
