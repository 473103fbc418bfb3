-- What a decoder keeps.
use Rattle.std.specs.List.{All}
use Rattle.std.proofs.Common.{◌≡◌, ◌<◌, ◌∙◌, refl, ap, sym, subst, true, List, ℕ, replicate, length, Option, None, Some, slice_index_or, slice_set}
use Rattle.std.specs.Prelude.{IsSomeAnd, slice_get}
use Rattle.std.proofs.lemmas.List.{get_or-set_same, length-replicate, length-set}
use Rattle.std.proofs.lemmas.Option.{slice_get-get_or, slice_get_read}
use Rattle.ns_types.specs.Platform.{is_in_rom}
use Rattle.std.proofs.lemmas.List.Elements.{All-replicate}
use Rattle.cm_base.specs.declared.stop.Stop.{Stop}
use Rattle.cm_base.specs.declared.stop.Stop.TheVariants as stop
use Rattle.ns_types.specs.State.{Device, State}
use Rattle.v8m_isa.specs.declared.instr.Instr.TheVariants.{Nop}
use Rattle.v8m_isa.specs.Table.{in_range_of}
use Rattle.v8m_isa.specs.Decoding.{Decoded}
use Rattle.v8m_core.specs.declared.decoder.Known.{Known}
use Rattle.v8m_core.specs.Known.{AreRead, IsAt, IsKnown, NoneAt}
use Rattle.v8m_core.specs.Step.{act_or, step_of, stopped}

abbrev pub unused : Known
unused = record { at = 0; instr = Nop; size = 2 }

pub unused_is_known : (device : Device) → IsKnown device unused
unused_is_known device = record { known = λ e. cc }

pub all_unused : (device : Device) (known : List Known) → known ≡ replicate 4096 unused → AreRead device known
all_unused device known e = subst (λ ks. All (IsKnown device) ks) (sym e) (All-replicate (IsKnown device) 4096 unused (unused_is_known device))

pub so_many : (known : List Known) → known ≡ replicate 4096 unused → length known ≡ 4096
so_many known e = ap length e ∙ length-replicate 4096 unused

-- what was put at a place is there
pub put_at : (device : Device) (pc : ℕ) (known : List Known) (i : ℕ) (k : Known) → i < length known → IsAt device pc k → IsSomeAnd (slice_get (slice_set known i k) i) (λ x. IsAt device pc x)
put_at device pc known i k lt is =
    let long : i < length (slice_set known i k) = subst (λ n. i < n) (sym (length-set known i k)) lt in
    let there : slice_get (slice_set known i k) i ≡ Some k = slice_get-get_or (slice_set known i k) i k long ∙ ap Some (get_or-set_same known i k k lt) in
    subst (λ o. IsSomeAnd o (λ x. IsAt device pc x)) (sym there) is

-- what is kept of an address of ROM is what a step there is
pub kept_at : (device : Device) (pc : ℕ) (known : List Known) (i : ℕ) (k : Known) → i < length known → k ≡ slice_index_or known i k → k.at ≡ pc → is_in_rom pc ≡ true → AreRead device known → IsSomeAnd (slice_get known i) (λ x. IsAt device pc x)
kept_at device pc known i k lt is at place all =
    let there : slice_get known i ≡ Some k = slice_get_read known (length known) i k refl lt is in
    let right : IsKnown device k = subst (λ x. IsKnown device x) (sym is) (all i k lt) in
    subst (λ o. IsSomeAnd o (λ x. IsAt device pc x)) (sym there) (record { place = at; read = right.known (ap is_in_rom at ∙ place) })

-- what was decoded of the halfwords that a step takes is what a step there is
pub read_at : (device : Device) (at : ℕ) (o : Option Decoded) → ((s : State) → s.cpu.pc ≡ at → step_of device s ≡ act_or device o s) → (k : Known) → (k.at ≡ at) × (in_range_of k.instr ≡ true) × (o ≡ Some (record { instr = k.instr; size = k.size })) → IsAt device at k
read_at device at o does k h = record { place = h.0; read = record { range = h.1; does = λ s pc. does s (pc ∙ h.0) ∙ ap (λ d. act_or device d s) h.2 } }

pub none_at : (device : Device) (at : ℕ) (o : Option Decoded) → ((s : State) → s.cpu.pc ≡ at → step_of device s ≡ act_or device o s) → (why : Stop) → (why ≡ stop.Undefined) × (o ≡ None) → NoneAt device at why
none_at device at o does why h = λ s pc. does s pc ∙ ap (λ d. act_or device d s) h.1 ∙ ap (λ x. stopped x s) (sym h.0)
