-- What a step is, by the halfwords that are fetched.
use Rattle.std.proofs.Common.{◌≡◌, ◌+◌, ℕ, true, false, refl, sym, ap, Option, Some, None}
use Rattle.std.specs.Prelude.{option_map}
use Rattle.v8m_isa.specs.declared.instr.Instr.{Instr}
use Rattle.v8m_isa.specs.Decoding.{Decoded, decode_of, is_narrow, pair_of}
use Rattle.ns_types.specs.State.{Device, State}
use Rattle.ns_types.specs.Platform.{is_in_rom}
use Rattle.cm_base.specs.declared.stop.Stop.TheVariants as stop
use Rattle.ns_types.specs.Gateway.{fetched}
use Rattle.v8m_core.specs.Step.{act_or, step_of, stopped}

-- what was decoded, by the pair that the code has
pub read_none : (o : Option Decoded) → None ≡ option_map pair_of o → o ≡ None
read_none None e = refl
read_none (Some d) e = cc

pub read_some : (o : Option Decoded) (i : Instr) (n : ℕ) → Some (i, n) ≡ option_map pair_of o → o ≡ Some (record { instr = i; size = n })
read_some None i n e = cc
read_some (Some d) i n e =
    let p : (i, n) ≡ pair_of d = cc in
    ap (λ q. Some (record { instr = q.0; size = q.1 })) (sym p)

-- a step at an address of ROM, by what is read there
pub step_narrow : (device : Device) (at first : ℕ) → is_in_rom at ≡ true → first ≡ fetched device at → is_narrow first ≡ true → (s : State) → s.cpu.pc ≡ at → step_of device s ≡ act_or device (decode_of first 0) s
unfolding step_of
step_narrow device at first place is narrow s pc = rw (pc, place, sym is, narrow) refl

pub step_wide : (device : Device) (at first second : ℕ) → is_in_rom at ≡ true → first ≡ fetched device at → is_narrow first ≡ false → is_in_rom (at + 2) ≡ true → second ≡ fetched device (at + 2) → (s : State) → s.cpu.pc ≡ at → step_of device s ≡ act_or device (decode_of first second) s
unfolding step_of
step_wide device at first second place is narrow behind is2 s pc = rw (pc, place, sym is, narrow, behind, sym is2) refl

pub step_short : (device : Device) (at first : ℕ) → is_in_rom at ≡ true → first ≡ fetched device at → is_narrow first ≡ false → is_in_rom (at + 2) ≡ false → (s : State) → s.cpu.pc ≡ at → step_of device s ≡ stopped stop.BadState s
unfolding step_of
step_short device at first place is narrow behind s pc = rw (pc, place, sym is, narrow, behind) refl

pub step_out : (device : Device) (s : State) (at : ℕ) → s.cpu.pc ≡ at → is_in_rom at ≡ false → step_of device s ≡ stopped stop.BadState s
unfolding step_of
step_out device s at pc place = rw (pc, place) refl
