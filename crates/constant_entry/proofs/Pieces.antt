-- The runs of the start code and of an entry that gives a constant.
use Rattle.std.proofs.Common.{◌≡◌, ℕ, ◌+◌, ◌*◌, ◌/◌, ◌%◌, refl, ap, arith}
use Rattle.v8m_isa.specs.Table.{size_of}
use Rattle.ns_types.specs.State.{Device, State}
use Rattle.ns_types.specs.Platform.{is_readable, is_writable}
use Rattle.ns_types.specs.Memory.{load}
use Rattle.v8m_core.specs.Step.{effect_of, apply, write_register, load_stop, store_stop, went, put}
use Rattle.v8m_core.specs.Code.{HasCode, Comes, Does}
use Rattle.constant_entry.specs.Code.{stacks_code, hand_code, entry_front}
use Rattle.constant_entry.proofs.States.{sealed, handing, answering}
use Rattle.v8m_core.proofs.Runs.{straight}

pub seal_does : (device : Device) (s : State) → Does device stacks_code s (sealed s)
unfolding size_of effect_of apply write_register load_stop store_stop is_readable is_writable
seal_does device s =
    (_, refl, refl, (_, refl, refl, (_, refl, refl, (_, refl, refl, (_, refl, refl, (_, refl, refl, (_, refl, refl, (_, refl, refl, (_, refl, refl, (_, refl, refl, (_, refl, refl, (_, refl, refl, (_, refl, refl, (_, refl, refl, (_, refl, refl, (_, refl, refl, (_, refl, refl, (_, refl, refl, (_, refl, refl, (_, refl, refl, (_, refl, refl, (_, refl, tt, refl))))))))))))))))))))))

pub seal_runs : (device : Device) (s : State) → HasCode device s.cpu.pc stacks_code → Comes device 22 s (sealed s)
seal_runs device s has = straight device stacks_code s (sealed s) has (seal_does device s)

pub hand_does : (device : Device) (s : State) → Does device hand_code s (handing s)
unfolding size_of effect_of apply write_register load_stop load is_readable
hand_does device s =
    (_, refl, refl, (_, refl, refl, (_, refl, refl, (_, refl, refl, (_, refl, refl, (_, refl, refl, (_, refl, refl, (_, refl, refl, (_, refl, refl, (_, refl, refl, (_, refl, refl, (_, refl, refl, (_, refl, refl, (_, refl, refl, (_, refl, refl, (_, refl, refl, (_, refl, refl, (_, refl, refl, (_, refl, tt, refl)))))))))))))))))))

pub hand_runs : (device : Device) (s : State) → HasCode device s.cpu.pc hand_code → Comes device 19 s (handing s)
hand_runs device s has = straight device hand_code s (handing s) has (hand_does device s)

-- two halves make a number
halves : (n : ℕ) → 65536 * (n / 65536) + n % 65536 % 65536 ≡ n
halves n = omega arith

pub answer_does : (device : Device) (n : ℕ) (s : State) → Does device (entry_front n) s (answering n s)
unfolding size_of effect_of apply write_register
answer_does device n s =
    (_, refl, refl, (_, ap (λ v. went (put 4 0 v (put 4 0 (n % 65536) s))) (halves n), refl, (_, refl, refl, (_, refl, refl, (_, refl, refl, (_, refl, refl, (_, refl, tt, refl)))))))

pub answer_runs : (device : Device) (n : ℕ) (s : State) → HasCode device s.cpu.pc (entry_front n) → Comes device 7 s (answering n s)
answer_runs device n s has = straight device (entry_front n) s (answering n s) has (answer_does device n s)
