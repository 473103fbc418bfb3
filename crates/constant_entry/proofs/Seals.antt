-- What the start code leaves in memory, and the stacks where it hands over.
use Rattle.std.proofs.Common.{◌≡◌, ℕ, ◌+◌, ◌≤◌, List, length, refl, ap, ◌∙◌, subst, sym, inl, inr, arith}
use Rattle.ns_types.specs.State.{Device, State}
use Rattle.ns_types.specs.Platform.{aligned}
use Rattle.ns_types.specs.Memory.{word_at, store, put_word, secure_ram_size}
use Rattle.ns_types.specs.Boundary.{reset_address}
use Rattle.ns_types.specs.SecureRam.{data_start, main_seal, process_seal, data_pointer, seal_word, ram_place}
use Rattle.v8m_core.specs.Step.{seen, handed}
use Rattle.v8m_core.specs.Code.{HasCode}
use Rattle.v8m_core.specs.Reset.{reset_of}
use Rattle.v8m_core.proofs.GateLaws.{aligned_even}
use Rattle.v8m_core.proofs.Words.{same_word, other_word, length-put_word}
use Rattle.ns_turns.specs.FirstHandOver.{IsSealed, AlwaysHandsOverSealed}
use Rattle.constant_entry.specs.Code.{start_code, start_place}
use Rattle.constant_entry.specs.Shows.{GivesConstant}
use Rattle.constant_entry.proofs.States.{sealed, handing}
use Rattle.constant_entry.proofs.Views.{leaves, even_nonsecure, starts, start_lr}

-- Secure RAM behind each of the four stores of a seal word, and behind that of the data stack's pointer
abbrev one : List ℕ → List ℕ
one ram = put_word ram (ram_place process_seal) seal_word

abbrev two : List ℕ → List ℕ
two ram = put_word (one ram) (ram_place (process_seal + 4)) seal_word

abbrev three : List ℕ → List ℕ
three ram = put_word (two ram) (ram_place main_seal) seal_word

abbrev four : List ℕ → List ℕ
four ram = put_word (three ram) (ram_place (main_seal + 4)) seal_word

abbrev five : List ℕ → List ℕ
five ram = put_word (four ram) (ram_place data_pointer) data_start

secure_ram : (s : State) → (sealed s).memory.secure_ram ≡ five s.memory.secure_ram
unfolding store
secure_ram s = refl

-- and Non-secure RAM stays
pub ram_stands : (s : State) → (sealed s).memory.ns_ram ≡ s.memory.ns_ram
unfolding store
ram_stands s = refl

-- a word that was just written
written : (row : List ℕ) (o : ℕ) → length row ≡ secure_ram_size → o + 4 ≤ secure_ram_size → word_at (put_word row o seal_word) o ≡ seal_word
written row o len le = same_word row o seal_word (subst (λ k. o + 4 ≤ k) (sym len) le) (omega arith)

module _ (s : State) (len : length s.memory.secure_ram ≡ secure_ram_size) where
  abbrev ram : List ℕ
  ram = s.memory.secure_ram

  length_one : length (one ram) ≡ secure_ram_size
  length_one = length-put_word ram (ram_place process_seal) seal_word ∙ len

  length_two : length (two ram) ≡ secure_ram_size
  length_two = length-put_word (one ram) (ram_place (process_seal + 4)) seal_word ∙ length_one

  length_three : length (three ram) ≡ secure_ram_size
  length_three = length-put_word (two ram) (ram_place main_seal) seal_word ∙ length_two

  pub main_high : word_at (sealed s).memory.secure_ram (ram_place (main_seal + 4)) ≡ seal_word
  main_high =
      ap (λ r. word_at r (ram_place (main_seal + 4))) (secure_ram s)
      ∙ other_word (four ram) (ram_place data_pointer) (ram_place (main_seal + 4)) data_start (inl (omega arith))
      ∙ written (three ram) (ram_place (main_seal + 4)) length_three (omega arith)

  main_low : word_at (sealed s).memory.secure_ram (ram_place main_seal) ≡ seal_word
  main_low =
      ap (λ r. word_at r (ram_place main_seal)) (secure_ram s)
      ∙ other_word (four ram) (ram_place data_pointer) (ram_place main_seal) data_start (inl (omega arith))
      ∙ other_word (three ram) (ram_place (main_seal + 4)) (ram_place main_seal) seal_word (inl (omega arith))
      ∙ written (two ram) (ram_place main_seal) length_two (omega arith)

  process_high : word_at (sealed s).memory.secure_ram (ram_place (process_seal + 4)) ≡ seal_word
  process_high =
      ap (λ r. word_at r (ram_place (process_seal + 4))) (secure_ram s)
      ∙ other_word (four ram) (ram_place data_pointer) (ram_place (process_seal + 4)) data_start (inl (omega arith))
      ∙ other_word (three ram) (ram_place (main_seal + 4)) (ram_place (process_seal + 4)) seal_word (inr (omega arith))
      ∙ other_word (two ram) (ram_place main_seal) (ram_place (process_seal + 4)) seal_word (inr (omega arith))
      ∙ written (one ram) (ram_place (process_seal + 4)) length_one (omega arith)

  process_low : word_at (sealed s).memory.secure_ram (ram_place process_seal) ≡ seal_word
  process_low =
      ap (λ r. word_at r (ram_place process_seal)) (secure_ram s)
      ∙ other_word (four ram) (ram_place data_pointer) (ram_place process_seal) data_start (inl (omega arith))
      ∙ other_word (three ram) (ram_place (main_seal + 4)) (ram_place process_seal) seal_word (inr (omega arith))
      ∙ other_word (two ram) (ram_place main_seal) (ram_place process_seal) seal_word (inr (omega arith))
      ∙ other_word (one ram) (ram_place (process_seal + 4)) (ram_place process_seal) seal_word (inl (omega arith))
      ∙ written ram (ram_place process_seal) len (omega arith)

  is_sealed : s.cpu.regs.sp ≡ main_seal → (a : ℕ) → IsSealed (handed a (handing (sealed s)))
  is_sealed sp a = record {
    msp = sp;
    main_limit = refl;
    psp = refl;
    process_limit = refl;
    main_low = main_low;
    main_high = main_high;
    process_low = process_low;
    process_high = process_high;
  }

pub hands_over_sealed : (device : Device) (n : ℕ) → GivesConstant device n → AlwaysHandsOverSealed device
hands_over_sealed device n h start whole outside =
    let s = reset_of device start in
    let place : s.cpu.pc ≡ start_place = ap (aligned 2) h.reset in
    let begun = starts device s (subst (λ p. HasCode device p start_code) (sym place) h.start) in
    let t1 = handing (sealed s) in
    let v = reset_address start in
    record {
      steps = 41;
      last = t1;
      comes = begun.0;
      view = seen t1.cpu v;
      handed = handed v t1;
      hands = leaves device t1 v begun.1 (start_lr start s refl) (even_nonsecure (word_at start.ns_rom 4) outside) (aligned_even (word_at start.ns_rom 4));
      sealed = is_sealed s whole.secure_ram (ap (aligned 4) h.stack) v;
    }
