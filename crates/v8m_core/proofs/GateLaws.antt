-- What the gates do where the tests on the way are known.
use Rattle.std.proofs.Common.{◌≡◌, ℕ, ◌+◌, ◌-◌, ◌%◌, ◌<◌, Bool, true, false, cond, List, [], refl, ap, ◌∙◌, arith, Some, None}
use Rattle.std.specs.Prelude.{bit_and, eqb, ◌&&◌}
use Rattle.std.proofs.lemmas.Bool.Decides.{nat_tests}
use Rattle.std.proofs.lemmas.Nat.Bits.{and_high_mask}
use Rattle.cm_base.specs.declared.stop.Stop.TheVariants as stop
use Rattle.ns_types.specs.declared.goes.Goes.TheVariants as goes
use Rattle.ns_types.specs.Turns.{Turn}
use Rattle.ns_types.specs.State.{Device, State, Memory}
use Rattle.ns_types.specs.Platform.{row, in_row, is_secure, is_nonsecure, is_in_rom, lies_in, aligned}
use Rattle.ns_types.specs.Memory.{word_at, store, put_number}
use Rattle.ns_types.specs.Boundary.{function_return, goes_or, goes_of, acted}
use Rattle.v8m_core.specs.declared.stepped.Stepped.TheVariants as what
use Rattle.ns_types.specs.Gateway.{fetched, sg_half, is_gateway, gateway_at}
use Rattle.v8m_core.specs.Step.{went, stopped, goes_in, seen, entered, handed, return_to, arrived, bxns, with_turn, turn_of, or_stopped}

pub word_at_lt : (bytes : List ℕ) (o : ℕ) → word_at bytes o < 4294967296
unfolding word_at
word_at_lt bytes o = omega arith

-- to clear bit 0 by a mask
pub clear_bit_0 : (w : ℕ) → w < 4294967296 → bit_and w 4294967294 ≡ aligned 2 w
clear_bit_0 w lt = and_high_mask 32 1 (omega arith) w lt ∙ omega arith

pub aligned_even : (w : ℕ) → aligned 2 w % 2 ≡ 0
aligned_even w = omega arith

pub aligned_twice : (w : ℕ) → w % 2 ≡ 0 → aligned 2 w ≡ w
aligned_twice w e = omega arith

-- a store leaves Non-secure ROM
pub store_ns_rom : (size a v : ℕ) (m : Memory) → (store size a v m).ns_rom ≡ m.ns_rom
unfolding store
store_ns_rom size a v m = choose (in_row 1 a) (record m { ns_ram = put_number size m.ns_ram (a - (row 1).from) v }) (record m { secure_ram = put_number size m.secure_ram (a - (row 4).from) v }) refl refl
  where
    choose : (b : Bool) (x y : Memory) → x.ns_rom ≡ m.ns_rom → y.ns_rom ≡ m.ns_rom → (cond b x y).ns_rom ≡ m.ns_rom
    choose true x y p q = p
    choose false x y p q = q

-- no gateway stands outside the Non-secure callable region
no_gateway : (device : Device) (a : ℕ) → is_nonsecure a ≡ true → is_gateway device a ≡ false
unfolding is_gateway
no_gateway device a h = let out : lies_in 3 a 4 ≡ false = grind (arith, nat_tests) in ap (λ b. b && (eqb (fetched device a) sg_half && eqb (fetched device (a + 2)) sg_half)) out

-- Non-secure memory is where a turn follows
pub goes_turn : (device : Device) (a : ℕ) → is_nonsecure a ≡ true → a % 2 ≡ 0 → goes_in device a ≡ goes.Turn
unfolding goes_in goes_of
goes_turn device a h even =
    ap (λ x. goes_or (gateway_at device x) x) (aligned_twice a even)
    ∙ ap (λ b. goes_or (cond b (Some a) None) a) (no_gateway device a h)
    ∙ (let ne : eqb a function_return ≡ false = grind (arith, nat_tests) in ap (λ b. cond b goes.Return (cond (is_nonsecure a) goes.Turn (cond (is_secure a) goes.EntryPoint goes.Astray))) ne)
    ∙ ap (λ b. cond b goes.Turn (cond (is_secure a) goes.EntryPoint goes.Astray)) h

-- where a gateway stands the entry follows
pub goes_enter : (device : Device) (t a : ℕ) → aligned 2 t ≡ a → is_gateway device a ≡ true → goes_in device t ≡ goes.Enter a
unfolding goes_in goes_of
goes_enter device t a e h = ap (λ x. goes_or (gateway_at device x) x) e ∙ ap (λ b. goes_or (cond b (Some a) None) a) h

-- BXNS to Non-secure memory hands over
pub bxns_hands : (device : Device) (v : ℕ) (s : State) → is_nonsecure v ≡ true → v % 2 ≡ 0 → bxns device v s ≡ record { state = handed v s; what = what.Given (seen s.cpu v) }
unfolding bxns
bxns_hands device v s h even =
    let a : aligned 2 v ≡ v = aligned_twice v even in
    let n : eqb (aligned 2 v) function_return ≡ false = ap (λ x. eqb x function_return) a ∙ (let ne : eqb v function_return ≡ false = grind (arith, nat_tests) in ne) in
    let z : eqb (v % 2) 0 ≡ true = grind (arith, nat_tests) in
    ap (λ b. cond b (return_to device s) (cond (eqb (v % 2) 0) (arrived device (goes_in device v) v (what.Given (seen s.cpu v)) s) (cond (is_in_rom (v - 1)) (went (record s { cpu = record s.cpu { pc = v - 1 } })) (stopped stop.BadState s)))) n
    ∙ ap (λ b. cond b (arrived device (goes_in device v) v (what.Given (seen s.cpu v)) s) (cond (is_in_rom (v - 1)) (went (record s { cpu = record s.cpu { pc = v - 1 } })) (stopped stop.BadState s))) z
    ∙ ap (λ g. arrived device g v (what.Given (seen s.cpu v)) s) (goes_turn device v h even)

-- a turn without items to a gateway enters
pub turn_enters : (device : Device) (t : Turn) (a : ℕ) (s : State) → t.items ≡ [] → aligned 2 t.target ≡ a → is_gateway device a ≡ true → turn_of device t s ≡ went (entered a (with_turn t s.memory.ns_ram s))
unfolding turn_of
turn_enters device t a s none e h =
    ap (λ items. let after = acted items s.memory.ns_ram in or_stopped after.stop (with_turn t after.ram s) (arrived device (goes_in device t.target) (aligned 2 t.target) what.Went (with_turn t after.ram s))) none
    ∙ ap (λ g. arrived device g (aligned 2 t.target) what.Went (with_turn t s.memory.ns_ram s)) (goes_enter device t.target a e h)
