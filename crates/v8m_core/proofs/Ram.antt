-- Words of RAM that are written and read again.
use Rattle.std.proofs.Common.{◌≡◌, ℕ, ◌+◌, ◌-◌, ◌<◌, ◌≤◌, ◌⊎◌, Bool, true, false, cond, refl, sym, ap, ◌∙◌, ⊎_elim, inl, inr, arith}
use Rattle.std.specs.Prelude.{◌||◌}
use Rattle.std.proofs.lemmas.Bool.Decides.{nat_tests}
use Rattle.cm_base.specs.declared.regions.TheConstants.{NS_RAM, SECURE_DATA, SECURE_CONTROL}
use Rattle.ns_types.specs.State.{Device, Memory}
use Rattle.ns_types.specs.Platform.{row, in_row, lies_in, is_readable, is_writable}
use Rattle.ns_types.specs.Memory.{IsWhole, word_at, put_word, load, store}
use Rattle.v8m_core.proofs.Words.{same_word, other_word, length-put_number}

-- where a word can be written: Non-secure RAM, or Secure RAM
pub record InNs (a : ℕ) : Type 0 where
  pub secure : (in_row 4 a || in_row 5 a) ≡ false
  pub ns : in_row 1 a ≡ true
  pub from : NS_RAM.from ≤ a
  pub to : a + 4 ≤ NS_RAM.to

pub record InSecure (a : ℕ) : Type 0 where
  pub secure : (in_row 4 a || in_row 5 a) ≡ true
  pub ns : in_row 1 a ≡ false
  pub from : SECURE_DATA.from ≤ a
  pub to : a + 4 ≤ SECURE_CONTROL.to

in_ns : (a : ℕ) → lies_in 1 a 4 ≡ true → InNs a
in_ns a h =
    let lo : NS_RAM.from ≤ a = grind (arith, nat_tests) in
    let hi : a + 4 ≤ NS_RAM.to = grind (arith, nat_tests) in
    record { secure = grind (arith, nat_tests); ns = grind (arith, nat_tests); from = lo; to = hi }

in_secure : (a : ℕ) → (lies_in 4 a 4 || lies_in 5 a 4) ≡ true → InSecure a
in_secure a h =
    let lo : SECURE_DATA.from ≤ a = grind (arith, nat_tests) in
    let hi : a + 4 ≤ SECURE_CONTROL.to = grind (arith, nat_tests) in
    record { secure = grind (arith, nat_tests); ns = grind (arith, nat_tests); from = lo; to = hi }

pick : (a : ℕ) (b d : Bool) → lies_in 1 a 4 ≡ b → (lies_in 4 a 4 || lies_in 5 a 4) ≡ d → (b || d) ≡ true → InNs a ⊎ InSecure a
pick a true d p q h = inl (in_ns a p)
pick a false d p q h = inr (in_secure a (q ∙ h))

pub place : (a : ℕ) → is_writable a 4 ≡ true → InNs a ⊎ InSecure a
unfolding is_writable
place a h = pick a _ _ refl refl h

load_ns : (a : ℕ) (device : Device) (m : Memory) → InNs a → load 4 a device m ≡ word_at m.ns_ram (a - NS_RAM.from)
unfolding load
load_ns a device m h = rw (h.secure, h.ns) refl

load_secure : (a : ℕ) (device : Device) (m : Memory) → InSecure a → load 4 a device m ≡ word_at m.secure_ram (a - SECURE_DATA.from)
unfolding load
load_secure a device m h = rw h.secure refl

store_ns : (a v : ℕ) (m : Memory) → InNs a → store 4 a v m ≡ record m { ns_ram = put_word m.ns_ram (a - NS_RAM.from) v }
unfolding store
store_ns a v m h = rw h.ns refl

store_secure : (a v : ℕ) (m : Memory) → InSecure a → store 4 a v m ≡ record m { secure_ram = put_word m.secure_ram (a - SECURE_DATA.from) v }
unfolding store
store_secure a v m h = rw h.ns refl

-- the word that was written
pub load_same : (a v : ℕ) (device : Device) (m : Memory) → IsWhole m → is_writable a 4 ≡ true → v < 4294967296 → load 4 a device (store 4 a v m) ≡ v
load_same a v device m whole can lt =
    ⊎_elim
    (λ h. ap (load 4 a device) (store_ns a v m h) ∙ load_ns a device (record m { ns_ram = put_word m.ns_ram (a - NS_RAM.from) v }) h ∙ same_word m.ns_ram (a - NS_RAM.from) v (omega (arith, h.from, h.to, whole.ns_ram)) lt)
    (λ h. ap (load 4 a device) (store_secure a v m h) ∙ load_secure a device (record m { secure_ram = put_word m.secure_ram (a - SECURE_DATA.from) v }) h ∙ same_word m.secure_ram (a - SECURE_DATA.from) v (omega (arith, h.from, h.to, whole.secure_ram)) lt)
    (place a can)

-- another word is as it was
pub load_other : (a b v : ℕ) (device : Device) (m : Memory) → is_writable a 4 ≡ true → is_writable b 4 ≡ true → (a + 4 ≤ b) ⊎ (b + 4 ≤ a) → load 4 a device (store 4 b v m) ≡ load 4 a device m
load_other a b v device m can_a can_b apart =
    ⊎_elim
    (λ h. ⊎_elim
    (λ k. ap (load 4 a device) (store_ns b v m k) ∙ load_ns a device (record m { ns_ram = put_word m.ns_ram (b - NS_RAM.from) v }) h ∙ other_word m.ns_ram (b - NS_RAM.from) (a - NS_RAM.from) v (less a b NS_RAM.from h.from k.from apart) ∙ sym (load_ns a device m h))
    (λ k. ap (load 4 a device) (store_secure b v m k) ∙ load_ns a device (record m { secure_ram = put_word m.secure_ram (b - SECURE_DATA.from) v }) h ∙ sym (load_ns a device m h))
    (place b can_b))
    (λ h. ⊎_elim
    (λ k. ap (load 4 a device) (store_ns b v m k) ∙ load_secure a device (record m { ns_ram = put_word m.ns_ram (b - NS_RAM.from) v }) h ∙ sym (load_secure a device m h))
    (λ k. ap (load 4 a device) (store_secure b v m k) ∙ load_secure a device (record m { secure_ram = put_word m.secure_ram (b - SECURE_DATA.from) v }) h ∙ other_word m.secure_ram (b - SECURE_DATA.from) (a - SECURE_DATA.from) v (less a b SECURE_DATA.from h.from k.from apart) ∙ sym (load_secure a device m h))
    (place b can_b))
    (place a can_a)
  where
    less : (a b from : ℕ) → from ≤ a → from ≤ b → (a + 4 ≤ b) ⊎ (b + 4 ≤ a) → (a - from + 4 ≤ b - from) ⊎ (b - from + 4 ≤ a - from)
    less a b from p q out = ⊎_elim (λ l. inl (omega arith)) (λ l. inr (omega arith)) out

-- what can be written can be read
or_more : (b0 b1 b2 b3 d : Bool) → (b1 || d) ≡ true → (b0 || (b1 || (b2 || (b3 || d)))) ≡ true
or_more true b1 b2 b3 d h = refl
or_more false true b2 b3 d h = refl
or_more false false true b3 d h = refl
or_more false false false true d h = refl
or_more false false false false d h = h

pub readable_where_writable : (a : ℕ) → is_writable a 4 ≡ true → is_readable a 4 ≡ true
unfolding is_readable is_writable
readable_where_writable a h = or_more (lies_in 0 a 4) (lies_in 1 a 4) (lies_in 2 a 4) (lies_in 3 a 4) (lies_in 4 a 4 || lies_in 5 a 4) h

-- a store leaves the lengths of the regions
pub whole_cond : (b : Bool) (x y : Memory) → IsWhole x → IsWhole y → IsWhole (cond b x y)
whole_cond true x y p q = p
whole_cond false x y p q = q

pub whole_store : (size a v : ℕ) (m : Memory) → IsWhole m → IsWhole (store size a v m)
unfolding store
whole_store size a v m h =
    whole_cond (in_row 1 a) _ _
    (record { ns_rom = h.ns_rom; ns_ram = length-put_number size m.ns_ram (a - (row 1).from) v ∙ h.ns_ram; secure_ram = h.secure_ram })
    (record { ns_rom = h.ns_rom; ns_ram = h.ns_ram; secure_ram = length-put_number size m.secure_ram (a - (row 4).from) v ∙ h.secure_ram })
