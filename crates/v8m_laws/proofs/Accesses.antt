-- Loads and stores of 1, 2 or 4 bytes in memory, in any row.
use Rattle.std.proofs.Common.{◌≡◌, ℕ, ◌+◌, ◌-◌, ◌%◌, ◌<◌, ◌≤◌, ◌⊎◌, Bool, true, false, cond, List, [], length, take, refl, sym, ap, ◌∙◌, subst, ⊎_elim, inl, inr, arith, Some, None}
use Rattle.std.specs.Prelude.{eqb, not, ◌||◌}
use Rattle.std.proofs.lemmas.Bool.Decides.{nat_tests}
use Rattle.std.proofs.lemmas.Bool.{or_cases, eq-eqb}
use Rattle.cm_base.specs.declared.stop.Stop.TheVariants as stop
use Rattle.cm_base.specs.declared.regions.TheConstants.{NS_ROM, NS_RAM, SECURE_DATA, SECURE_CONTROL}
use Rattle.ns_types.specs.State.{Device, Memory, State, device_of}
use Rattle.ns_types.specs.Platform.{row, in_row, lies_in, is_readable, is_writable}
use Rattle.ns_types.specs.Memory.{IsWhole, number_at, put_number, load, store}
use Rattle.ns_types.specs.Operators.{low_bytes, to_signed}
use Rattle.ns_types.specs.Access.{may_read, may_write}
use Rattle.v8m_core.specs.declared.effect.Effect.TheVariants as effect
use Rattle.v8m_core.specs.Step.{Done, went, or_stopped, put, stored, load_stop, store_stop, apply}
use Rattle.v8m_laws.specs.Rows.{IsSize, SameRows}
use Rattle.v8m_laws.proofs.Numbers.{size_positive, number_apart, number_same, number_lt, number_of_front, front_written, front_kept}

-- The parts of memory

load_in_secure : (n a : ℕ) (device : Device) (m : Memory) → (in_row 4 a || in_row 5 a) ≡ true → load n a device m ≡ number_at n m.secure_ram (a - (row 4).from)
unfolding load
load_in_secure n a device m h = rw h refl

load_in_ns : (n a : ℕ) (device : Device) (m : Memory) → (in_row 4 a || in_row 5 a) ≡ false → in_row 1 a ≡ true → load n a device m ≡ number_at n m.ns_ram (a - (row 1).from)
unfolding load
load_in_ns n a device m h k = rw (h, k) refl

load_in_rom : (n a : ℕ) (device : Device) (m : Memory) → (in_row 4 a || in_row 5 a) ≡ false → in_row 1 a ≡ false → load n a device m ≡ cond (in_row 0 a) (number_at n m.ns_rom (a - (row 0).from)) (number_at n device.rom (a - (row 2).from))
unfolding load
load_in_rom n a device m h k = rw (h, k) refl

store_in_ns : (n a v : ℕ) (m : Memory) → in_row 1 a ≡ true → store n a v m ≡ record m { ns_ram = put_number n m.ns_ram (a - (row 1).from) v }
unfolding store
store_in_ns n a v m h = rw h refl

store_in_secure : (n a v : ℕ) (m : Memory) → in_row 1 a ≡ false → store n a v m ≡ record m { secure_ram = put_number n m.secure_ram (a - (row 4).from) v }
unfolding store
store_in_secure n a v m h = rw h refl

-- n bytes at an address lie in Non-secure RAM, or in Secure RAM
pub record InNs (a n : ℕ) : Type 0 where
  pub secure : (in_row 4 a || in_row 5 a) ≡ false
  pub ns : in_row 1 a ≡ true
  pub from : NS_RAM.from ≤ a
  pub to : a + n ≤ NS_RAM.to

pub record InSecure (a n : ℕ) : Type 0 where
  pub secure : (in_row 4 a || in_row 5 a) ≡ true
  pub ns : in_row 1 a ≡ false
  pub from : SECURE_DATA.from ≤ a
  pub to : a + n ≤ SECURE_CONTROL.to

pub in_ns : (a n : ℕ) → 0 < n → lies_in 1 a n ≡ true → InNs a n
in_ns a n pos h =
    let lo : NS_RAM.from ≤ a = grind (arith, nat_tests) in
    let hi : a + n ≤ NS_RAM.to = grind (arith, nat_tests) in
    record { secure = grind (arith, nat_tests); ns = grind (arith, nat_tests); from = lo; to = hi }

pub in_secure : (a n : ℕ) → 0 < n → (lies_in 4 a n || lies_in 5 a n) ≡ true → InSecure a n
in_secure a n pos h =
    let lo : SECURE_DATA.from ≤ a = grind (arith, nat_tests) in
    let hi : a + n ≤ SECURE_CONTROL.to = grind (arith, nat_tests) in
    record { secure = grind (arith, nat_tests); ns = grind (arith, nat_tests); from = lo; to = hi }

pub place : (a n : ℕ) → 0 < n → is_writable a n ≡ true → InNs a n ⊎ InSecure a n
unfolding is_writable
place a n pos h = pick (lies_in 1 a n) (lies_in 4 a n || lies_in 5 a n) refl refl h
  where
    pick : (b d : Bool) → lies_in 1 a n ≡ b → (lies_in 4 a n || lies_in 5 a n) ≡ d → (b || d) ≡ true → InNs a n ⊎ InSecure a n
    pick true d p q h = inl (in_ns a n pos p)
    pick false d p q h = inr (in_secure a n pos (q ∙ h))

-- What is read after a write

-- the number that was written
pub load_same : (n a v : ℕ) (device : Device) (m : Memory) → IsSize n → IsWhole m → is_writable a n ≡ true → v < 4294967296 → load n a device (store n a v m) ≡ low_bytes n v
load_same n a v device m s whole can lt =
    ⊎_elim
    (λ h. ap (load n a device) (store_in_ns n a v m h.ns) ∙ load_in_ns n a device (record m { ns_ram = put_number n m.ns_ram (a - NS_RAM.from) v }) h.secure h.ns ∙ number_same n s m.ns_ram (a - NS_RAM.from) v (omega (arith, h.from, h.to, whole.ns_ram)) lt)
    (λ h. ap (load n a device) (store_in_secure n a v m h.ns) ∙ load_in_secure n a device (record m { secure_ram = put_number n m.secure_ram (a - SECURE_DATA.from) v }) h.secure ∙ number_same n s m.secure_ram (a - SECURE_DATA.from) v (omega (arith, h.from, h.to, whole.secure_ram)) lt)
    (place a n (size_positive n s) can)

less : (a b n k from : ℕ) → from ≤ a → from ≤ b → (a + n ≤ b) ⊎ (b + k ≤ a) → (a - from + n ≤ b - from) ⊎ (b - from + k ≤ a - from)
less a b n k from p q out = ⊎_elim (λ l. inl (omega arith)) (λ l. inr (omega arith)) out

from_secure : (a : ℕ) → (in_row 4 a || in_row 5 a) ≡ true → SECURE_DATA.from ≤ a
from_secure a h = grind (arith, nat_tests)

from_ns : (a : ℕ) → in_row 1 a ≡ true → NS_RAM.from ≤ a
from_ns a h = grind (arith, nat_tests)

-- another number is as it was
pub load_apart : (n k a b v : ℕ) (device : Device) (m : Memory) → IsSize n → IsSize k → is_writable b k ≡ true → (a + n ≤ b) ⊎ (b + k ≤ a) → load n a device (store k b v m) ≡ load n a device m
load_apart n k a b v device m sn sk can apart =
    ⊎_elim
    (λ h. ap (load n a device) (store_in_ns k b v m h.ns) ∙ behind_ns h.from (in_row 4 a || in_row 5 a) (in_row 1 a) refl refl)
    (λ h. ap (load n a device) (store_in_secure k b v m h.ns) ∙ behind_secure h.from (in_row 4 a || in_row 5 a) (in_row 1 a) refl refl)
    (place b k (size_positive k sk) can)
  where
    behind_ns : NS_RAM.from ≤ b → (p q : Bool) → (in_row 4 a || in_row 5 a) ≡ p → in_row 1 a ≡ q → load n a device (record m { ns_ram = put_number k m.ns_ram (b - NS_RAM.from) v }) ≡ load n a device m
    behind_ns from true q e f = load_in_secure n a device _ e ∙ sym (load_in_secure n a device m e)
    behind_ns from false true e f =
        load_in_ns n a device (record m { ns_ram = put_number k m.ns_ram (b - NS_RAM.from) v }) e f
        ∙ number_apart n k sn sk m.ns_ram (a - NS_RAM.from) (b - NS_RAM.from) v (less a b n k NS_RAM.from (from_ns a f) from apart)
        ∙ sym (load_in_ns n a device m e f)
    behind_ns from false false e f = load_in_rom n a device _ e f ∙ sym (load_in_rom n a device m e f)

    behind_secure : SECURE_DATA.from ≤ b → (p q : Bool) → (in_row 4 a || in_row 5 a) ≡ p → in_row 1 a ≡ q → load n a device (record m { secure_ram = put_number k m.secure_ram (b - SECURE_DATA.from) v }) ≡ load n a device m
    behind_secure from true q e f =
        load_in_secure n a device (record m { secure_ram = put_number k m.secure_ram (b - SECURE_DATA.from) v }) e
        ∙ number_apart n k sn sk m.secure_ram (a - SECURE_DATA.from) (b - SECURE_DATA.from) v (less a b n k SECURE_DATA.from (from_secure a e) from apart)
        ∙ sym (load_in_secure n a device m e)
    behind_secure from false true e f = load_in_ns n a device _ e f ∙ sym (load_in_ns n a device m e f)
    behind_secure from false false e f = load_in_rom n a device _ e f ∙ sym (load_in_rom n a device m e f)

-- what is read is a word
pub load_lt : (n a : ℕ) (device : Device) (m : Memory) → IsSize n → load n a device m < 4294967296
load_lt n a device m s = by_tests (in_row 4 a || in_row 5 a) (in_row 1 a) refl refl
  where
    either : (b : Bool) (x y : ℕ) → x < 4294967296 → y < 4294967296 → cond b x y < 4294967296
    either true x y p q = p
    either false x y p q = q

    by_tests : (p q : Bool) → (in_row 4 a || in_row 5 a) ≡ p → in_row 1 a ≡ q → load n a device m < 4294967296
    by_tests true q e f = subst (λ x. x < 4294967296) (sym (load_in_secure n a device m e)) (number_lt n s _ _)
    by_tests false true e f = subst (λ x. x < 4294967296) (sym (load_in_ns n a device m e f)) (number_lt n s _ _)
    by_tests false false e f = subst (λ x. x < 4294967296) (sym (load_in_rom n a device m e f)) (either (in_row 0 a) _ _ (number_lt n s _ _) (number_lt n s _ _))

-- outside of Secure ROM the device doesn't matter
pub any_device : (n a : ℕ) (d e : Device) (m : Memory) → 0 < n → is_writable a n ≡ true → load n a d m ≡ load n a e m
any_device n a d e m pos can =
    ⊎_elim
    (λ h. load_in_ns n a d m h.secure h.ns ∙ sym (load_in_ns n a e m h.secure h.ns))
    (λ h. load_in_secure n a d m h.secure ∙ sym (load_in_secure n a e m h.secure))
    (place a n pos can)

-- What the C program may touch

pub writable : (a n : ℕ) → may_write a n ≡ true → is_writable a n ≡ true
unfolding is_writable
writable a n h = four_or_one (lies_in 4 a n) (lies_in 1 a n) (lies_in 5 a n) h
  where
    four_or_one : (p q r : Bool) → (p || q) ≡ true → (q || (p || r)) ≡ true
    four_or_one p true r h = refl
    four_or_one true false r h = refl
    four_or_one false false r h = cc

pub readable_where_writable : (a n : ℕ) → is_writable a n ≡ true → is_readable a n ≡ true
unfolding is_readable is_writable
readable_where_writable a n h = or_more (lies_in 0 a n) (lies_in 1 a n) (lies_in 2 a n) (lies_in 3 a n) (lies_in 4 a n || lies_in 5 a n) h
  where
    or_more : (b0 b1 b2 b3 d : Bool) → (b1 || d) ≡ true → (b0 || (b1 || (b2 || (b3 || d)))) ≡ true
    or_more true b1 b2 b3 d h = refl
    or_more false true b2 b3 d h = refl
    or_more false false true b3 d h = refl
    or_more false false false true d h = refl
    or_more false false false false d h = h

pub readable : (a n : ℕ) → may_read a n ≡ true → is_readable a n ≡ true
unfolding is_readable
readable a n h = ⊎_elim (λ w. readable_where_writable a n (writable a n w)) (λ z. rw z refl) (or_cases (may_write a n) (lies_in 0 a n) h)

in_four : (a n : ℕ) → 0 < n → lies_in 4 a n ≡ true → ((in_row 4 a || in_row 5 a) ≡ true) × (in_row 1 a ≡ false) × (a - SECURE_DATA.from + n ≤ 65536)
in_four a n pos h = (grind (arith, nat_tests), grind (arith, nat_tests), (let f : SECURE_DATA.from ≤ a = grind (arith, nat_tests) in let t : a + n ≤ SECURE_DATA.to = grind (arith, nat_tests) in omega arith))

in_zero : (a n : ℕ) → 0 < n → lies_in 0 a n ≡ true → ((in_row 4 a || in_row 5 a) ≡ false) × (in_row 1 a ≡ false) × (in_row 0 a ≡ true)
in_zero a n pos h = (grind (arith, nat_tests), grind (arith, nat_tests), grind (arith, nat_tests))

-- a read of the C program is alike in memories whose rows are
pub load_rows : (n a : ℕ) (d e : Device) (m k : Memory) → IsSize n → SameRows m k → may_read a n ≡ true → load n a d m ≡ load n a e k
load_rows n a d e m k s same h = ⊎_elim (λ h. ⊎_elim four one (or_cases (lies_in 4 a n) (lies_in 1 a n) h)) zero (or_cases (may_write a n) (lies_in 0 a n) h)
  where
    pos : 0 < n
    pos = size_positive n s

    four : lies_in 4 a n ≡ true → load n a d m ≡ load n a e k
    four h =
        let p = in_four a n pos h in
        load_in_secure n a d m p.0
        ∙ sym (number_of_front n s m.secure_ram 65536 (a - SECURE_DATA.from) p.2) ∙ ap (λ r. number_at n r (a - SECURE_DATA.from)) same.secure_data ∙ number_of_front n s k.secure_ram 65536 (a - SECURE_DATA.from) p.2
        ∙ sym (load_in_secure n a e k p.0)

    one : lies_in 1 a n ≡ true → load n a d m ≡ load n a e k
    one h =
        let p = in_ns a n pos h in
        load_in_ns n a d m p.secure p.ns ∙ ap (λ r. number_at n r (a - NS_RAM.from)) same.ns_ram ∙ sym (load_in_ns n a e k p.secure p.ns)

    zero : lies_in 0 a n ≡ true → load n a d m ≡ load n a e k
    zero h =
        let p = in_zero a n pos h in
        load_in_rom n a d m p.0 p.1
        ∙ ap (λ b. cond b (number_at n m.ns_rom (a - NS_ROM.from)) (number_at n d.rom (a - (row 2).from))) p.2
        ∙ ap (λ r. number_at n r (a - NS_ROM.from)) same.ns_rom
        ∙ sym (load_in_rom n a e k p.0 p.1 ∙ ap (λ b. cond b (number_at n k.ns_rom (a - NS_ROM.from)) (number_at n e.rom (a - (row 2).from))) p.2)

-- and a write leaves them so
pub store_rows : (n a v : ℕ) (m k : Memory) → IsSize n → SameRows m k → may_write a n ≡ true → SameRows (store n a v m) (store n a v k)
store_rows n a v m k s same h = ⊎_elim four one (or_cases (lies_in 4 a n) (lies_in 1 a n) h)
  where
    pos : 0 < n
    pos = size_positive n s

    of : (x y x2 y2 : Memory) → x ≡ x2 → y ≡ y2 → SameRows x2 y2 → SameRows x y
    of x y x2 y2 e f r = subst (λ z. SameRows z y) (sym e) (subst (λ z. SameRows x2 z) (sym f) r)

    four : lies_in 4 a n ≡ true → SameRows (store n a v m) (store n a v k)
    four h =
        let p = in_four a n pos h in
        let o : ℕ = a - SECURE_DATA.from in
        of _ _ _ _ (store_in_secure n a v m p.1) (store_in_secure n a v k p.1) (record {
          ns_rom = same.ns_rom;
          ns_ram = same.ns_ram;
          secure_data = front_written n s m.secure_ram 65536 o v p.2 ∙ ap (λ r. put_number n r o v) same.secure_data ∙ sym (front_written n s k.secure_ram 65536 o v p.2);
        })

    one : lies_in 1 a n ≡ true → SameRows (store n a v m) (store n a v k)
    one h =
        let p = in_ns a n pos h in
        of _ _ _ _ (store_in_ns n a v m p.ns) (store_in_ns n a v k p.ns) (record {
          ns_rom = same.ns_rom;
          ns_ram = ap (λ r. put_number n r (a - NS_RAM.from) v) same.ns_ram;
          secure_data = same.secure_data;
        })

-- a write in Secure control leaves what the C program may touch
pub control_rows : (n a v : ℕ) (m : Memory) → IsSize n → is_writable a n ≡ true → SECURE_CONTROL.from ≤ a → SameRows (store n a v m) m
control_rows n a v m s can from =
    let out : in_row 1 a ≡ false = grind (arith, nat_tests) in
    subst (λ x. SameRows x m) (sym (store_in_secure n a v m out)) (record { ns_rom = refl; ns_ram = refl; secure_data = front_kept n s m.secure_ram 65536 (a - SECURE_DATA.from) v (omega arith) })

-- a write of the C program leaves Secure control
pub control_kept : (n k a b v : ℕ) (device : Device) (m : Memory) → IsSize n → IsSize k → may_write a n ≡ true → SECURE_CONTROL.from ≤ b → load k b device (store n a v m) ≡ load k b device m
control_kept n k a b v device m sn sk h from =
    let low : a + n ≤ SECURE_CONTROL.from = grind (arith, nat_tests) in
    load_apart k n b a v device m sk sn (writable a n h) (inr (omega arith))

pub same_rows : (m : Memory) → SameRows m m
same_rows m = record { ns_rom = refl; ns_ram = refl; secure_data = refl }

pub same_rows_on : (a b c : Memory) → SameRows a b → SameRows b c → SameRows a c
same_rows_on a b c p q = record { ns_rom = p.ns_rom ∙ q.ns_rom; ns_ram = p.ns_ram ∙ q.ns_ram; secure_data = p.secure_data ∙ q.secure_data }

-- Loads and stores that don't stop

pub load_goes : (a n : ℕ) → a % n ≡ 0 → is_readable a n ≡ true → load_stop a n ≡ None
unfolding load_stop
load_goes a n even can = let e : eqb (a % n) 0 ≡ true = eq-eqb (a % n) 0 even in rw (e, can) refl

pub store_goes : (a n : ℕ) → a % n ≡ 0 → is_writable a n ≡ true → store_stop a n ≡ None
unfolding store_stop
store_goes a n even can = let e : eqb (a % n) 0 ≡ true = eq-eqb (a % n) 0 even in rw (e, can) refl

pub loads : (device : Device) (t a n size : ℕ) (s : State) → a % n ≡ 0 → is_readable a n ≡ true → apply device (effect.Load t a n) size s ≡ went (put size t (load n a device s.memory) s)
unfolding apply
loads device t a n size s even can = ap (λ o. or_stopped o s (went (put size t (load n a device s.memory) s))) (load_goes a n even can)

pub loads_signed : (device : Device) (t a n size : ℕ) (s : State) → a % n ≡ 0 → is_readable a n ≡ true → apply device (effect.LoadSigned t a n) size s ≡ went (put size t (to_signed n (load n a device s.memory)) s)
unfolding apply
loads_signed device t a n size s even can = ap (λ o. or_stopped o s (went (put size t (to_signed n (load n a device s.memory)) s))) (load_goes a n even can)

pub stores : (device : Device) (a n v size : ℕ) (s : State) → a % n ≡ 0 → is_writable a n ≡ true → apply device (effect.Store a n v) size s ≡ stored size a n v s
unfolding apply
stores device a n v size s even can = ap (λ o. or_stopped o s (stored size a n v s)) (store_goes a n even can)
