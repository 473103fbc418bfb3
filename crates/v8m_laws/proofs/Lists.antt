-- Words of Secure RAM to which a list of registers is stored, and from which it is loaded.
use Rattle.std.proofs.Common.{◌≡◌, ℕ, ◌+◌, ◌-◌, ◌*◌, ◌%◌, ◌<◌, ◌≤◌, ◌⊎◌, Bool, true, false, cond, List, [], ◌∷◌, refl, sym, ap, ◌∙◌, subst, inl, inr, arith}
use Rattle.cm_base.specs.declared.regions.TheConstants.{SECURE_CONTROL}
use Rattle.ns_types.specs.declared.state.Regs.{Regs}
use Rattle.ns_types.specs.State.{Device, Memory, get_of, set_of}
use Rattle.ns_types.specs.Memory.{IsWhole, load, store}
use Rattle.v8m_core.specs.Lists.{in_list, next, bytes_of, all_stored, all_loaded}
use Rattle.v8m_core.proofs.Ram.{load_same, whole_store}
use Rattle.v8m_core.proofs.StackLaws.{IsWordPlace, AreWordPlaces, word_writable}
use Rattle.v8m_laws.specs.Rows.{SameRows}
use Rattle.v8m_laws.specs.Lists.{restored, IsInSecureRam, AreAs}
use Rattle.v8m_laws.proofs.Accesses.{load_apart, any_device, control_rows, same_rows, same_rows_on}

-- the word that a list begins with, and those behind it
first_word : (a k : ℕ) → AreWordPlaces a (4 + k) → IsWordPlace a
first_word a k w = let to = w.to in record { even = w.even; from = w.from; to = omega arith }

more_words : (a k : ℕ) → AreWordPlaces a (4 + k) → (next a ≡ a + 4) × AreWordPlaces (a + 4) k
more_words a k w =
    let even = w.even in
    let from = w.from in
    let to = w.to in
    (omega arith, record { even = omega arith; from = omega arith; to = omega arith })

no_word : (a k : ℕ) → AreWordPlaces a (0 + k) → AreWordPlaces a k
no_word a k w = let to = w.to in record { even = w.even; from = w.from; to = omega arith }

-- what all stores of a list keep, by what one keeps
each : (P : ℕ → ℕ → Memory → Memory → Type 0) → (t : Bool) (a k v : ℕ) (m : Memory) (rest : ℕ → Memory → Memory) → AreWordPlaces a (cond t 4 0 + k)
    → ((x : ℕ) (y : Memory) → AreWordPlaces x k → P x k (rest x y) y) → (IsWordPlace a → P (a + 4) k (rest (a + 4) (store 4 a v m)) (store 4 a v m) → P a (4 + k) (rest (a + 4) (store 4 a v m)) m) → (P a k (rest a m) m → P a (0 + k) (rest a m) m) → P a (cond t 4 0 + k) (cond t (rest (next a) (store 4 a v m)) (rest a m)) m
each P true a k v m rest w all first none =
    let more = more_words a k w in
    subst (λ x. P a (4 + k) (rest x (store 4 a v m)) m) (sym more.0) (first (first_word a k w) (all (a + 4) (store 4 a v m) more.1))
each P false a k v m rest w all first none = none (all a m (no_word a k w))

-- words outside of those of a list are as they were
abbrev Keeps : ℕ → Device → ℕ → ℕ → Memory → Memory → Type 0
Keeps b device a k n m = (b + 4 ≤ a) ⊎ (a + k ≤ b) → load 4 b device n ≡ load 4 b device m

pub list_kept : (list : ℕ) (ns : List ℕ) (r : Regs) (a b : ℕ) (device : Device) (m : Memory) → AreWordPlaces a (bytes_of list ns) → Keeps b device a (bytes_of list ns) (all_stored list ns r a m) m
unfolding all_stored bytes_of
list_kept list [] r a b device m w = λ out. refl
list_kept list (n ∷ ns) r a b device m w =
    each (Keeps b device) (in_list list n) a (bytes_of list ns) (get_of r n) m (λ x y. all_stored list ns r x y) w (λ x y wx. list_kept list ns r x b device y wx)
    (λ wa h out. h (behind a b (bytes_of list ns) out) ∙ load_apart 4 4 b a (get_of r n) device m (inr (inr refl)) (inr (inr refl)) (word_writable a wa) (apart a b (bytes_of list ns) out))
    (λ h out. h (same a b (bytes_of list ns) out))
  where
    behind : (a b k : ℕ) → (b + 4 ≤ a) ⊎ (a + (4 + k) ≤ b) → (b + 4 ≤ a + 4) ⊎ (a + 4 + k ≤ b)
    behind a b k (inl h) = inl (omega arith)
    behind a b k (inr h) = inr (omega arith)

    apart : (a b k : ℕ) → (b + 4 ≤ a) ⊎ (a + (4 + k) ≤ b) → (b + 4 ≤ a) ⊎ (a + 4 ≤ b)
    apart a b k (inl h) = inl h
    apart a b k (inr h) = inr (omega arith)

    same : (a b k : ℕ) → (b + 4 ≤ a) ⊎ (a + (0 + k) ≤ b) → (b + 4 ≤ a) ⊎ (a + k ≤ b)
    same a b k (inl h) = inl h
    same a b k (inr h) = inr (omega arith)

-- in Secure control what the C program may touch is as it was, and the lengths of the rows are
abbrev Rows : ℕ → ℕ → Memory → Memory → Type 0
Rows a k n m = SECURE_CONTROL.from ≤ a → IsWhole m → SameRows n m × IsWhole n

pub list_rows : (list : ℕ) (ns : List ℕ) (r : Regs) (a : ℕ) (m : Memory) → AreWordPlaces a (bytes_of list ns) → Rows a (bytes_of list ns) (all_stored list ns r a m) m
unfolding all_stored bytes_of
list_rows list [] r a m w = λ le whole. (same_rows m, whole)
list_rows list (n ∷ ns) r a m w =
    each Rows (in_list list n) a (bytes_of list ns) (get_of r n) m (λ x y. all_stored list ns r x y) w (λ x y wx. list_rows list ns r x y wx)
    (λ wa h le whole. let p = h (omega arith) (whole_store 4 a (get_of r n) m whole) in (same_rows_on _ _ m p.0 (control_rows 4 a (get_of r n) m (inr (inr refl)) (word_writable a wa) le), p.1))
    (λ h le whole. h le whole)

back_step : (t : Bool) (list n : ℕ) (ns : List ℕ) (device : Device) (r u : Regs) (a k : ℕ) (m m' : Memory) → get_of r n < 4294967296 → IsWhole m → AreWordPlaces a (cond t 4 0 + k)
    → ((x : ℕ) (y : Memory) (v : Regs) → IsWhole y → AreWordPlaces x k → AreAs x k device m' (all_stored list ns r x y) → all_loaded list ns device m' x v ≡ restored list ns r v)
    → ((x b : ℕ) (y : Memory) → AreWordPlaces x k → b + 4 ≤ x → load 4 b device (all_stored list ns r x y) ≡ load 4 b device y)
    → AreAs a (cond t 4 0 + k) device m' (cond t (all_stored list ns r (next a) (store 4 a (get_of r n) m)) (all_stored list ns r a m))
    → cond t (all_loaded list ns device m' (next a) (set_of u n (load 4 a device m'))) (all_loaded list ns device m' a u) ≡ cond t (restored list ns r (set_of u n (get_of r n))) (restored list ns r u)
back_step true list n ns device r u a k m m' small whole w all kept holds =
    let more = more_words a k w in
    let wa = first_word a k w in
    let m1 : Memory = store 4 a (get_of r n) m in
    let holds' : AreAs a (4 + k) device m' (all_stored list ns r (a + 4) m1) = subst (λ x. AreAs a (4 + k) device m' (all_stored list ns r x (store 4 a (get_of r n) m))) more.0 holds in
    let word : load 4 a device m' ≡ get_of r n = holds' a (omega arith) (omega arith) ∙ kept (a + 4) a m1 more.1 (omega arith) ∙ load_same a (get_of r n) device m whole (word_writable a wa) small in
    ap (λ x. all_loaded list ns device m' x (set_of u n (load 4 a device m'))) more.0
    ∙ ap (λ x. all_loaded list ns device m' (a + 4) (set_of u n x)) word
    ∙ all (a + 4) m1 (set_of u n (get_of r n)) (whole_store 4 a (get_of r n) m whole) more.1 (λ b le to. holds' b (omega arith) (omega arith))
back_step false list n ns device r u a k m m' small whole w all kept holds =
    all a m u whole (no_word a k w) (λ b le to. holds b le (omega arith))

-- LDMIA of words that are those that STMDB stored gives the registers of the list back
pub list_back : (list : ℕ) (ns : List ℕ) (device : Device) (r u : Regs) (a : ℕ) (m m' : Memory) → ((n : ℕ) → get_of r n < 4294967296) → IsWhole m → AreWordPlaces a (bytes_of list ns) → AreAs a (bytes_of list ns) device m' (all_stored list ns r a m) → all_loaded list ns device m' a u ≡ restored list ns r u
unfolding all_stored all_loaded bytes_of
list_back list [] device r u a m m' small whole w holds = refl
list_back list (n ∷ ns) device r u a m m' small whole w holds =
    back_step (in_list list n) list n ns device r u a (bytes_of list ns) m m' (small n) whole w (λ x y v wy wx h. list_back list ns device r v x y m' small wy wx h)
    (λ x b y wx le. list_kept list ns r x b device y wx (inl le)) holds

-- places as the stack's laws have them
pub are_places : (a bytes : ℕ) → IsInSecureRam a bytes → AreWordPlaces a bytes
are_places a bytes w = record { even = w.even; from = w.from; to = w.to }
