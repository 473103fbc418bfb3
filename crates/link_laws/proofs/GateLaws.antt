-- The Non-secure callable region: its veneers, and no other gateway.
use Rattle.std.proofs.Common.{◌≡◌, ◌≢◌, ℕ, zero, suc, ◌+◌, ◌-◌, ◌*◌, ◌/◌, ◌%◌, ◌<◌, ◌≤◌, ◌&&◌, ◌==◌, Bool, true, false, List, [], ◌∷◌, ◌++◌, length, map, get_or, take, drop, replicate, flat_map, slice_index, All, Contains, Option, Some, None, eqb, ltb, leb, if◌then◌else◌, refl, sym, ap, ◌∙◌, subst, true≢false, arith, length-append, ltb-true, leb-true, eqb-true, ne_eqb}
use Rattle.std.specs.List.Sorted.{IsStrictlyIncreasing}
use Rattle.std.proofs.lemmas.Bool.Decides.{nat_tests}
use Rattle.std.proofs.lemmas.List.{take_at, drop_at, drop-drop, get_or_append_left, get_or-append_right, get_or-map}
use Rattle.cm_base.specs.declared.regions.TheConstants.{SECURE_ROM, NSC}
use Rattle.ns_types.specs.declared.event.Veneer.{Veneer}
use Rattle.ns_types.specs.Gateway.{is_gateway, fetched, sg_half}
use Rattle.ns_types.specs.Memory.{half_at}
use Rattle.ns_types.specs.Operators.{subtract}
use Rattle.ns_types.specs.Platform.{row_size, in_row, lies_in}
use Rattle.ns_types.specs.State.{device_of}
use Rattle.v8m_isa.specs.declared.instr.Instr.TheVariants.{Sg, B}
use Rattle.v8m_isa.specs.Table.{code_of, size_of}
use Rattle.v8m_isa.specs.Bytes.{code_bytes}
use Rattle.elf_object.specs.declared.object.Sited.{Sited}
use Rattle.elf_object.specs.Placed.{HasBytes, IsWithin, veneer_code, twin}
use Rattle.veneer_link.specs.Assign.{places_from, place_count}
use Rattle.veneer_laws.proofs.Places.{same_number, equal_numbers}
use Rattle.link_laws.specs.Rom.{veneer_at, gate, gates, named}
use Rattle.link_laws.proofs.TextLaws.{and_left, and_right}

-- ---- blocks of 8 bytes, one for each place

module _ (f : ℕ → List ℕ) (eight : (a : ℕ) → length (f a) ≡ 8) where
  pub length-blocks : (n a : ℕ) → length (flat_map f (places_from n a)) ≡ 8 * n
  length-blocks zero a = refl
  length-blocks (suc n) a =
      let l = length-append (f a) (flat_map f (places_from n (a + 8))) in
      omega (arith, l, eight a, length-blocks n (a + 8))

  pub block_at : (n a k : ℕ) → k < n → take 8 (drop (8 * k) (flat_map f (places_from n a))) ≡ f (a + 8 * k)
  block_at zero a k lt = absurd (omega (arith, lt))
  block_at (suc n) a zero lt =
      take_at (f a) (flat_map f (places_from n (a + 8))) 8 (eight a) ∙ ap f (let e : a ≡ a + 8 * 0 = omega arith in e)
  block_at (suc n) a (suc k) lt =
      let rest = flat_map f (places_from n (a + 8)) in
      let e : 8 * suc k ≡ 8 + 8 * k = omega arith in
      let d : a + 8 + 8 * k ≡ a + 8 * suc k = omega arith in
      ap (λ i. take 8 (drop i (f a ++ rest))) e
      ∙ (ap (take 8) (sym (drop-drop (8 * k) 8 (f a ++ rest)))
      ∙ (ap (λ l. take 8 (drop (8 * k) l)) (drop_at (f a) rest 8 (eight a))
      ∙ (block_at n (a + 8) k (omega (arith, lt)) ∙ ap f d)))

  pub byte_at_block : (n a k j : ℕ) → k < n → j < 8 → slice_index (flat_map f (places_from n a)) (8 * k + j) ≡ slice_index (f (a + 8 * k)) j
  byte_at_block zero a k j lt low = absurd (omega (arith, lt))
  byte_at_block (suc n) a zero j lt low =
      ap (slice_index (flat_map f (places_from (suc n) a))) (let i : 8 * 0 + j ≡ j = omega arith in i)
      ∙ get_or_append_left (f a) (flat_map f (places_from n (a + 8))) 0 j (omega (arith, low, eight a)) ∙ ap (λ b. slice_index (f b) j) (let e : a ≡ a + 8 * 0 = omega arith in e)
  byte_at_block (suc n) a (suc k) j lt low =
      let rest = flat_map f (places_from n (a + 8)) in
      let e : 8 * suc k + j - 8 ≡ 8 * k + j = omega arith in
      let d : a + 8 + 8 * k ≡ a + 8 * suc k = omega arith in
      get_or-append_right (f a) rest 8 (8 * suc k + j) 0 (eight a) (omega arith)
      ∙ (ap (slice_index rest) e ∙ (byte_at_block n (a + 8) k j (omega (arith, lt)) low ∙ ap (λ b. slice_index (f b) j) d))

-- ---- the bytes of a veneer

pub length-veneer : (address code : ℕ) → length (veneer_code address code) ≡ 8
unfolding size_of
length-veneer address code = refl

pub length-gate : (veneers : List Veneer) (all : List Sited) (o : Option Veneer) → length (gate veneers all o) ≡ 8
length-gate veneers all None = refl
length-gate veneers all (Some v) = length-veneer v.address (named veneers all (twin v.name))

-- halfwords of 8 bytes
zero_half : (j : ℕ) → j < 7 → half_at (replicate 8 0) j ≡ 0
unfolding half_at
zero_half zero lt = refl
zero_half (suc zero) lt = refl
zero_half (suc (suc zero)) lt = refl
zero_half (suc (suc (suc zero))) lt = refl
zero_half (suc (suc (suc (suc zero)))) lt = refl
zero_half (suc (suc (suc (suc (suc zero))))) lt = refl
zero_half (suc (suc (suc (suc (suc (suc zero)))))) lt = refl
zero_half (suc (suc (suc (suc (suc (suc (suc j))))))) lt = absurd (omega (arith, lt))

-- a branch isn't half of a gateway
first_half : (address code : ℕ) → half_at (veneer_code address code) 4 ≡ 0xE97F → ⊥
unfolding half_at code_of size_of
first_half address code e = omega (arith, e)

second_half : (address code : ℕ) → half_at (veneer_code address code) 6 ≡ 0xE97F → ⊥
unfolding half_at code_of size_of
second_half address code e = omega (arith, e)

-- a halfword of SG within 8 bytes, with the next one if that is within them too, begins a veneer
pub begins : (veneers : List Veneer) (all : List Sited) (o : Option Veneer) (j : ℕ) → j % 2 ≡ 0 → j < 8 → half_at (gate veneers all o) j ≡ 0xE97F → (j ≤ 4 → half_at (gate veneers all o) (j + 2) ≡ 0xE97F) → (v : Veneer) × (o ≡ Some v) × (j ≡ 0)
begins veneers all None j even lt e next =
    let z = zero_half j (omega (arith, even, lt)) in absurd (omega (arith, z, e))
begins veneers all (Some v) zero even lt e next = (v, refl, refl)
begins veneers all (Some v) (suc zero) even lt e next = absurd (omega (arith, even))
begins veneers all (Some v) (suc (suc zero)) even lt e next =
    absurd (first_half v.address (named veneers all (twin v.name)) (next (omega arith)))
begins veneers all (Some v) (suc (suc (suc zero))) even lt e next = absurd (omega (arith, even))
begins veneers all (Some v) (suc (suc (suc (suc zero)))) even lt e next =
    absurd (first_half v.address (named veneers all (twin v.name)) e)
begins veneers all (Some v) (suc (suc (suc (suc (suc zero))))) even lt e next = absurd (omega (arith, even))
begins veneers all (Some v) (suc (suc (suc (suc (suc (suc zero)))))) even lt e next =
    absurd (second_half v.address (named veneers all (twin v.name)) e)
begins veneers all (Some v) (suc (suc (suc (suc (suc (suc (suc j))))))) even lt e next = absurd (omega (arith, even, lt))

-- ---- the veneer at an address

pub veneer_is : (vs : List Veneer) (at : ℕ) (v : Veneer) → veneer_at vs at ≡ Some v → Contains vs v × (v.address ≡ at)
veneer_is [] at v e = cc
veneer_is (w ∷ vs) at v e = by (w.address == at) refl e (veneer_is vs at v)
  where
    by : (b : Bool) → (w.address == at) ≡ b → (if b then Some w else veneer_at vs at) ≡ Some v → (veneer_at vs at ≡ Some v → Contains vs v × (v.address ≡ at)) → Contains (w ∷ vs) v × (v.address ≡ at)
    by true is g ih =
        let same : w ≡ v = cc in ((0, omega arith, same), ap (λ x. x.address) (sym same) ∙ equal_numbers w.address at is)
    by false is g ih = let r = ih g in ((suc r.0.0, omega (arith, r.0.1), r.0.2), r.1)

other_address : (a b : ℕ) → a < b → (a == b) ≡ false
other_address a b lt = grind (arith, nat_tests)

-- numbers that rise, rise above all before them
rises : (xs : List ℕ) → IsStrictlyIncreasing xs → (i n : ℕ) → i + suc n < length xs → slice_index xs i < slice_index xs (i + suc n)
rises xs up i zero lt = let e : i + 1 ≡ i + suc 0 = omega arith in subst (λ j. slice_index xs i < slice_index xs j) e (up i (omega (arith, lt)))
rises xs up i (suc n) lt =
    let low = rises xs up i n (omega (arith, lt)) in
    let e : i + suc n + 1 ≡ i + suc (suc n) = omega arith in
    let high = subst (λ j. slice_index xs (i + suc n) < slice_index xs j) e (up (i + suc n) (omega (arith, lt))) in
    omega (arith, low, high)

pub contains_address : (vs : List Veneer) (v : Veneer) (k : ℕ) → k < length vs → get_or vs k v ≡ v → Contains (map (λ x. x.address) vs) v.address
contains_address [] v k lt e = absurd (omega (arith, lt))
contains_address (w ∷ vs) v zero lt e = (0, omega arith, ap (λ x. x.address) e)
contains_address (w ∷ vs) v (suc k) lt e =
    let c = contains_address vs v k (omega (arith, lt)) e in (suc c.0, omega (arith, c.1), c.2)

pub zero_byte : (j : ℕ) → slice_index (replicate 8 0) j ≡ 0
zero_byte zero = refl
zero_byte (suc zero) = refl
zero_byte (suc (suc zero)) = refl
zero_byte (suc (suc (suc zero))) = refl
zero_byte (suc (suc (suc (suc zero)))) = refl
zero_byte (suc (suc (suc (suc (suc zero))))) = refl
zero_byte (suc (suc (suc (suc (suc (suc zero)))))) = refl
zero_byte (suc (suc (suc (suc (suc (suc (suc zero))))))) = refl
zero_byte (suc (suc (suc (suc (suc (suc (suc (suc j)))))))) = refl

-- what a gateway is
pub gateway_parts : (rom : List ℕ) (a : ℕ) → is_gateway (device_of rom) a ≡ true → (NSC.from ≤ a) × (a + 4 ≤ NSC.to) × (half_at rom (a - SECURE_ROM.from) ≡ 0xE97F) × (half_at rom (a + 2 - SECURE_ROM.from) ≡ 0xE97F)
unfolding is_gateway
gateway_parts rom a e =
    let there = and_left (lies_in 3 a 4) (eqb (fetched (device_of rom) a) sg_half && eqb (fetched (device_of rom) (a + 2)) sg_half) e in
    let halves = and_right (lies_in 3 a 4) (eqb (fetched (device_of rom) a) sg_half && eqb (fetched (device_of rom) (a + 2)) sg_half) e in (
      leb-true NSC.from a (and_left (leb NSC.from a) (leb (a + 4) NSC.to) there),
      leb-true (a + 4) NSC.to (and_right (leb NSC.from a) (leb (a + 4) NSC.to) there),
      eqb-true (fetched (device_of rom) a) sg_half (and_left (eqb (fetched (device_of rom) a) sg_half) (eqb (fetched (device_of rom) (a + 2)) sg_half) halves),
      eqb-true (fetched (device_of rom) (a + 2)) sg_half (and_right (eqb (fetched (device_of rom) a) sg_half) (eqb (fetched (device_of rom) (a + 2)) sg_half) halves),
    )

pub row_parts : (a : ℕ) → in_row 3 a ≡ true → (NSC.from ≤ a) × (a < NSC.to)
row_parts a e =
    (leb-true NSC.from a (and_left (leb NSC.from a) (ltb a NSC.to) e), ltb-true a NSC.to (and_right (leb NSC.from a) (ltb a NSC.to) e))

pub veneer_there : (vs : List Veneer) → IsStrictlyIncreasing (map (λ v. v.address) vs) → (v : Veneer) (k : ℕ) → k < length vs → get_or vs k v ≡ v → veneer_at vs v.address ≡ Some v
veneer_there [] up v k lt e = absurd (omega (arith, lt))
veneer_there (w ∷ vs) up v zero lt e =
    ap (λ b. if b then Some w else veneer_at vs v.address) (ap (λ x. x.address == v.address) e ∙ same_number v.address) ∙ ap Some e
veneer_there (w ∷ vs) up v (suc k) lt e =
    let m = get_or-map (λ x. x.address) vs k v 0 (omega (arith, lt)) in
    let a : slice_index (map (λ x. x.address) vs) k ≡ v.address = m ∙ ap (λ x. x.address) e in
    let to : 0 + suc k ≡ suc k = omega arith in
    let r = subst (λ j. w.address < slice_index (map (λ x. x.address) (w ∷ vs)) j) to (rises (map (λ x. x.address) (w ∷ vs)) up 0 k (omega (arith, lt, length_addresses vs))) in
    let low : w.address < v.address = omega (arith, r, a) in
    ap (λ b. if b then Some w else veneer_at vs v.address) (other_address w.address v.address low)
    ∙ veneer_there vs (λ j below. subst (λ m. slice_index (map (λ x. x.address) vs) j < slice_index (map (λ x. x.address) (w ∷ vs)) m) (let n : suc j + 1 ≡ suc (j + 1) = omega arith in n) (up (suc j) (omega (arith, below)))) v k (omega (arith, lt)) e
  where
    length_addresses : (xs : List Veneer) → length (map (λ x. x.address) xs) ≡ length xs
    length_addresses [] = refl
    length_addresses (x ∷ xs) = ap suc (length_addresses xs)
