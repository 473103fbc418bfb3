-- The bytes of Secure ROM hold the program.
use Rattle.std.proofs.Common.{◌≡◌, ◌≢◌, ℕ, zero, suc, ◌+◌, ◌-◌, ◌*◌, ◌/◌, ◌%◌, ◌<◌, Bool, true, false, cond, List, [], ◌∷◌, ◌++◌, length, refl, sym, ap, ◌∙◌, subst, ⊎_elim, arith, append_assoc, length-append, All, flat_map, IsTrue}
use Rattle.std.specs.Prelude.{eqb, ltb, ◌&&◌, slice_index, replicate}
use Rattle.std.proofs.lemmas.Grind.{common_steps}
use Rattle.std.proofs.lemmas.Bool.Decides.{nat_tests}
use Rattle.std.specs.List.{AllByRecursion}
use Rattle.std.proofs.lemmas.List.Elements.{All-from_recursion}
use Rattle.std.proofs.lemmas.Bool.{cases_lt}
use Rattle.v8m_isa.specs.declared.instr.Instr.{Instr}
use Rattle.v8m_isa.specs.declared.instr.Instr.TheVariants.{Mov, Bxns, Udf, Movw, Movt, Msr}
use Rattle.v8m_isa.specs.Table.{in_range_of, size_of, code_of}
use Rattle.ns_types.specs.Platform.{row_size, lies_in}
use Rattle.ns_types.specs.SecureRam.{main_seal}
use Rattle.ns_types.specs.Memory.{half_at, word_at, rom_size}
use Rattle.ns_types.specs.Gateway.{fetched, sg_half, is_gateway}
use Rattle.v8m_isa.proofs.DecodingLaws.{size-code_of, size_of_two_or_four}
use Rattle.cm_base.specs.LittleEndian.{le16, le32}
use Rattle.cm_base.specs.declared.regions.TheConstants.{SECURE_ROM, NSC}
use Rattle.v8m_isa.specs.Bytes.{instr_bytes, code_bytes, AllInRange}
use Rattle.v8m_isa.proofs.ByteLaws.{length_bytes}
use Rattle.v8m_core.specs.Code.{HasCode}
use Rattle.v8m_core.proofs.Bytes.{word_at_seam, has_code}
use Rattle.constant_entry.specs.Code.{start_code, entry_code, gateway_code, vectors, used_bytes, gateway_bytes, rom_bytes, constant_device, start_place, entry_place, stop_place, first_veneer}
use Rattle.constant_entry.specs.Shows.{GivesConstant}

-- how many bytes code has
abbrev code_size : List Instr → ℕ
code_size [] = 0
code_size (i ∷ is) = size_of i + code_size is

length-code_bytes : (is : List Instr) → length (code_bytes is) ≡ code_size is
length-code_bytes [] = refl
length-code_bytes (i ∷ is) = length-append (instr_bytes i) (code_bytes is) ∙ ap (λ n. n + length (code_bytes is)) (length_bytes i) ∙ ap (λ n. size_of i + n) (length-code_bytes is)

start_size : length (code_bytes start_code) ≡ 142
unfolding size_of
start_size = length-code_bytes start_code

entry_size : (n : ℕ) → length (code_bytes (entry_code n)) ≡ 24
unfolding size_of
entry_size n = length-code_bytes (entry_code n)

stop_size : length (code_bytes (Udf 0 ∷ [])) ≡ 2
unfolding size_of
stop_size = length-code_bytes (Udf 0 ∷ [])

gateway_size : length (code_bytes gateway_code) ≡ 8
unfolding size_of
gateway_size = length-code_bytes gateway_code

-- the test of the ranges, which computes
abbrev are_in_range : List Instr → Bool
are_in_range [] = true
are_in_range (i ∷ is) = in_range_of i && are_in_range is

and_parts : (a b : Bool) → (a && b) ≡ true → (a ≡ true) × (b ≡ true)
and_parts true b h = (refl, h)
and_parts false b h = cc

all_in_range : (is : List Instr) → are_in_range is ≡ true → AllInRange is
all_in_range [] h = tt
all_in_range (i ∷ is) h = let p = and_parts (in_range_of i) (are_in_range is) h in (p.0, all_in_range is p.1)

start_ranges : AllInRange start_code
unfolding in_range_of
start_ranges = all_in_range start_code refl

gateway_ranges : AllInRange gateway_code
unfolding in_range_of
gateway_ranges = all_in_range gateway_code refl

low_in_range : (n : ℕ) → in_range_of (Movw 0 (n % 65536)) ≡ true
unfolding in_range_of
low_in_range n = let lt : n % 65536 < 65536 = omega arith in let t : ltb (n % 65536) 65536 ≡ true = grind (arith, nat_tests) in t

high_in_range : (n : ℕ) → n < 4294967296 → in_range_of (Movt 0 (n / 65536)) ≡ true
unfolding in_range_of
high_in_range n h = let lt : n / 65536 < 65536 = omega arith in let t : ltb (n / 65536) 65536 ≡ true = grind (arith, nat_tests) in t

entry_ranges : (n : ℕ) → n < 4294967296 → AllInRange (entry_code n)
unfolding in_range_of
entry_ranges n h = (low_in_range n, (high_in_range n h, rest_ranges))
  where
    rest_ranges : AllInRange (Movw 1 0 ∷ Mov 2 1 ∷ Mov 3 1 ∷ Mov 12 1 ∷ Msr 0 1 ∷ Bxns 14 ∷ [])
    rest_ranges = all_in_range (Movw 1 0 ∷ Mov 2 1 ∷ Mov 3 1 ∷ Mov 12 1 ∷ Msr 0 1 ∷ Bxns 14 ∷ []) refl

abbrev zeros : ℕ → List ℕ
zeros n = replicate n 0

-- the bytes between the code and the callable region, and those behind the gateway
abbrev rest_of : ℕ → List ℕ
rest_of n = zeros (row_size 2 - length (used_bytes n))

abbrev region_rest : ℕ
region_rest = row_size 3 - 8

length-replicate : (n : ℕ) → length (zeros n) ≡ n
length-replicate n = grind (arith, common_steps)

pub used_size : (n : ℕ) → length (used_bytes n) ≡ 234
used_size n =
    length-append (vectors ++ code_bytes start_code ++ 0 ∷ 0 ∷ [] ++ code_bytes (entry_code n)) (code_bytes (Udf 0 ∷ []))
    ∙ ap (λ k. k + length (code_bytes (Udf 0 ∷ []))) (length-append (vectors ++ code_bytes start_code ++ 0 ∷ 0 ∷ []) (code_bytes (entry_code n)) ∙ ap (λ k. k + length (code_bytes (entry_code n))) front_size)
    ∙ ap (λ k. 208 + k + length (code_bytes (Udf 0 ∷ []))) (entry_size n)
    ∙ ap (λ k. 232 + k) stop_size
  where
    front_size : length (vectors ++ code_bytes start_code ++ 0 ∷ 0 ∷ []) ≡ 208
    front_size = length-append (vectors ++ code_bytes start_code) (0 ∷ 0 ∷ []) ∙ ap (λ k. k + 2) (length-append vectors (code_bytes start_code) ∙ ap (λ k. 64 + k) start_size)

-- seven pieces in a row, cut before any of them
pieces_2 : (a b x d e z g : List ℕ) → ((((a ++ b) ++ x) ++ d) ++ e) ++ z ++ g ≡ a ++ (b ++ (x ++ (d ++ (e ++ (z ++ g)))))
pieces_2 a b x d e z g = simp append_assoc

pieces_4 : (a b x d e z g : List ℕ) → ((((a ++ b) ++ x) ++ d) ++ e) ++ z ++ g ≡ ((a ++ b) ++ x) ++ (d ++ (e ++ (z ++ g)))
pieces_4 a b x d e z g = simp append_assoc

pub region_size : length gateway_bytes ≡ row_size 3
region_size =
    length-append (code_bytes gateway_code) (zeros region_rest) ∙ ap (λ k. k + length (zeros region_rest)) gateway_size ∙ ap (λ k. 8 + k) (length-replicate region_rest)

all_size : (n : ℕ) → length (rom_bytes n) ≡ rom_size
all_size n =
    length-append (used_bytes n ++ rest_of n) gateway_bytes
    ∙ ap (λ k. k + length gateway_bytes) (length-append (used_bytes n) (rest_of n) ∙ ap (λ k. length (used_bytes n) + k) (length-replicate (row_size 2 - length (used_bytes n))))
    ∙ ap (λ k. k + (row_size 2 - k) + length gateway_bytes) (used_size n)
    ∙ ap (λ k. row_size 2 + k) region_size

before_size : (n : ℕ) → length (used_bytes n ++ rest_of n) ≡ row_size 2
before_size n =
    length-append (used_bytes n) (rest_of n) ∙ ap (λ k. length (used_bytes n) + k) (length-replicate (row_size 2 - length (used_bytes n)))
    ∙ ap (λ k. k + (row_size 2 - k)) (used_size n)

front_size : length ((vectors ++ code_bytes start_code) ++ 0 ∷ 0 ∷ []) ≡ 208
front_size = length-append (vectors ++ code_bytes start_code) (0 ∷ 0 ∷ []) ∙ ap (λ k. k + 2) (length-append vectors (code_bytes start_code) ∙ ap (λ k. 64 + k) start_size)

start_stands : (n : ℕ) → HasCode (constant_device n) start_place start_code
start_stands n =
    has_code start_code (rom_bytes n) vectors _ (pieces_2 vectors (code_bytes start_code) (0 ∷ 0 ∷ []) (code_bytes (entry_code n)) (code_bytes (Udf 0 ∷ [])) (rest_of n) gateway_bytes) (let e = all_size n in omega arith) start_ranges

entry_stands : (n : ℕ) → n < 4294967296 → HasCode (constant_device n) entry_place (entry_code n)
entry_stands n h =
    subst (λ k. HasCode (constant_device n) (SECURE_ROM.from + k) (entry_code n)) front_size
    (has_code (entry_code n) (rom_bytes n) ((vectors ++ code_bytes start_code) ++ 0 ∷ 0 ∷ []) _ (pieces_4 vectors (code_bytes start_code) (0 ∷ 0 ∷ []) (code_bytes (entry_code n)) (code_bytes (Udf 0 ∷ [])) (rest_of n) gateway_bytes) (let e = all_size n in omega arith) (entry_ranges n h))

gateway_stands : (n : ℕ) → HasCode (constant_device n) first_veneer gateway_code
gateway_stands n =
    subst (λ k. HasCode (constant_device n) (SECURE_ROM.from + k) gateway_code) (before_size n)
    (has_code gateway_code (rom_bytes n) (used_bytes n ++ rest_of n) (zeros region_rest) refl (let e = all_size n in omega arith) gateway_ranges)

-- the bytes of the gateway and of the branch behind it
gateway_cells : code_bytes gateway_code ≡ 127 ∷ 233 ∷ 127 ∷ 233 ∷ 1 ∷ 244 ∷ 100 ∷ 184 ∷ []
unfolding code_of size_of
gateway_cells = refl

-- a halfword behind a front of a list
half_past : (pre xs : List ℕ) (k o : ℕ) → o ≡ length pre + k → half_at (pre ++ xs) o ≡ half_at xs k
unfolding half_at
half_past pre xs k o e =
    let a : slice_index (pre ++ xs) o ≡ slice_index xs k = grind (arith, common_steps) in
    let b : slice_index (pre ++ xs) (o + 1) ≡ slice_index xs (k + 1) = grind (arith, common_steps) in
    ap (λ x. (x + 256 * slice_index (pre ++ xs) (o + 1)) % 65536) a ∙ ap (λ x. (slice_index xs k + 256 * x) % 65536) b

zero_at : (n k : ℕ) → slice_index (zeros n) k ≡ 0
zero_at n k = grind (arith, common_steps)

half_zero : (n k : ℕ) → half_at (zeros n) k ≡ 0
unfolding half_at
half_zero n k = ap (λ x. (x + 256 * slice_index (zeros n) (k + 1)) % 65536) (zero_at n k) ∙ ap (λ x. (0 + 256 * x) % 65536) (zero_at n (k + 1))

-- a halfword of the callable region
half_there : (n a k : ℕ) → a ≡ NSC.from + k → fetched (constant_device n) a ≡ half_at gateway_bytes k
half_there n a k e = half_past (used_bytes n ++ rest_of n) gateway_bytes k (a - SECURE_ROM.from) (let b = before_size n in omega arith)

pub code_bytes-is : (is : List Instr) → code_bytes is ≡ flat_map instr_bytes is
code_bytes-is [] = refl
code_bytes-is (i ∷ is) = ap (λ l. instr_bytes i ++ l) (code_bytes-is is)

-- every instruction of the code is in range
by_recursion : (is : List Instr) → AllInRange is → AllByRecursion (λ i. IsTrue (in_range_of i)) is
by_recursion [] h = tt
by_recursion (i ∷ is) h = (h.0, by_recursion is h.1)

all_of : (is : List Instr) → AllInRange is → All (λ i. IsTrue (in_range_of i)) is
all_of is h = All-from_recursion (λ i. IsTrue (in_range_of i)) is (by_recursion is h)

pub start_all : All (λ i. IsTrue (in_range_of i)) start_code
start_all = all_of start_code start_ranges

pub entry_all : (n : ℕ) → n < 4294967296 → All (λ i. IsTrue (in_range_of i)) (entry_code n)
entry_all n h = all_of (entry_code n) (entry_ranges n h)

pub stop_all : All (λ i. IsTrue (in_range_of i)) (Udf 0 ∷ [])
unfolding in_range_of
stop_all = all_of (Udf 0 ∷ []) (all_in_range (Udf 0 ∷ []) refl)

pub gateway_all : All (λ i. IsTrue (in_range_of i)) gateway_code
gateway_all = all_of gateway_code gateway_ranges

-- an instruction's bytes, as they are written
pub instr_wide : (i : Instr) (s : ℕ) → (code_of i).size ≡ s → s ≡ 4 → instr_bytes i ≡ le16 (code_of i).first ++ le16 (code_of i).second
instr_wide i s e f =
    ap (λ n. cond (eqb n 2) (le16 (code_of i).first) (le16 (code_of i).first ++ le16 (code_of i).second)) (sym (size-code_of i) ∙ e ∙ f)

pub instr_narrow : (i : Instr) (s : ℕ) → (code_of i).size ≡ s → s ≢ 4 → instr_bytes i ≡ le16 (code_of i).first
instr_narrow i s e f =
    let n : size_of i ≡ 2 = ⊎_elim (λ t. t) (λ t. absurd (f (sym e ∙ size-code_of i ∙ t))) (size_of_two_or_four i) in
    ap (λ n. cond (eqb n 2) (le16 (code_of i).first) (le16 (code_of i).first ++ le16 (code_of i).second)) n

-- the callable region, byte by byte
abbrev cells : List ℕ → List ℕ
cells rest = 127 ∷ 233 ∷ 127 ∷ 233 ∷ 1 ∷ 244 ∷ 100 ∷ 184 ∷ rest

region_is : gateway_bytes ≡ cells (zeros region_rest)
region_is = ap (λ l. l ++ zeros region_rest) gateway_cells

abbrev opens_at : List ℕ → ℕ → Bool
opens_at bytes k = eqb (half_at bytes k) sg_half && eqb (half_at bytes (k + 2)) sg_half

-- SG stands at the beginning, and at no other even place
opens_first : (rest : List ℕ) → opens_at (cells rest) 0 ≡ true
unfolding half_at
opens_first rest = refl

opens_nowhere : (n k : ℕ) → k % 2 ≡ 0 → k ≢ 0 → opens_at (cells (zeros n)) k ≡ false
unfolding half_at
opens_nowhere n zero even ne = absurd (ne refl)
opens_nowhere n (suc zero) even ne = absurd (omega arith)
opens_nowhere n (suc (suc zero)) even ne = refl
opens_nowhere n (suc (suc (suc zero))) even ne = absurd (omega arith)
opens_nowhere n (suc (suc (suc (suc zero)))) even ne = refl
opens_nowhere n (suc (suc (suc (suc (suc zero))))) even ne = absurd (omega arith)
opens_nowhere n (suc (suc (suc (suc (suc (suc zero)))))) even ne = refl
opens_nowhere n (suc (suc (suc (suc (suc (suc (suc zero))))))) even ne = absurd (omega arith)
opens_nowhere n (suc (suc (suc (suc (suc (suc (suc (suc j)))))))) even ne =
    let nothing : half_at (cells (zeros n)) (suc (suc (suc (suc (suc (suc (suc (suc j)))))))) ≡ 0 = half_past (127 ∷ 233 ∷ 127 ∷ 233 ∷ 1 ∷ 244 ∷ 100 ∷ 184 ∷ []) (zeros n) j (suc (suc (suc (suc (suc (suc (suc (suc j)))))))) (omega arith) ∙ half_zero n j in
    ap (λ x. eqb x sg_half && eqb (half_at (cells (zeros n)) (suc (suc (suc (suc (suc (suc (suc (suc j))))))) + 2)) sg_half) nothing

-- a gateway is open at the first veneer alone
gateway_alone : (n a : ℕ) → a % 2 ≡ 0 → is_gateway (constant_device n) a ≡ eqb a first_veneer
unfolding is_gateway
gateway_alone n a even =
    ⊎_elim
    (λ below. let out : lies_in 3 a 4 ≡ false = grind (arith, nat_tests) in let ne : eqb a first_veneer ≡ false = grind (arith, nat_tests) in ap (λ b. b && opens) out ∙ sym ne)
    (λ from.
    ⊎_elim
    (λ within.
    let k = a - NSC.from in
    let at : a ≡ NSC.from + k = omega arith in
    let here : opens ≡ opens_at (cells (zeros region_rest)) k = ap (λ x. eqb x sg_half && eqb (fetched (constant_device n) (a + 2)) sg_half) (half_there n a k at) ∙ ap (λ x. eqb (half_at gateway_bytes k) sg_half && eqb x sg_half) (half_there n (a + 2) (k + 2) (omega arith)) ∙ ap (λ l. opens_at l k) region_is in
    let inn : lies_in 3 a 4 ≡ true = grind (arith, nat_tests) in
    ap (λ b. b && opens) inn ∙ here
    ∙ ⊎_elim
    (λ first. let z : k ≡ 0 = omega arith in let e : eqb a first_veneer ≡ true = grind (arith, nat_tests) in ap (opens_at (cells (zeros region_rest))) z ∙ opens_first (zeros region_rest) ∙ sym e)
    (λ later. let nz : k ≢ 0 = λ z. omega arith in let e : eqb a first_veneer ≡ false = grind (arith, nat_tests) in opens_nowhere region_rest k (omega arith) nz ∙ sym e)
    (cases_lt a (NSC.from + 1)))
    (λ past. let out : lies_in 3 a 4 ≡ false = grind (arith, nat_tests) in let ne : eqb a first_veneer ≡ false = grind (arith, nat_tests) in ap (λ b. b && opens) out ∙ sym ne)
    (cases_lt a (NSC.to - 3)))
    (cases_lt a NSC.from)
  where
    opens : Bool
    opens = eqb (fetched (constant_device n) a) sg_half && eqb (fetched (constant_device n) (a + 2)) sg_half

-- the first two words
first_words : (n : ℕ) → (word_at (rom_bytes n) 0 ≡ main_seal) × (word_at (rom_bytes n) 4 ≡ start_place + 1)
first_words n =
    let rest : List ℕ = flat_map le32 (replicate 14 (stop_place + 1)) ++ (code_bytes start_code ++ (0 ∷ 0 ∷ [] ++ (code_bytes (entry_code n) ++ (code_bytes (Udf 0 ∷ []) ++ (rest_of n ++ gateway_bytes))))) in
    let e : rom_bytes n ≡ le32 main_seal ++ (le32 (start_place + 1) ++ rest) = pieces_2 vectors (code_bytes start_code) (0 ∷ 0 ∷ []) (code_bytes (entry_code n)) (code_bytes (Udf 0 ∷ [])) (rest_of n) gateway_bytes in
    (ap (λ l. word_at l 0) e ∙ word_at_seam [] (le32 (start_place + 1) ++ rest) main_seal 0 (omega arith) refl, ap (λ l. word_at l 4) e ∙ word_at_seam (le32 main_seal) rest (start_place + 1) 4 (omega arith) refl)

pub gives_constant : (n : ℕ) → n < 4294967296 → GivesConstant (constant_device n) n
gives_constant n h = record {
  stack = (first_words n).0;
  reset = (first_words n).1;
  start = start_stands n;
  gateway = gateway_stands n;
  entry = entry_stands n h;
  alone = gateway_alone n;
}
