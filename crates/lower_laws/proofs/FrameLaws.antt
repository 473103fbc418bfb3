-- The homes of parameters and locals, and the block.
use Rattle.std.proofs.Common.{◌≡◌, ℕ, zero, suc, ◌+◌, ◌-◌, ◌%◌, ◌<◌, ◌≤◌, ◌⊎◌, Bool, true, false, cond, max, List, [], ◌∷◌, ◌++◌, length, fold, refl, ap, ◌∙◌, inl, inr, ⊎_elim, arith, Option, Some, None, slice_get, length-append}
use Rattle.std.specs.Option.{unwrap_or}
use Rattle.c_types.specs.Sizes.{align_of}
use Rattle.c_tree.specs.Slots.{bytes_of}
use Rattle.c_tree.specs.Placed.{is_placed, stmt_taken}
use Rattle.c_tree.specs.declared.program.TFunction.{TFunction}
use Rattle.c_tree.specs.declared.program.TLocal.{TLocal}
use Rattle.c_mean.specs.Homes.{Block, begins, with_local, block_of, block_bytes}
use Rattle.lower_code.specs.Frames.{Home, Variable, Placed, home_or, homes_from, free_from, frame_of}
use Rattle.lower_laws.proofs.Relate.{IsFrame}

-- ---- homes by where locals stand

pub homes_length : (params v : ℕ) (os : List (Option ℕ)) → length (homes_from params v os) ≡ length os
homes_length zero v [] = refl
homes_length (suc params) v [] = refl
homes_length (suc params) v (o ∷ os) = ap suc (homes_length params (v + 1) os)
homes_length zero v (None ∷ os) = ap suc (homes_length zero (v + 1) os)
homes_length zero v (Some offset ∷ os) = ap suc (homes_length zero v os)

-- a local has a variable where it isn't placed
abbrev pub From : Home → Option (Option ℕ) → Type 0
From (Variable v) o = o ≡ Some None
From (Placed offset) o = o ≡ Some (Some offset)

from_or : (v : ℕ) (o : Option ℕ) (h : Home) → Some (home_or v o) ≡ Some h → From h (Some o)
from_or v None (Variable u) e = refl
from_or v None (Placed offset) e = absurd cc
from_or v (Some a) (Variable u) e = absurd cc
from_or v (Some a) (Placed offset) e = let q : a ≡ offset = cc in ap (λ (z : ℕ). Some (Some z)) q

pub home_from : (params v : ℕ) (os : List (Option ℕ)) (i : ℕ) (h : Home) → slice_get (homes_from params v os) i ≡ Some h → From h (slice_get os i)
home_from zero v [] i h e = absurd cc
home_from (suc params) v [] i h e = absurd cc
home_from (suc params) v (o ∷ os) zero h e = from_or v o h e
home_from (suc params) v (o ∷ os) (suc i) h e = home_from params (v + 1) os i h e
home_from zero v (None ∷ os) zero h e = from_or v None h e
home_from zero v (None ∷ os) (suc i) h e = home_from zero (v + 1) os i h e
home_from zero v (Some offset ∷ os) zero h e = from_or v (Some offset) h e
home_from zero v (Some offset ∷ os) (suc i) h e = home_from zero v os i h e

free_least : (params v : ℕ) (os : List (Option ℕ)) → v ≤ free_from params v os
free_least zero v [] = omega arith
free_least (suc params) v [] = omega arith
free_least (suc params) v (o ∷ os) = let h = free_least params (v + 1) os in omega (arith, h)
free_least zero v (None ∷ os) = let h = free_least zero (v + 1) os in omega (arith, h)
free_least zero v (Some offset ∷ os) = free_least zero v os

variable_or : (v : ℕ) (o : Option ℕ) (u : ℕ) → Some (home_or v o) ≡ Some (Variable u) → u ≡ v
variable_or v None u e = cc
variable_or v (Some a) u e = absurd cc

-- variables are counted up, from v
pub variable_least : (params v : ℕ) (os : List (Option ℕ)) (i u : ℕ) → slice_get (homes_from params v os) i ≡ Some (Variable u) → v ≤ u
variable_least zero v [] i u e = absurd cc
variable_least (suc params) v [] i u e = absurd cc
variable_least (suc params) v (o ∷ os) zero u e = let q = variable_or v o u e in omega (arith, q)
variable_least (suc params) v (o ∷ os) (suc i) u e = let h = variable_least params (v + 1) os i u e in omega (arith, h)
variable_least zero v (None ∷ os) zero u e = let q = variable_or v None u e in omega (arith, q)
variable_least zero v (None ∷ os) (suc i) u e = let h = variable_least zero (v + 1) os i u e in omega (arith, h)
variable_least zero v (Some offset ∷ os) zero u e = absurd cc
variable_least zero v (Some offset ∷ os) (suc i) u e = variable_least zero v os i u e

variable_below : (params v : ℕ) (os : List (Option ℕ)) (i u : ℕ) → slice_get (homes_from params v os) i ≡ Some (Variable u) → u < free_from params v os
variable_below zero v [] i u e = absurd cc
variable_below (suc params) v [] i u e = absurd cc
variable_below (suc params) v (o ∷ os) zero u e = let q = variable_or v o u e in let h = free_least params (v + 1) os in omega (arith, q, h)
variable_below (suc params) v (o ∷ os) (suc i) u e = variable_below params (v + 1) os i u e
variable_below zero v (None ∷ os) zero u e = let q = variable_or v None u e in let h = free_least zero (v + 1) os in omega (arith, q, h)
variable_below zero v (None ∷ os) (suc i) u e = variable_below zero (v + 1) os i u e
variable_below zero v (Some offset ∷ os) zero u e = absurd cc
variable_below zero v (Some offset ∷ os) (suc i) u e = variable_below zero v os i u e

variable_apart : (params v : ℕ) (os : List (Option ℕ)) (i j u : ℕ) → slice_get (homes_from params v os) i ≡ Some (Variable u) → slice_get (homes_from params v os) j ≡ Some (Variable u) → i ≡ j
variable_apart zero v [] i j u e f = absurd cc
variable_apart (suc params) v [] i j u e f = absurd cc
variable_apart (suc params) v (o ∷ os) zero zero u e f = refl
variable_apart (suc params) v (o ∷ os) zero (suc j) u e f = let q = variable_or v o u e in let h = variable_least params (v + 1) os j u f in absurd (omega (arith, q, h))
variable_apart (suc params) v (o ∷ os) (suc i) zero u e f = let q = variable_or v o u f in let h = variable_least params (v + 1) os i u e in absurd (omega (arith, q, h))
variable_apart (suc params) v (o ∷ os) (suc i) (suc j) u e f = ap suc (variable_apart params (v + 1) os i j u e f)
variable_apart zero v (None ∷ os) zero zero u e f = refl
variable_apart zero v (None ∷ os) zero (suc j) u e f = let q = variable_or v None u e in let h = variable_least zero (v + 1) os j u f in absurd (omega (arith, q, h))
variable_apart zero v (None ∷ os) (suc i) zero u e f = let q = variable_or v None u f in let h = variable_least zero (v + 1) os i u e in absurd (omega (arith, q, h))
variable_apart zero v (None ∷ os) (suc i) (suc j) u e f = ap suc (variable_apart zero (v + 1) os i j u e f)
variable_apart zero v (Some offset ∷ os) zero j u e f = absurd cc
variable_apart zero v (Some offset ∷ os) (suc i) zero u e f = absurd cc
variable_apart zero v (Some offset ∷ os) (suc i) (suc j) u e f = ap suc (variable_apart zero v os i j u e f)

-- a parameter has the variable of its number, and the others follow
pub param_variable : (params v : ℕ) (os : List (Option ℕ)) (i u : ℕ) → slice_get (homes_from params v os) i ≡ Some (Variable u) → ((i < params) × (u ≡ v + i)) ⊎ ((params ≤ i) × (v + params ≤ u))
param_variable zero v os i u e = let h = variable_least zero v os i u e in inr (omega arith, omega (arith, h))
param_variable (suc params) v [] i u e = absurd cc
param_variable (suc params) v (o ∷ os) zero u e = let q = variable_or v o u e in inl (omega arith, omega (arith, q))
param_variable (suc params) v (o ∷ os) (suc i) u e = next (param_variable params (v + 1) os i u e)
  where
    next : ((i < params) × (u ≡ v + 1 + i)) ⊎ ((params ≤ i) × (v + 1 + params ≤ u)) → ((suc i < suc params) × (u ≡ v + suc i)) ⊎ ((suc params ≤ suc i) × (v + suc params ≤ u))
    next (inl h) = let a = h.0 in let b = h.1 in inl (omega (arith, a), omega (arith, b))
    next (inr h) = let a = h.0 in let b = h.1 in inr (omega (arith, a), omega (arith, b))

pub params_free : (params v : ℕ) (os : List (Option ℕ)) → params ≤ length os → v + params ≤ free_from params v os
params_free zero v os h = let q = free_least zero v os in omega (arith, q)
params_free (suc params) v [] h = absurd (omega (arith, h))
params_free (suc params) v (o ∷ os) h = let q = params_free params (v + 1) os (omega (arith, h)) in omega (arith, q)

-- ---- blocks

-- each offset in a block is at most its bytes
abbrev IsBlock : Block → Type 0
IsBlock b = (i offset : ℕ) → slice_get b.offsets i ≡ Some (Some offset) → offset ≤ b.bytes

pushed : (os : List (Option ℕ)) (o : Option ℕ) (i offset : ℕ) → slice_get (os ++ o ∷ []) i ≡ Some (Some offset) → (slice_get os i ≡ Some (Some offset)) ⊎ (o ≡ Some offset)
pushed [] o zero offset e = inr cc
pushed [] o (suc i) offset e = absurd cc
pushed (x ∷ os) o zero offset e = inl e
pushed (x ∷ os) o (suc i) offset e = pushed os o i offset e

begins_after : (at : ℕ) (x : TLocal) → at ≤ begins at x.ctype
begins_after at x = let n = max (unwrap_or (align_of x.ctype) 1) 1 in le_add at ((n - at % n) % n)
  where
    le_add : (a b : ℕ) → a ≤ a + b
    le_add a b = omega arith

local_block : (taken : List ℕ) (b : Block) (x : TLocal) → IsBlock b → IsBlock (with_local taken b x)
local_block taken b x h = test (is_placed taken (length b.offsets) x)
  where
    test : (p : Bool) → IsBlock (cond p (record { offsets = b.offsets ++ Some (begins b.bytes x.ctype) ∷ []; bytes = begins b.bytes x.ctype + bytes_of x.ctype }) (record { offsets = b.offsets ++ None ∷ []; bytes = b.bytes }))
    test true i offset e =
        let q = begins_after b.bytes x in
        ⊎_elim (λ f. let k = h i offset f in omega (arith, k, q)) (λ f. let k : begins b.bytes x.ctype ≡ offset = cc in omega (arith, k)) (pushed b.offsets (Some (begins b.bytes x.ctype)) i offset e)
    test false i offset e = ⊎_elim (λ f. h i offset f) (λ f. absurd cc) (pushed b.offsets None i offset e)

local_length : (taken : List ℕ) (b : Block) (x : TLocal) → length (with_local taken b x).offsets ≡ suc (length b.offsets)
local_length taken b x = test (is_placed taken (length b.offsets) x)
  where
    more : (os : List (Option ℕ)) (o : Option ℕ) → length (os ++ o ∷ []) ≡ suc (length os)
    more os o = length-append os (o ∷ []) ∙ omega arith

    test : (p : Bool) → length (cond {A = Block} p (record { offsets = b.offsets ++ Some (begins b.bytes x.ctype) ∷ []; bytes = begins b.bytes x.ctype + bytes_of x.ctype }) (record { offsets = b.offsets ++ None ∷ []; bytes = b.bytes })).offsets ≡ suc (length b.offsets)
    test true = more b.offsets (Some (begins b.bytes x.ctype))
    test false = more b.offsets None

locals_block : (taken : List ℕ) (xs : List TLocal) (b : Block) → IsBlock b → IsBlock (fold (with_local taken) b xs)
locals_block taken [] b h = h
locals_block taken (x ∷ xs) b h = locals_block taken xs (with_local taken b x) (local_block taken b x h)

locals_length : (taken : List ℕ) (xs : List TLocal) (b : Block) → length (fold (with_local taken) b xs).offsets ≡ length b.offsets + length xs
locals_length taken [] b = omega arith
locals_length taken (x ∷ xs) b = let h = local_length taken b x in locals_length taken xs (with_local taken b x) ∙ omega (arith, h)

pub offset_within : (f : TFunction) (i offset : ℕ) → slice_get (block_of f).offsets i ≡ Some (Some offset) → offset ≤ block_bytes f
offset_within f i offset e =
    let h = locals_block (stmt_taken f.body) (f.params ++ f.locals) (record { offsets = []; bytes = 0 }) (λ i offset e. absurd cc) i offset e in
    omega (arith, h)

pub offsets_length : (f : TFunction) → length (block_of f).offsets ≡ length f.params + length f.locals
offsets_length f = locals_length (stmt_taken f.body) (f.params ++ f.locals) (record { offsets = []; bytes = 0 }) ∙ (let h = length-append f.params f.locals in omega (arith, h))

pub block_by_eight : (f : TFunction) → block_bytes f % 8 ≡ 0
block_by_eight f = let n = (block_of f).bytes in omega arith

-- ---- frames

pub is_frame : (globals : List ℕ) (f : TFunction) → IsFrame (frame_of globals f)
is_frame globals f = record {
  below = λ i v e. variable_below (length f.params) 0 (block_of f).offsets i v e;
  apart = λ i j v e q. variable_apart (length f.params) 0 (block_of f).offsets i j v e q;
}

pub homes_many : (globals : List ℕ) (f : TFunction) → length (frame_of globals f).homes ≡ length f.params + length f.locals
homes_many globals f = homes_length (length f.params) 0 (block_of f).offsets ∙ offsets_length f
