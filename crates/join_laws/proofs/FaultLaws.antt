-- What holds at each unit where a fault isn't found.
use Rattle.std.proofs.Common.{◌≡◌, ℕ, zero, suc, ◌+◌, ◌<◌, true, false, List, [], ◌∷◌, length, slice_get, subst, None, Some, arith}
use Rattle.c_tree.specs.declared.program.Extern.{Extern}
use Rattle.c_tree.specs.Conditions.{TUnit, declared}
use Rattle.join_laws.specs.Keys.{Key, function_keys, global_keys, numbers_of}
use Rattle.join_laws.specs.Joined.{differs, disputed, undefined_use}
use Rattle.join_laws.specs.Uses.{all_defined, functions_uses}
use Rattle.join_laws.proofs.ProgramLaws.{agree}
use Rattle.join_laws.proofs.UnitLaws.{Defined, disputed_none, undefined_none}

from_none : (a b : ℕ) → a < b → a < length {A = TUnit} [] + b
from_none a b h = omega arith

pub no_dispute : (us : List TUnit) → disputed [] us ≡ None → (i j : ℕ) → i < j → (u v : TUnit) → slice_get us i ≡ Some u → slice_get us j ≡ Some v → (m : ℕ) (x : Extern) → slice_get v.externs m ≡ Some x → x.is_static ≡ false → differs x (declared u.externs x.name) ≡ false
no_dispute us none i j lt u v to at m x e s = agree [] us (disputed_none [] us none) j v at m x e s i u (from_none i j lt) to

defined_at : (fk gk : List Key) (n k m : ℕ) (us : List TUnit) (u : TUnit) → m ≡ k + n → Defined fk gk n us → slice_get us k ≡ Some u → all_defined (numbers_of fk gk m u.externs) (functions_uses u.functions) ≡ true
defined_at fk gk n k m [] u is d e = cc
defined_at fk gk n zero m (w ∷ ws) u is d e =
    let s : w ≡ u = cc in
    let number : n ≡ m = omega (arith, is) in
    subst (λ z. all_defined (numbers_of fk gk z u.externs) (functions_uses u.functions) ≡ true) number (subst (λ z. all_defined (numbers_of fk gk n z.externs) (functions_uses z.functions) ≡ true) s d.0)
defined_at fk gk n (suc k) m (w ∷ ws) u is d e = let next : m ≡ k + (n + 1) = omega (arith, is) in defined_at fk gk (n + 1) k m ws u next d.1 e

pub all_found : (us : List TUnit) → undefined_use us ≡ None → (n : ℕ) (u : TUnit) → slice_get us n ≡ Some u → all_defined (numbers_of (function_keys us) (global_keys us) n u.externs) (functions_uses u.functions) ≡ true
all_found us none n u at = let is : n ≡ n + 0 = omega arith in defined_at (function_keys us) (global_keys us) 0 n n us u is (undefined_none (function_keys us) (global_keys us) 0 None us none).1 at
