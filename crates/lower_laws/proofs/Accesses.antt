-- Reads and writes of memory.
use Rattle.std.proofs.Common.{◌≡◌, ℕ, ◌<◌, ◌≤◌, ◌||◌, Bool, true, false, cond, List, [], ◌∷◌, ◌++◌, map, refl, sym, ap, ◌∙◌, subst, arith, append_assoc, Result, Ok, Err, Option, Some, None}
use Rattle.std.proofs.lemmas.List.{append-nil}
use Rattle.cm_base.specs.declared.stop.Stop.{Stop}
use Rattle.ns_types.specs.declared.event.CEvent.{CEvent}
use Rattle.ns_types.specs.State.{Memory, device_of}
use Rattle.ns_types.specs.Platform.{in_row}
use Rattle.ns_types.specs.Memory.{load, byte_at, half_at}
use Rattle.ns_types.specs.Access.{read_access, write_access, Written, access_stop, may_read, unless}
use Rattle.ns_types.specs.CRun.{World, emit_plain}
use Rattle.ns_types.specs.Alike.{low}
use Rattle.c_types.specs.declared.arith.Arith.{Arith}
use Rattle.c_types.specs.declared.arith.Arith.TheVariants as a
use Rattle.c_types.specs.declared.ctype.CType.{CType}
use Rattle.c_types.specs.Kind.{arithmetic}
use Rattle.c_mean.specs.Parts.{Has, then_with, or_halt}
use Rattle.c_mean.specs.Values.{At, converted, converted_as, size_as, value_size, read_spot, write_spot, written, all_emitted}
use Rattle.mid_ir.specs.Activation.{Vars, put, plain, wrote, Site}
use Rattle.mid_ir.specs.Run.{Next, or_stop, after_write, extended, read, run}
use Rattle.mid_ir.proofs.RunLaws.{run_Load, run_Store}
use Rattle.lower_code.specs.Pieces as code
use Rattle.lower_laws.proofs.Relate.{Runs, left, stops}

-- ---- a number that was read has no more bytes than were read

byte_small : (bytes : List ℕ) (o : ℕ) → byte_at bytes o < 256
unfolding byte_at
byte_small bytes o = omega arith

half_small : (bytes : List ℕ) (o : ℕ) → half_at bytes o < 65536
unfolding half_at
half_small bytes o = omega arith

cond_small : (b : Bool) (x y n : ℕ) → x < n → y < n → cond b x y < n
cond_small true x y n p q = p
cond_small false x y n p q = q

load_one : (at : ℕ) (m : Memory) → load 1 at (device_of []) m < 256
unfolding load
load_one at m =
    cond_small (in_row 4 at || in_row 5 at) _ _ 256 (byte_small m.secure_ram _)
    (cond_small (in_row 1 at) _ _ 256 (byte_small m.ns_ram _) (cond_small (in_row 0 at) _ _ 256 (byte_small m.ns_rom _) (byte_small [] _)))

load_two : (at : ℕ) (m : Memory) → load 2 at (device_of []) m < 65536
unfolding load
load_two at m =
    cond_small (in_row 4 at || in_row 5 at) _ _ 65536 (half_small m.secure_ram _)
    (cond_small (in_row 1 at) _ _ 65536 (half_small m.ns_ram _) (cond_small (in_row 0 at) _ _ 65536 (half_small m.ns_rom _) (half_small [] _)))

from_unless : (s : Option Stop) (y x n : ℕ) → y < n → unless s y ≡ Ok x → x < n
from_unless None y x n lt e = let q : y ≡ x = cc in omega (arith, q, lt)
from_unless (Some s) y x n lt e = absurd cc

read_one : (at : ℕ) (m : Memory) (x : ℕ) → read_access 1 at m ≡ Ok x → x < 256
unfolding read_access
read_one at m x e = from_unless (access_stop (may_read at 1) at 1) (load 1 at (device_of []) m) x 256 (load_one at m) e

read_two : (at : ℕ) (m : Memory) (x : ℕ) → read_access 2 at m ≡ Ok x → x < 65536
unfolding read_access
read_two at m x e = from_unless (access_stop (may_read at 2) at 2) (load 2 at (device_of []) m) x 65536 (load_two at m) e

-- extended as a load does it, and converted
extended_is : (t : Option Arith) (at : ℕ) (m : Memory) (x : ℕ) → read_access (size_as t) at m ≡ Ok x → extended (code.has_sign (code.kind_as t)) (size_as t) x ≡ converted_as t x
extended_is None at m x e = refl
extended_is (Some a.Char) at m x e = let lt = read_one at m x e in omega (arith, lt)
extended_is (Some a.SignedChar) at m x e = refl
extended_is (Some a.UnsignedChar) at m x e = let lt = read_one at m x e in omega (arith, lt)
extended_is (Some a.Short) at m x e = refl
extended_is (Some a.UnsignedShort) at m x e = let lt = read_two at m x e in omega (arith, lt)
extended_is (Some a.Int) at m x e = refl
extended_is (Some a.Unsigned) at m x e = refl
extended_is (Some a.Long) at m x e = refl
extended_is (Some a.UnsignedLong) at m x e = refl

-- ---- loads

-- x is put into v, and all else stays
pub record Put (v : ℕ) (l : List ℕ) (old : Vars) (x : ℕ) (m : List ℕ) (new : Vars) : Type 0 where
  pub list : m ≡ l
  pub vars : new ≡ put old v x

pub result_puts : (v p : ℕ) (l : List ℕ) (old : Vars) (w : World) (q : Result ℕ Stop) → p ≤ w.peak → Runs (Put v l old) (or_halt q l w) (or_stop v old (low p w) q)
result_puts v p l old w (Ok x) le = left (Put v l old) x l (put old v x) w p le (record { list = refl; vars = refl })
result_puts v p l old w (Err s) le = stops (Put v l old) s w p le

pub load_puts : (r : Site) (c : CType) (v from at p : ℕ) (l : List ℕ) (old : Vars) (w : World) → p ≤ w.peak → old from ≡ at → Runs (Put v l old) (read_spot c (At at) l w) (run r (code.load c v from) old (low p w))
load_puts r c v from at p l old w le e =
    rw (run_Load r v from (value_size c) (code.has_sign (code.kind_of c)) old (low p w), e)
    (by_result (read_access (value_size c) at w.memory) refl)
  where
    by_result : (q : Result ℕ Stop) → read_access (value_size c) at w.memory ≡ q
        → Runs (Put v l old) (then_with (or_halt q l w) (λ x m u. Has (converted c x) m u)) (or_stop v old (low p w) (read (value_size c) (code.has_sign (code.kind_of c)) q))
    by_result (Ok x) h = subst (λ y. Runs (Put v l old) (Has (converted c x) l w) (Next (put old v y) (low p w))) (sym (extended_is (arithmetic c) at w.memory x h)) (left (Put v l old) (converted c x) l (put old v (converted c x)) w p le (record { list = refl; vars = refl }))
    by_result (Err s) h = stops (Put v l old) s w p le

-- ---- stores

-- nothing changes but the world
pub record Same (x : ℕ) (l : List ℕ) (old : Vars) (y : ℕ) (m : List ℕ) (new : Vars) : Type 0 where
  pub value : y ≡ x
  pub list : m ≡ l
  pub vars : new ≡ old

emitted_is : (es : List CEvent) (u : World) → all_emitted es u ≡ record u { events = u.events ++ map (plain u) es }
emitted_is [] u = ap (λ z. record u { events = z }) (sym (append-nil u.events))
emitted_is (e ∷ es) u = emitted_is es (emit_plain e u) ∙ ap (λ z. record u { events = z }) (append_assoc u.events (plain u e ∷ []) (map (plain u) es))

pub store_same : (r : Site) (c : CType) (to v at x p : ℕ) (l : List ℕ) (old : Vars) (w : World) → p ≤ w.peak → old to ≡ at → old v ≡ x → Runs (Same x l old) (write_spot c (At at) x l w) (run r (code.store c to v) old (low p w))
store_same r c to v at x p l old w le e f =
    rw (run_Store r to (value_size c) v old (low p w), e, f)
    (by_result (write_access (value_size c) at x w.memory))
  where
    by_result : (q : Result Written Stop) → Runs (Same x l old) (written q x l w) (after_write old (low p w) q)
    by_result (Ok q) =
        subst (λ u. Runs (Same x l old) (Has x l u) (Next old (wrote q (low p w)))) (sym (emitted_is q.events (record w { memory = q.memory })))
        (left (Same x l old) x l old (wrote q w) p le (record { value = refl; list = refl; vars = refl }))
    by_result (Err s) = stops (Same x l old) s w p le
