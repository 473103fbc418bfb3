-- Where objects stand: globals in Secure data, and the placed parameters and locals of a function in the block of each of
-- its calls.
use Rattle.std.specs.Prelude.{ℕ, zero, suc, ◌+◌, ◌-◌, max, Bool, false, cond, List, [], ◌∷◌, ◌++◌, drop, length, replicate, slice_set, Option, Some, None}
use Rattle.std.specs.List.{filter, fold}
use Rattle.std.specs.Option.{unwrap_or}
use Rattle.cm_base.specs.declared.regions.TheConstants.{SECURE_DATA}
use Rattle.ns_types.specs.State.{Memory}
use Rattle.ns_types.specs.SecureRam.{ram_place}
use Rattle.c_types.specs.declared.ctype.CType.{CType}
use Rattle.c_types.specs.Sizes.{align_of}
use Rattle.c_tree.specs.declared.program.TFunction.{TFunction}
use Rattle.c_tree.specs.declared.program.TGlobal.{TGlobal}
use Rattle.c_tree.specs.declared.program.TLocal.{TLocal}
use Rattle.c_tree.specs.Globals.{round_up, end_after, stands, globals_bytes}
use Rattle.c_tree.specs.Placed.{is_placed, stmt_taken}
use Rattle.c_tree.specs.Slots.{bytes_of}

-- where an object of this type begins that stands behind so many bytes: aligned
abbrev pub begins : ℕ → CType → ℕ
begins at t = round_up at (max (unwrap_or (align_of t) 1) 1)

-- ---- globals

-- where a global stands behind so many bytes of Secure data
abbrev pub home : ℕ → TGlobal → ℕ
home at g = SECURE_DATA.from + begins at g.ctype

-- The homes of globals in program order. Those with contents stand behind `at` bytes, and those that are left as they are
-- at the start behind `left` bytes.
abbrev pub homes_from : ℕ → ℕ → List TGlobal → List ℕ
homes_from at left [] = []
homes_from at left (g ∷ gs) = cond g.noinit (home left g ∷ homes_from at (end_after left g) gs) (home at g ∷ homes_from (end_after at g) left gs)

-- the homes of a program's globals: those that are left as they are at the start follow all others
abbrev pub homes : List TGlobal → List ℕ
homes gs = homes_from 0 (fold end_after 0 (filter (stands false) gs)) gs

-- bytes with those of a global behind them, and 0 in the gap
abbrev pub with_contents : List ℕ → TGlobal → List ℕ
with_contents bytes g = bytes ++ replicate (begins (length bytes) g.ctype - length bytes) 0 ++ g.init

-- the initial contents of a program's globals, as bytes from the beginning of Secure data on
abbrev pub contents : List TGlobal → List ℕ
contents gs = fold with_contents [] (filter (stands false) gs)

-- memory with these bytes at the beginning of Secure data
abbrev pub with_data : List ℕ → Memory → Memory
with_data bytes m = record m { secure_ram = bytes ++ drop (length bytes) m.secure_ram }

-- where the data stack begins: behind the globals, at a multiple of 8
abbrev pub data_stack : List TGlobal → ℕ
data_stack gs = SECURE_DATA.from + round_up (globals_bytes gs) 8

-- ---- blocks

-- Where each parameter and local stands in a block, if it is placed, and the bytes of the block so far.
pub record Block : Type 0 where
  pub offsets : List (Option ℕ)
  pub bytes : ℕ

-- a block with the next parameter or local, where the addresses of these are taken
abbrev pub with_local : List ℕ → Block → TLocal → Block
with_local taken b x =
    cond (is_placed taken (length b.offsets) x)
    (record { offsets = b.offsets ++ Some (begins b.bytes x.ctype) ∷ []; bytes = begins b.bytes x.ctype + bytes_of x.ctype })
    (record { offsets = b.offsets ++ None ∷ []; bytes = b.bytes })

-- the block of a function, parameters and locals in order of declaration
abbrev pub block_of : TFunction → Block
block_of f = fold (with_local (stmt_taken f.body)) (record { offsets = []; bytes = 0 }) (f.params ++ f.locals)

-- how many bytes a call of a function takes of the data stack
abbrev pub block_bytes : TFunction → ℕ
block_bytes f = round_up (block_of f).bytes 8

-- bytes with n zeros from a place on
abbrev pub zeroed : ℕ → ℕ → List ℕ → List ℕ
zeroed at zero bytes = bytes
zeroed at (suc n) bytes = zeroed (suc at) n (slice_set bytes at 0)

-- memory with n zeros from an address of Secure data on
abbrev pub cleared : ℕ → ℕ → Memory → Memory
cleared a n m = record m { secure_ram = zeroed (ram_place a) n m.secure_ram }
