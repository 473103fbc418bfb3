-- TT (DDI0553, TT and TT_RESP): what Secure code is told of an address. The permissions are those of the regions; there is
-- no MPU, so that TT, TTT, TTA and TTAT answer alike.
use Rattle.std.specs.Prelude.{ℕ, ◌+◌, ◌*◌, Bool, cond, ◌&&◌, not, Option, Some, None}
use Rattle.ns_types.specs.Platform.{region_of, is_readable, is_writable, is_secure}

-- a field of one bit, by its weight
abbrev pub flag : Bool → ℕ → ℕ
flag b weight = cond b weight 0

-- In a region: IREGION from bit 24 on, IRVALID 23, S 22, NSRW 21, NSR 20, RW 19, R 18. The fields of the MPU and the SAU
-- are 0. In no region all is 0.
abbrev pub answer : Option ℕ → (secure readable writable : Bool) → ℕ
answer None secure readable writable = 0
answer (Some k) secure readable writable =
    16777216 * k + 8388608 + flag secure 4194304 + flag (writable && not secure) 2097152 + flag (readable && not secure) 1048576 + flag writable 524288 + flag readable 262144

-- the answer for an address
unfoldable pub target_of : ℕ → ℕ
target_of a = answer (region_of a) (is_secure a) (is_readable a 1) (is_writable a 1)
