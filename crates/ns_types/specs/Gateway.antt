-- Secure gateways (DDI0553, SG).
use Rattle.std.specs.Prelude.{ℕ, ◌+◌, ◌-◌, Bool, cond, ◌&&◌, eqb, Option, Some, None}
use Rattle.ns_types.specs.State.{Device}
use Rattle.ns_types.specs.Platform.{row, lies_in}
use Rattle.ns_types.specs.Memory.{half_at}

-- the halfword of Secure ROM at an address
abbrev pub fetched : Device → ℕ → ℕ
fetched device a = half_at device.rom (a - (row 2).from)

-- each halfword of SG
abbrev pub sg_half : ℕ
sg_half = 0xE97F

-- a Secure gateway stands at an address: SG within the Non-secure callable region
unfoldable pub is_gateway : Device → ℕ → Bool
is_gateway device a = lies_in 3 a 4 && (eqb (fetched device a) sg_half && eqb (fetched device (a + 2)) sg_half)

abbrev pub gateway_at : Device → ℕ → Option ℕ
gateway_at device a = cond (is_gateway device a) (Some a) None
