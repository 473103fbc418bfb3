-- Names that are reserved for the tools (ECM0359818, 5.4, and arm_cmse.h).
use Rattle.std.specs.Prelude.{ℕ, Bool, ◌||◌, List, take, codes, bytes_eq}
use Rattle.c_tree.specs.Conditions.{is_twin}

-- a name that begins with __acle_se_ or cmse_
abbrev pub is_reserved : List ℕ → Bool
is_reserved name = is_twin name || bytes_eq (take 5 name) (codes "cmse_")
