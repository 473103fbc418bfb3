-- Lists of registers in Secure RAM.
use Rattle.std.specs.Prelude.{◌≡◌, ℕ, ◌+◌, ◌%◌, ◌≤◌, cond, List, [], ◌∷◌}
use Rattle.cm_base.specs.declared.regions.TheConstants.{SECURE_DATA, SECURE_CONTROL}
use Rattle.ns_types.specs.declared.state.Regs.{Regs}
use Rattle.ns_types.specs.State.{Device, Memory, get_of, set_of}
use Rattle.ns_types.specs.Memory.{load}
use Rattle.v8m_core.specs.Lists.{in_list}

-- the registers t, but for those of the list (of the numbers given), which are as in r
abbrev pub restored : ℕ → List ℕ → Regs → Regs → Regs
restored list [] r t = t
restored list (n ∷ ns) r t = cond (in_list list n) (restored list ns r (set_of t n (get_of r n))) (restored list ns r t)

-- so many bytes from an address on are words of Secure RAM
pub record IsInSecureRam (a bytes : ℕ) : Type 0 where
  pub even : a % 4 ≡ 0
  pub from : SECURE_DATA.from ≤ a
  pub to : a + bytes ≤ SECURE_CONTROL.to

-- words from an address on are those of another memory
abbrev pub AreAs : ℕ → ℕ → Device → Memory → Memory → Type 0
AreAs a k device n m = (b : ℕ) → a ≤ b → b + 4 ≤ a + k → load 4 b device n ≡ load 4 b device m
