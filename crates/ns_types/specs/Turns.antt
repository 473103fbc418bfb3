-- Turns of Non-secure code, and which of them a caller can play.
use Rattle.std.specs.Prelude.{◌≡◌, ℕ, ◌<◌, ◌≤◌, List, [], ◌∷◌, length}
use Rattle.ns_types.specs.declared.turn.Item.{Item}
use Rattle.ns_types.specs.declared.turn.Item.TheVariants.{Write, Read}

-- r0 to r12, LR, the flags, the Non-secure stack pointers, the accesses in their order, and where the turn goes
pub record Turn : Type 0 where
  pub r : List ℕ
  pub lr : ℕ
  pub nzcvq : ℕ
  pub msp_ns : ℕ
  pub psp_ns : ℕ
  pub items : List Item
  pub target : ℕ

-- a number of 32 bits
abbrev pub IsWord : ℕ → Type 0
IsWord n = n < 4294967296

abbrev pub AreWords : List ℕ → Type 0
AreWords [] = Unit {0}
AreWords (n ∷ ns) = IsWord n × AreWords ns

-- an address and a byte
abbrev pub IsItem : Item → Type 0
IsItem (Write at byte) = IsWord at × (byte < 256)
IsItem (Read at) = IsWord at

abbrev pub AreItems : List Item → Type 0
AreItems [] = Unit {0}
AreItems (i ∷ is) = IsItem i × AreItems is

-- each number of a turn fits where it goes; there are five flags
pub record IsTurn (t : Turn) : Type 0 where
  pub count : length t.r ≡ 13
  pub r : AreWords t.r
  pub lr : IsWord t.lr
  pub nzcvq : t.nzcvq ≤ 31
  pub msp_ns : IsWord t.msp_ns
  pub psp_ns : IsWord t.psp_ns
  pub items : AreItems t.items
  pub target : IsWord t.target

abbrev pub AreTurns : List Turn → Type 0
AreTurns [] = Unit {0}
AreTurns (t ∷ ts) = IsTurn t × AreTurns ts
