-- What the command `build` makes of a source, and how it ends.
use Rattle.std.specs.Prelude.{◌≡◌, ℕ, ◌+◌, ◌⊎◌, List, [], ◌∷◌, Some, IsSome, Ok}
use Rattle.cm_base.specs.Outside.{held, IsMissing, OthersStay}
use Rattle.cm_base.specs.declared.place.Refusal.{Refusal}
use Rattle.cm_base.specs.declared.place.Refusal.TheVariants.{At}
use Rattle.ns_types.specs.State.{Device}
use Rattle.ns_turns.specs.Refines.{Refines, Only}
use Rattle.ns_turns.specs.TwoWorlds.{TwoWorlds}
use Rattle.ns_turns.specs.Moments.{AlwaysKnowsRam}
use Rattle.ns_turns.specs.FirstHandOver.{BeginsSealed}
use Rattle.ns_turns.specs.Unseen.{Unseen}
use Rattle.constant_entry.specs.Code.{start_place, entry_place, first_veneer, used_bytes, gateway_bytes}
use Rattle.constant_entry.specs.Shows.{ShowsConstant, NeverStops}
use Rattle.constant_entry.specs.Meaning.{one_veneer, enters_one, constant_run}
use Rattle.import_lib.specs.Library.{library_of}
use Rattle.cmse_build.specs.declared.image.Gate.{Gate}
use Rattle.cmse_build.specs.Constant.{IsConstant}
use Rattle.cmse_build.specs.Image.{image_of}
use Rattle.cmse_build.specs.Reading.{rom_of_image}
use Rattle.cmse.specs.Files.{FilesChange, FilesStay, OthersThanStay}
use Rattle.cmse.specs.declared.status.Status.{Status}
use Rattle.cmse.specs.declared.status.Status.TheVariants.{Done, Refused, CannotRead, CannotWrite, NoMemory}

-- the one entry in the image's symbols: its name at the first veneer, and its twin at its code
abbrev pub one_gate : List ℕ → List Gate
one_gate name = record { name = name; address = first_veneer; code = entry_place } ∷ []

-- A text, and the library and the image that are built from it: the text is that of the entry of some name that gives
-- some number.
pub record Builds (text library image : List ℕ) : Type 0 where
  pub name : List ℕ
  pub n : ℕ
  pub form : IsConstant text name n
  -- the library lists the entry at the first veneer
  pub lists : library ≡ library_of (one_veneer name)
  -- the image is exactly the file of the program's Secure ROM, its gateways and its symbols, and it reads as a device
  pub file : image ≡ image_of (start_place + 1) (used_bytes n) gateway_bytes (one_gate name)
  pub device : Device
  pub reads : rom_of_image image ≡ Ok device.rom
  -- the device shows what the program shows in a first call, and hands over first with both stacks sealed
  pub shows : ShowsConstant device n
  pub begins : BeginsSealed device
  -- it does what the program does, whose entry is entered where the library lists it, and nothing else; and it never stops
  -- in Secure code
  pub does : Refines device (enters_one name) (constant_run (enters_one name) n)
  pub only : Only device (enters_one name) (constant_run (enters_one name) n)
  pub no_stop : NeverStops device
  -- no event depends on what Secure memory holds at the start, and two starts of which the program declares the same look
  -- the same
  pub unseen : Unseen device
  pub worlds : TwoWorlds device (enters_one name) (constant_run (enters_one name) n)
  -- Non-secure RAM is at each hand-over what the start, the turns and the events make of it
  pub ram : AlwaysKnowsRam device (enters_one name)

-- no entry that gives a number has this text
abbrev pub IsOther : List ℕ → Type 0
IsOther text = (name : List ℕ) (n : ℕ) → IsConstant text name n → ⊥

-- the refusal of such a text
abbrev pub refusal_of : List ℕ → Refusal
refusal_of source = At 90 source 1 1

-- what is built from the source that the store tells is held there
abbrev pub Delivered : FilesChange → List ℕ → List ℕ → List ℕ → Type 0
Delivered files source library image =
    (text : List ℕ) × (lib : List ℕ) × (img : List ℕ) × (held files.old source ≡ Some text) × (held files.new library ≡ Some lib) × (held files.new image ≡ Some img) × Builds text lib img

-- the same of the library alone
abbrev pub Listed : FilesChange → List ℕ → List ℕ → Type 0
Listed files source library =
    (text : List ℕ) × (lib : List ℕ) × (img : List ℕ) × (held files.old source ≡ Some text) × (held files.new library ≡ Some lib) × Builds text lib img

-- how `build` ends
abbrev pub BuildEnds : FilesChange → List ℕ → List ℕ → List ℕ → Status → Type 0
BuildEnds files image library source Done =
    (IsSome files.old → Delivered files source library image) × OthersThanStay files.old files.new library image
BuildEnds files image library source (Refused refusal) =
    (refusal ≡ refusal_of source) × FilesStay files × (IsSome files.old → (text : List ℕ) × (held files.old source ≡ Some text) × IsOther text)
BuildEnds files image library source (CannotRead file) =
    (file ≡ source) × (files.reads ⊎ IsMissing files.old source) × FilesStay files
BuildEnds files image library source (CannotWrite file) =
    files.writes × (((file ≡ library) × OthersStay files.old files.new library)
    ⊎ ((file ≡ image) × (IsSome files.old → Listed files source library) × OthersThanStay files.old files.new library image))
BuildEnds files image library source NoMemory =
    OthersStay files.old files.new library × ((held files.new library ≡ held files.old library) ⊎ (IsSome files.old → Listed files source library))
BuildEnds files image library source _ = ⊥
