-- Places that differ for different variables.
use Rattle.std.specs.Prelude.{◌≡◌, ℕ, ◌<◌, false, List}
use Rattle.live.specs.declared.places.Where.{Where}
use Rattle.live.specs.Clash.{shares}

abbrev pub Apart : List Where → Type 0
Apart places = (v w : ℕ) → v < w → shares places v w ≡ false
