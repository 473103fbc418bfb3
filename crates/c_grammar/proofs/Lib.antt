pub mod Shrinks
pub mod UnitShrinks
pub mod Soundness
pub mod Sound
pub mod UnitSound
mod KnownLaws
