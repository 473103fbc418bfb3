-- What a reader believes of the machine.
pub mod Values
pub mod Lists
pub mod Effects
pub mod Step
pub mod Reset
pub mod Fits
-- What contracts and proofs say beside it.
pub mod Code
pub mod Parts
pub mod Known
