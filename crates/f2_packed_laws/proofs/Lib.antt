-- Proofs of the laws of packed layouts.
pub mod Rolled
pub mod Listed
pub mod Laid
pub mod Pages
pub mod Room
pub mod Whole
pub mod Bytes
pub mod May
