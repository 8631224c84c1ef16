-- Lemmas on pages that pieces bring.
pub mod Same
pub mod Parts
pub mod Stays
pub mod Brought
pub mod Zeroed
pub mod Filled
