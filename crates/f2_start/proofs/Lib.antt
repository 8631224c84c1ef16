-- Lemmas for reading the start of an image.
pub mod Newest
pub mod Seals
