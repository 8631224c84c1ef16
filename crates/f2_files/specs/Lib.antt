-- What a running volume knows of its files, and how names lead through it.
pub mod Known
pub mod Led
pub mod Shape
pub mod Refused
pub mod Cuts
pub mod Packed
pub mod Near
pub mod Joins
