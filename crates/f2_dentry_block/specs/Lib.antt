pub mod Dents
pub mod Packed
