pub mod Playing
pub mod Quiet
