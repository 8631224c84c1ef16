-- Lemmas on names and trees.
pub mod Found
pub mod Keys
pub mod Values
pub mod Left
pub mod Apart
pub mod Seen
pub mod Depths
pub mod Together
pub mod Zeros
pub mod Sixes
