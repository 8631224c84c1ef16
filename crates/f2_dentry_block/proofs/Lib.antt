pub mod Added
pub mod Fields
pub mod Filled
pub mod PackedBlocks
pub mod Ranges
pub mod ReadBack
pub mod Scanned
pub mod SlotBits
