-- Proofs of the laws about the blocks of a tree.
pub mod Below
pub mod NodeBlocks
pub mod Members
pub mod Differ
pub mod Sets
pub mod Keys
pub mod Values
pub mod Parts
pub mod Listings
pub mod Ways
pub mod Needed
pub mod Counts
