-- Proofs of the laws of calls between events.
pub mod Names
pub mod Laid
pub mod FreshFiles
pub mod Dirtied
pub mod SamePages
pub mod SameFsyncs
pub mod Changed
pub mod Called
pub mod OneRow
pub mod Pairs
pub mod Naming
pub mod SameWalks
pub mod Members
pub mod Touched
pub mod Filed
pub mod EachCall
