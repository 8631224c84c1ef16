-- What a whole image stands for.
pub mod Images
pub mod Packs
pub mod Nodes
pub mod Bases
pub mod Chains
pub mod Reached
pub mod Faults
pub mod Meanings
pub mod Laws
