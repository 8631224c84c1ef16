-- Proofs of the laws that tie a zone to a volume's disk.
pub mod Zones
pub mod Counts
pub mod FreeNodes
pub mod FreePages
pub mod KeptThirds
pub mod FoundThirds
pub mod OwnedThirds
