-- Lemmas of a base and a node log that were read.
pub mod Refuted
pub mod RightTable
pub mod RightAddresses
pub mod RightTree
pub mod RightMarks
pub mod AllRight
pub mod LastMarks
pub mod LikeRolls
pub mod RolledRows
pub mod ReadTree
pub mod TakenRolls
