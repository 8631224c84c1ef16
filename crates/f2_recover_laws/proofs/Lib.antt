-- Lemmas of a base that was read.
pub mod Counts
pub mod RightNodes
pub mod Stands
pub mod Depths
pub mod RightNames
pub mod FilePages
pub mod LikeRows
pub mod ReadBase
