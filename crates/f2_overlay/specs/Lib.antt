-- What recovery takes of a node log, over a base that was read.
pub mod Lasts
pub mod Pending
pub mod Taking
pub mod Nodes
pub mod Names
pub mod Brought
pub mod Rolls
pub mod Nids
pub mod Owning
pub mod Putting
pub mod Rolling
