-- What the bookkeeping of a zone has to do with what a running volume keeps on its disk.
pub mod Covering
pub mod Keeping
pub mod Free
pub mod Kept
pub mod Owned
