pub mod Closed
pub mod Comes
