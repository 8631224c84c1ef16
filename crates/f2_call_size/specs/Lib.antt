-- What a call changes in size.
pub mod Sizes
pub mod Beyond
pub mod Calls
