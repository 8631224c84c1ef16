-- What the events of a plain machine come to.
pub mod Events
pub mod Choosing
pub mod Sound
pub mod Going
pub mod Begins
pub mod Written
