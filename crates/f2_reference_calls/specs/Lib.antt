-- What the calls ask of what they are given.
pub mod Given
