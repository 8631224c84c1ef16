-- What is read of an image first.
pub mod Starts
