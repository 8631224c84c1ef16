-- What the plain machine chooses where the machine may choose, so that what a script prints is one text.
pub mod Stages
pub mod Chosen
pub mod Runs
