-- What the reasons for a checkpoint speak of.
pub mod Boths
