-- Laws of trees at their places.
pub mod Meaning
pub mod Converse
pub mod Living
