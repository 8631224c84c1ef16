-- Laws about images.
pub mod Chained
pub mod Named
pub mod Depending
pub mod Alike
pub mod Rolled
pub mod Fitting
