-- Lemmas about new images, and about images that are read.
pub mod Made
pub mod Counts
pub mod Scanned
pub mod Fitting
pub mod Standing
pub mod Within
