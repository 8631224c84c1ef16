-- Lemmas on the calls.
pub mod Cuts
pub mod Copied
pub mod Listed
pub mod Counted
pub mod Results
pub mod Summed
pub mod Found
pub mod Fitting
