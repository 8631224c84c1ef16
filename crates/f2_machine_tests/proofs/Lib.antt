-- Lemmas of volumes.
pub mod ClosedSteps
pub mod ComeLemmas
