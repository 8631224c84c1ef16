-- Lemmas that several proofs share.
pub mod SetViews
pub mod FlightViews
