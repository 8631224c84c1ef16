-- Lemmas.
pub mod Maps
pub mod Orders
pub mod Alike
pub mod Copies
pub mod RowSteps
pub mod NameSteps
pub mod Trees
pub mod Places
pub mod TreeRows
pub mod TreeNames
