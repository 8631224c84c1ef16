-- Lemmas.
pub mod NodeSteps
pub mod ChangeSteps
pub mod RowSteps
pub mod AllRows
pub mod InoLists
pub mod OrderSteps
pub mod Rooted
