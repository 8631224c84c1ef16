-- Lemmas for the text of a tree that was found.
pub mod Entries
pub mod PageWeights
pub mod Children
pub mod DentLines
pub mod Growing
