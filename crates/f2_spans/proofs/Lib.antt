-- Lemmas on numbers that rise by one, and on lists that agree.
pub mod Ranges
pub mod Agreed
