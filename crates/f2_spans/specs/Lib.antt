-- Where pieces lie.
pub mod Spans
