pub mod Item
pub mod Round
