pub mod Words
pub mod Shape
pub mod OnWays
pub mod Fields
pub mod Routed
pub mod Fronts
