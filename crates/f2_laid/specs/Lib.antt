-- An image that is laid out plainly.
pub mod Laid
pub mod Planned
pub mod Laws
