-- What recovery reads of an image.
pub mod Faults
pub mod Told
pub mod Reading
pub mod Taking
pub mod Seeing
pub mod Files
pub mod Tables
pub mod Names
pub mod Standing
pub mod Dents
pub mod Walking
