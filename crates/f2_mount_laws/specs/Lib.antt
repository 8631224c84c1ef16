-- What a mount takes over of an image.
pub mod Taken
pub mod Living
pub mod Writing
pub mod Existing
pub mod Ending
