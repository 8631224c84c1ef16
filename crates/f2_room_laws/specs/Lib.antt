-- What recovery may find is good, and fits the image.
pub mod ProperTrees
pub mod Marking
pub mod ProperStates
pub mod Running
pub mod Staying
pub mod Fitting
pub mod RoomForWrites
pub mod FreeNumbers
