-- What the definitions of the abstract machine come to: statements about them that hold for every tree, state and call.
pub mod Order
pub mod Rolling
pub mod Refusals
pub mod Survival
pub mod Choice
pub mod Room
pub mod Goodness
pub mod Space
pub mod Beginning
pub mod Flights
pub mod Acknowledging
pub mod Checkpointing
pub mod Remounting
pub mod Freezing
