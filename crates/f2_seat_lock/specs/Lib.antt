pub mod Map
pub mod Known
pub mod Rule
pub mod Plays
pub mod Turn
pub mod Tally
