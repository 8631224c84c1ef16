pub mod Maps
pub mod Logs
pub mod Steps
pub mod Passes
