pub mod Pages
pub mod Stores
