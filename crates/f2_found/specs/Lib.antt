-- The tree of an image as it was found there.
pub mod Pages
pub mod Found
pub mod Places
pub mod Made
pub mod Named
