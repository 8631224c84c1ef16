-- The pages that a write brings to a file.
pub mod Fresh
pub mod Absent
pub mod Held
pub mod Zeros
