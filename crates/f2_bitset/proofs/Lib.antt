pub mod Bitmap
pub mod Bits
pub mod Members
