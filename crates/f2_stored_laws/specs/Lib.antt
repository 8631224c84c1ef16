-- Laws of what a volume keeps on its disk.
pub mod Safety
pub mod Mounting
