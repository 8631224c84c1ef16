-- What contracts see of the plain machine's state.
pub mod Numbers
pub mod Parts
pub mod Seen
