-- What contracts see of calls in flight.
pub mod Parts
