-- What the tests rest on.
pub mod NatCaches
pub mod WarmLogs
