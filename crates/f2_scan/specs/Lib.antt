-- What a scan of the node log finds.
pub mod Logs
pub mod Laws
