pub mod NatEntry
