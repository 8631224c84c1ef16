pub mod Nids
