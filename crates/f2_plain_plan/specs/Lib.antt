pub mod Contents
pub mod Directories
pub mod Drafts
pub mod Inodes
pub mod Packs
pub mod Pages
pub mod Tables
pub mod Zones
