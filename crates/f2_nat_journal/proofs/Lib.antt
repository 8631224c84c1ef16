pub mod EntryReads
pub mod ItemBytes
pub mod ItemLists
