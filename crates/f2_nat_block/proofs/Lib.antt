pub mod BitmapLemmas
pub mod EntryLemmas
