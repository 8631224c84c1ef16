pub mod Found
pub mod HeadLemmas
