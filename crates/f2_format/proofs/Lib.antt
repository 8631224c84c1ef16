pub mod BytesLemmas
pub mod FieldLemmas
pub mod FlagLemmas
pub mod PackingLemmas
pub mod Slices
