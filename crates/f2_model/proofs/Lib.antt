-- Lemmas that several proofs share.
pub mod MapViews
pub mod RisingLemmas
