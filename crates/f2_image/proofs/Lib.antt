-- Proofs of the laws about images.
pub mod ChainLemmas
pub mod Dentries
pub mod Depths
pub mod Limited
pub mod OneBase
pub mod OneMarks
pub mod OneName
pub mod Routes
pub mod SameBase
pub mod SomeBase
pub mod SomeMarks
