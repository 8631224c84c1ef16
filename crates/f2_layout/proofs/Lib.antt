pub mod SuperLemmas
