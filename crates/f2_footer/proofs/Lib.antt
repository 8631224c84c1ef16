pub mod FooterLemmas
