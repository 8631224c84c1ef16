pub mod Footer
