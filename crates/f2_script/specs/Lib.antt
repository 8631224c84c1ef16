-- Scripts: what a line looks like, which lines a script has, and how answers and trees are printed.
pub mod Text
pub mod Paths
pub mod Words
pub mod Verbs
pub mod Lines
pub mod Grammar
pub mod Cuts
pub mod Replies
pub mod Steps
pub mod Generator
pub mod Faults
pub mod Trees
