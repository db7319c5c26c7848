-- What the contracts of `demangle` cite: which symbols are accepted, and document 01's rows; and what both mean, by the grammar.
pub mod Accept
pub mod Rows
pub mod Part
pub mod Grammar
pub mod Sound
