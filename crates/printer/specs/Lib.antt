-- What the contracts of `printer` cite: what it reads at once, the model, which is the definition of every printed byte, and what a
-- printer does to a buffer and a state.
pub mod Says
pub mod Letters
pub mod Readings
pub mod Model
pub mod Parts
pub mod Over
pub mod Lay
pub mod Numbers
