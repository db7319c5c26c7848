-- What the contracts of `exports` cite.
pub mod Report
