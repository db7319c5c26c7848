-- What the contracts of `parser` cite: RFC 2603's numbers and identifiers at a place of a symbol, and Unicode's scalar values.
pub mod Digits
pub mod Scalar
pub mod Bytes
pub mod Number
pub mod Names
