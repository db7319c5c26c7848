-- What the contracts of `punycode` cite: RFC 3492's decoding.
pub mod Decode
pub mod Steps
pub mod Answer
