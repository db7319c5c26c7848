-- What the contracts of `nibbles` cite: the value of nibbles, UTF-8, and the text that nibbles spell.
pub mod Uint
pub mod Utf8
pub mod Chars
pub mod Steps
