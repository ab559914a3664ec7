-- What the contracts of this crate say, beside the definitions of `rules`.
pub mod Flags
pub mod NextLetter
pub mod Bits
pub mod Words
pub mod Rows
pub mod Set
pub mod Told
pub mod Bases
pub mod SetBits
