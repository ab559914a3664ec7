-- What the contracts of this crate say, beside the definitions of `rules`.
pub mod Printed
pub mod Pieces
pub mod Parsed
