-- What the contracts of this crate say, beside the definitions of `rules` and `text`.
pub mod Printing
