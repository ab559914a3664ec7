-- What the contracts of this crate say, beside the definitions of `rules` and `rows`.
pub mod Path
pub mod Weights
