-- What the contracts of this crate say, beside the definitions of `rules` and `text`.
pub mod Left
pub mod Pages
pub mod Input
pub mod Program
