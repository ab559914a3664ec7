-- What the contracts of this crate say, beside the definitions of `rules`.
pub mod Kind
pub mod AcceptedLeg
