-- The laws that the proofs of this crate's functions lean on.
pub mod Kind
pub mod Follow
pub mod Round
pub mod Ruled
pub mod Onward
pub mod Rowed
pub mod Turn
