-- The laws that the proofs of this crate's functions lean on.
pub mod FileLines
pub mod Names
pub mod Body
pub mod Handing
