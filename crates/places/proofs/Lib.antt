-- The laws that the proofs of this crate's functions lean on.
pub mod Through
pub mod ChecksInTurn
