-- The laws that the proofs of this crate's functions lean on.
pub mod Rising
pub mod Partner
pub mod Table
pub mod Checks
