-- The laws that the proofs of this crate's functions lean on.
pub mod Page
pub mod FlagsFromWays
pub mod SequenceBySequence
pub mod Rule
