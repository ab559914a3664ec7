-- The laws that the proofs of this crate's functions lean on.
pub mod LetterByLetter
pub mod FilledTables
pub mod Counting
pub mod SumOfWays
pub mod Aligned
pub mod SetsInBytes
pub mod Motifs
