-- The laws that the proofs of this crate's functions lean on.
pub mod Parts
pub mod Buffer
pub mod Paths
pub mod StartByStart
pub mod RightFlags
