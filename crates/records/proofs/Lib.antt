-- The laws behind the proofs of the functions.
pub mod Fields
pub mod RecordsInTurn
pub mod Front
pub mod Before
