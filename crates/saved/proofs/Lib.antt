-- The laws behind the proofs of the functions, and what the promises come to.
pub mod RoomLast
pub mod Promises
