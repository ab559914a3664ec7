-- The laws of the exported calls. `ExportedLegs` proves the statement of that name in `specs`, `MadeOfTwo` and `Zero` say what each call
-- comes to; the others serve the proofs.
pub mod Filling
pub mod Found
pub mod Resaved
pub mod CheckedOnce
pub mod Shapes
pub mod MadeOfTwo
pub mod Zero
pub mod ExportedLegs
