-- The laws that the proofs of this crate's functions lean on.
pub mod Printed
pub mod Decimal
pub mod MotifLetters
pub mod ShapedMotif
pub mod Line
pub mod PrintedPage
pub mod Scan
pub mod DigitByDigit
pub mod ComponentsByPiece
pub mod Lines
pub mod SequenceLines
