-- What the contracts of this crate say, beside the definitions of `rules`; then what a begin and legs come to, and small facts.
pub mod Shape
pub mod Numbers
pub mod Exported
pub mod Between
pub mod ExportedLegs
pub mod ExportedFacts
