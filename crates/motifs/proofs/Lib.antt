-- The laws of this crate, in the order in which they build on each other. `Program` is the file to read first.
pub mod Leg
pub mod PagesLaid
pub mod InputRead
pub mod Next
pub mod Program
