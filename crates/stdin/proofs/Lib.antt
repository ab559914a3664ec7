-- The laws of this crate.
pub mod ReadByRead
