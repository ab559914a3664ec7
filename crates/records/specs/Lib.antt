-- What the contracts of this crate say, beside the definitions of `rules`.
pub mod RestoreOrder
pub mod ReadWrite
