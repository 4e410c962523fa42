-- The laws of images that are written: read back, written again, and filled in block by block.
pub mod Joins
pub mod WrittenBlock
pub mod Shares
pub mod ReadBack
pub mod WrittenNodes
pub mod Stretches
pub mod Rewritten
pub mod Puts
pub mod Fillings
pub mod Writes
pub mod WriteLines
pub mod Again
pub mod Outcomes
