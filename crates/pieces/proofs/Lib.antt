-- The laws behind the pieces.
pub mod Ranking
pub mod Drawing
pub mod Cutting
pub mod Joining
pub mod Merging
pub mod Turning
