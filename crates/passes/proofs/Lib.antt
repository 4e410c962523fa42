-- The laws behind the passes.
pub mod Cases
pub mod Clearing
pub mod Nevers
pub mod Clashing
pub mod Gapping
pub mod Crowding
