-- The laws behind the plain engine.
pub mod Agreeing
pub mod Daily
pub mod Tallying
pub mod Telling
pub mod Received
pub mod Judged
