-- The laws behind the offender of one window.
pub mod Numbering
pub mod Weighing
pub mod Tallying
pub mod Meeting
pub mod Leading
pub mod Looking
pub mod Offence
