-- The laws behind the offender of one window.
pub mod Descent
pub mod Searching
pub mod Laying
pub mod Claiming
pub mod Meeting
pub mod Passing
pub mod Walking
pub mod Offence
