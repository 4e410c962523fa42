-- The laws behind the judging of a day.
pub mod Fielding
pub mod Counting
pub mod Alone
pub mod Judging
pub mod Posing
