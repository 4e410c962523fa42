-- The laws behind the verdict on one rule: `Verdicts` puts together what `DayVerdict` and `WindowVerdict` give.
pub mod Modes
pub mod DayVerdict
pub mod WindowVerdict
pub mod Verdicts
pub mod Stops
pub mod Lower
pub mod Gathering
pub mod Counting
