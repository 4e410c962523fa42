-- The laws behind the finder.
pub mod Offences
pub mod Held
pub mod Nested
pub mod DayOffences
pub mod WindowOffences
pub mod Sweeping
pub mod DaySoon
pub mod Valuing
pub mod WindowSoon
pub mod Finding
pub mod Spoiling
pub mod Lining
