-- The definitions that the contracts cite: the calendar, and what a table of it must hold.
pub mod Gregorian
pub mod Entries
