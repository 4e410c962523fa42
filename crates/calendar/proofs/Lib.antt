-- The laws behind the calendar: `Months` is for other crates as well, `Table` and `Walk` serve the proofs here.
pub mod Months
pub mod Table
pub mod Walk
