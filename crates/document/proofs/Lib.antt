-- The laws behind the tests on columns.
pub mod Early
pub mod Rows
pub mod Seen
pub mod Ends
pub mod Ways
pub mod Handed
pub mod Meeting
pub mod Pairs
pub mod Lowering
pub mod Clears
pub mod Run
pub mod Stages
pub mod Fronts
pub mod Lending
