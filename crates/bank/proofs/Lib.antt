-- The laws behind the public calls, and the theorems about them.
pub mod Opens
pub mod Slicing
pub mod Turning
pub mod Judged
pub mod Calls
pub mod Theorems
