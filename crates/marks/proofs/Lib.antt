-- The laws behind the walks over marks.
pub mod Bytes
pub mod After
pub mod Storing
pub mod Listing
