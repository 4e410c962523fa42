-- The laws behind chains, and what an accepted document has.
pub mod Along
pub mod Linking
pub mod Twins
pub mod Namesakes
pub mod Fronted
pub mod Judging
