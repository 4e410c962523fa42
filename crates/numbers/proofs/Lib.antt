pub mod Signs
pub mod Callers
pub mod Stores
