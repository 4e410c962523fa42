-- The definitions that the contracts cite.
pub mod Soon
pub mod Lined
pub mod Swept
pub mod Given
pub mod Nils
