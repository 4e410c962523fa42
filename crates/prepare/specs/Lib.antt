-- The definitions that the contracts cite.
pub mod Holders
pub mod Rows
pub mod Keys
pub mod Descent
pub mod Rowed
pub mod Sifts
pub mod Acting
pub mod Spoiling
