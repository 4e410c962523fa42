-- The definitions that the contracts cite.
pub mod Greatest
pub mod Reaching
pub mod Stacks
pub mod Levels
pub mod Sweeping
pub mod Places
pub mod Calm
