-- The laws behind the classes of item numbers.
pub mod Classing
pub mod Namesakes
pub mod Gathering
