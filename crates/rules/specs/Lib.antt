pub mod Table
pub mod Decoding
pub mod Promises
