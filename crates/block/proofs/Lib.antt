pub mod Bytewise
pub mod Answers
pub mod Places
