-- The laws behind the descent from the root.
pub mod Coming
pub mod Linking
pub mod Seeking
pub mod Looking
