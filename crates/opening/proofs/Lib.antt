-- What opened images are known to be, and the ways out of the calls on them.
pub mod Opens
pub mod Slicing
pub mod Sequenced
