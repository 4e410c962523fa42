-- The laws behind the test of an order, those behind the insertion, those for who walks along an order, that two are equally long, and of which records they are.
pub mod Passing
pub mod Holes
pub mod Uses
pub mod Lengths
pub mod Versions
