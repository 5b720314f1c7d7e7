pub mod Hints
pub mod Moves
pub mod Agree
pub mod Draws
