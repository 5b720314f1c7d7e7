-- what the results are: how many neighbours, by the specification's text, by the Rust's steps, and in words
pub mod Counts
pub mod Text
pub mod Positions
pub mod Neighbours
pub mod Record
