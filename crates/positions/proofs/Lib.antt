-- The neighbours of a sample: by number, as the Rust's loops push them and as the specification's walk visits them; that these are the scope's, and that coefficient i belongs to neighbour i.
pub mod Counts
mod Offsets
pub mod Places
pub mod Steps
pub mod Text
mod Answers
pub mod Neighbours
pub mod Filter
pub mod Range
