-- what the results are: the seed; the register by the specification's text and by the Rust's steps; the call
pub mod Seed
pub mod Text
pub mod Steps
pub mod Register
