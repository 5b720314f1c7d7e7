-- what the results are, and what is asked for them
pub mod Normal
pub mod Layout
pub mod Calls
pub mod ShownFrame
-- how the work is divided: the contracts of the parts
pub mod Starts
pub mod Blocks
pub mod Rows
pub mod Taps
