-- the syntax, and what a call leaves
pub mod Record
pub mod Stored
pub mod Row
pub mod Text
pub mod Bits
pub mod Calls
-- what only contracts of the parts use
pub mod Scalars
pub mod Format
pub mod Params
pub mod Size
pub mod Held
-- what theorems say
pub mod Reset
pub mod Fits
pub mod Allowed
pub mod Semantics
pub mod Skipped
pub mod Room
