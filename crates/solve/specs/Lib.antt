-- what the results are, and what they rest on
pub mod Elimination
pub mod Answer
pub mod Words
-- how the work is divided: the contracts of the parts
pub mod Rows
pub mod Parts
