-- what the results are, and what they rest on
pub mod Shifted
pub mod Bins
pub mod Steps
pub mod Answers
pub mod Record
pub mod Words
-- how the work is divided: the contracts of the parts
pub mod Parts
pub mod Runs
pub mod LowPair
pub mod LowParts
