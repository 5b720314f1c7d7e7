-- what the results are, and what they rest on
pub mod Steps
pub mod OnePass
pub mod Answer
pub mod Record
pub mod Words
pub mod Demand
pub mod Offsets
-- how the work is divided: the contracts of the parts
pub mod Sums
pub mod ExactSums
