-- what the results are, and what they rest on
pub mod RowCorrelation
pub mod OnePass
pub mod Tests
pub mod Answers
pub mod Record
pub mod Passes
pub mod AtMostOne
pub mod Demand
-- how the work is divided: the contracts of the parts
pub mod FrameSums
