-- what the results are, and what they rest on
pub mod Steps
pub mod Answer
pub mod Record
pub mod Words
pub mod Demand
-- how the work is divided: the contracts of the parts
pub mod Exact
