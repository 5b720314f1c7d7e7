-- what the results are, and what they rest on
pub mod Noise
pub mod Shift
pub mod Seen
pub mod Average
pub mod Products
pub mod Claim
pub mod Steps
-- how the work is divided: the contracts of the parts
pub mod Lines
pub mod PlanePair
pub mod Rows
pub mod Quarters
