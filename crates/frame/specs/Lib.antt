-- what the results are, and what they rest on
pub mod Size
pub mod Text
pub mod View
pub mod Planes
pub mod Questions
pub mod Calls
pub mod Refusal
pub mod Cause
-- how the work is divided: the contracts of the parts
pub mod Inside
