-- what the results are, and what is said of them
pub mod Denoise
pub mod Calls
pub mod Within
-- how the work is divided: the contracts of the parts
pub mod Line
