-- what the results are, and what is said of them: the Rust's steps, the words of the scope, whole numbers
pub mod Magnitude
pub mod Clamp
pub mod Round
pub mod Root
pub mod WorkedDigits
pub mod Steps
pub mod Coefficient
pub mod Mark
pub mod Reading
pub mod Sigma
-- how the work is divided: the contracts of the parts
pub mod Digits
