-- The theorems that other crates may cite are `pub`; the others serve them and the proofs of the functions.
mod WithoutSign
mod Zero
mod Unique
mod Units
mod Times
mod Cut
mod Fractions
pub mod Number
pub mod NearestWhole
pub mod WholeRoot
pub mod FirstToLast
pub mod DigitsOf
pub mod NearestRoot
pub mod WorkedDigits
mod Rounded64
pub mod Coefficient
pub mod Marks
mod MarkSteps
pub mod Reading
pub mod WholeSigma
pub mod NearestSigma
