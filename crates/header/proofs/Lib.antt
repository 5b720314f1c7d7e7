-- bits, and what the writer holds
pub mod Numbers
pub mod Holding
-- rows
pub mod Folds
pub mod Shapes
pub mod Formats
pub mod Lists
pub mod Listed
pub mod Parts
pub mod Putting
pub mod Sizes
pub mod Short
pub mod Bytes
pub mod Answers
-- what holds of a header
pub mod Places
pub mod Room
pub mod Fit
pub mod Skipped
pub mod Predicted
pub mod Causes
pub mod Accepted
