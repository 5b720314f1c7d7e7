-- The parts of the root: its digits, the bit pattern of its argument, the number under it as 4 × P × w², the rounded digits, and their bit pattern.
pub mod Loop
pub mod Pattern
pub mod Normal
pub mod Leading
pub mod Split
pub mod Closest
pub mod Rounded
pub mod Bits
