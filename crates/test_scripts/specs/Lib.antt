pub mod Commands
pub mod Sums
