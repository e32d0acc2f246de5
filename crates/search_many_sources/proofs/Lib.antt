pub mod Begins
pub mod Steps
pub mod Reach
pub mod GroupDistances
