pub mod Matching
pub mod Surveyed
