pub mod Relaxing
pub mod Linking
pub mod Reports
