pub mod Filling
pub mod Written
pub mod TableRows
pub mod PartEntries
