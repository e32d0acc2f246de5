pub mod Joining
pub mod RowMarks
