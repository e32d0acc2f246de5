pub mod WordWriting
pub mod ListLaws
