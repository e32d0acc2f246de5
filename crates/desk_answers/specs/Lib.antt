pub mod Said
pub mod Right
