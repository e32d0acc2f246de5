pub mod SaidLaws
pub mod SaidRight
