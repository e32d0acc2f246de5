pub mod PassingLaws
pub mod EdgeLaws
