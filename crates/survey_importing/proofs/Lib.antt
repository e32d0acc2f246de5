pub mod ImportLaws
