pub mod StepLaws
pub mod PartLaws
