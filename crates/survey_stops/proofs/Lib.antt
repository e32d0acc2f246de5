pub mod StopLaws
pub mod KeptLaws
pub mod StopRight
pub mod StopFront
