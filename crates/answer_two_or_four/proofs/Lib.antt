pub mod DepthVerdict
pub mod Sources
