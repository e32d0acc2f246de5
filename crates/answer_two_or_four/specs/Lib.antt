pub mod DepthVerdict
