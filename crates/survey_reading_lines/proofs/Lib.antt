pub mod LinkLaws
pub mod FirstLaws
