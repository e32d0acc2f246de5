pub mod NodeSet
pub mod Matrix
