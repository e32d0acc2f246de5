pub mod Sets
pub mod Greedy
