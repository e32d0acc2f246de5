pub mod OpenNodes
