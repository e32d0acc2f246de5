pub mod Bfs
pub mod QueueTurns
pub mod AllowedNodes
