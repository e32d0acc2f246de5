pub mod LinesRead
