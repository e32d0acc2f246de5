pub mod SourceSets
