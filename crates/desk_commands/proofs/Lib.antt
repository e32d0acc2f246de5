pub mod CommandLaws
pub mod CommandFront
