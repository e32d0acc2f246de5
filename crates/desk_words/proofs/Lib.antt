pub mod WordLaws
pub mod WordCases
