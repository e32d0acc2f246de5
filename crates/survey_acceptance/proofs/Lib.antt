pub mod Matching
pub mod Fitting
pub mod Cursors
pub mod SurveyTest
pub mod Rest
