-- What is printed at the desk.
pub mod Sentences
