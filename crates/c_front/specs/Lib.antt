pub mod Front
pub mod Answers
pub mod Numbers
