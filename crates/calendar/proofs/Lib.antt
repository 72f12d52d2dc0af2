pub mod Every
pub mod Dates
pub mod Closed
pub mod Search
pub mod Answers
