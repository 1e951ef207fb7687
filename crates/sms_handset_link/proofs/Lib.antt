pub mod Answered
pub mod Courses
