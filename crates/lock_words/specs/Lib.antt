pub mod Numbers
pub mod Texts
pub mod Kinds
pub mod WhyTexts
pub mod Decoded
pub mod States
pub mod Statuses
pub mod Courses
