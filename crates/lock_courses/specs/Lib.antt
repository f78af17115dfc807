pub mod Laws
pub mod MutexCourses
pub mod SemaphoreCourses
pub mod SpinCourses
