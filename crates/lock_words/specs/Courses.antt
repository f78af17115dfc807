-- What a course of any lock states.
use Rattle.lock_courses.specs.MutexCourses.{IsStated as IsMutexStated}
use Rattle.lock_courses.specs.SemaphoreCourses.{IsStated as IsSemaphoreStated}
use Rattle.lock_courses.specs.SpinCourses.{IsStated as IsSpinStated}
use Rattle.lock_words.specs.declared.course.Course.{Course}
use Rattle.lock_words.specs.declared.course.Course.TheVariants.{Mutex, Semaphore, Spin}

-- the word states who holds and who waits
abbrev pub IsStated : Course → Type 0
IsStated (Mutex c) = IsMutexStated c
IsStated (Semaphore c) = IsSemaphoreStated c
IsStated (Spin c) = IsSpinStated c
