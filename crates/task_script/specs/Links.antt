-- Where a task's next call on the same object stands.
use Rattle.std.specs.Prelude.{◌≡◌, ℕ, ◌+◌, ◌<◌, ◌≤◌, true, false, List, length, slice_get, get_or, Some}
use Rattle.std.specs.Global.{Vec}
use Rattle.task_script.specs.declared.script.Line.{Line}
use Rattle.task_script.specs.Scripts.{Listing, is_on}
use Rattle.task_script.specs.Sound.{IsSound}

-- Of a task's calls from one on, the first on an object stands at this place. None does, if the place is the number of the task's calls.
pub record IsFirstOn (lines : List Line) (object from place : ℕ) : Type 0 where
  pub behind : from ≤ place
  pub within : place ≤ length lines
  pub others : (n : ℕ) (l : Line) → from ≤ n → n < place → slice_get lines n ≡ Some l → is_on object l ≡ false
  pub found : (l : Line) → slice_get lines place ≡ Some l → is_on object l ≡ true

-- for each of these calls, where the next one on the same object stands
pub record HasLinks (lines : List Line) (next : List ℕ) : Type 0 where
  pub each : length next ≡ length lines
  pub linked : (n : ℕ) (l : Line) → slice_get lines n ≡ Some l → IsFirstOn lines l.object (n + 1) (get_or next n 0)

-- the same of the calls of each task
pub record HaveLinks (tasks : List (Vec Line)) (links : List (Vec ℕ)) : Type 0 where
  pub each : length links ≡ length tasks
  pub linked : (task : ℕ) (lines : Vec Line) (next : Vec ℕ) → slice_get tasks task ≡ Some lines → slice_get links task ≡ Some next → HasLinks lines.items next.items

-- what holds of a script and the links of its calls
pub record IsSoundAndLinked (s : Listing) (tasks : List (Vec Line)) (links : List (Vec ℕ)) : Type 0 where
  pub sound : IsSound s
  pub linked : HaveLinks tasks links
