-- What a run tells of a spin lock, where the rule of its table keeps the lock's own facts.
use Rattle.std.proofs.Common.{Bool, ◌≡◌, ℕ, List, ◌∷◌, map}
use Rattle.lock_core.specs.declared.layout.TheConstants.{SPIN_WORDS}
use Rattle.qspin_queue.specs.Types.{Moment, View}
use Rattle.lock_core.specs.Layout.{SiteWords, part}
use Rattle.lock_core.specs.Moves.{SiteMoveWhere}
use Rattle.lock_core.specs.Views.{spin_part}
use Rattle.lock_core.specs.Pasts.{EachMoment, Moves, Ran}
use Rattle.lock_core.specs.Laws.SiteRun.{ran-each, ran-so}
use Rattle.lock_core.specs.Spins.{SpinsKept, SpinsMove}
use Rattle.lock_core.specs.SpinStated.{CountsSpin, AreSpinLocksThen, IsSpinLocksMove}
use Rattle.qspin_word.specs.Allows.{AreNumbered}
use Rattle.qspin_queue.proofs.Saying.{says}
use Rattle.qspin_queue.proofs.Moving.{moved}

module _ {E : Type 0} (marks : E → List ℕ) (holds : List ℕ → List (View E) → Type 0) (moves : ℕ → List ℕ → List (View E) → List ℕ → List (View E) → Type 0) (n tasks first : ℕ) where
  -- at each moment the spin words stated where each pass was at the lock
  pub each-lock : ((ws : List ℕ) (vs : List (View E)) → holds ws vs → SpinsKept n (part first SPIN_WORDS ws) (map spin_part vs)) → ((ws : List ℕ) (vs : List (View E)) → holds ws vs → AreNumbered tasks (map spin_part vs))
      → (begun now before : Moment) (rest past : List Moment) → past ≡ now ∷ before ∷ rest → Ran marks begun (Moves holds moves) past → EachMoment (AreSpinLocksThen n first) past
  each-lock kept numbered begun now before rest past two r = ran-each marks holds moves (AreSpinLocksThen n first) (λ ws vs h. says marks n first ws vs (kept ws vs h) (numbered ws vs h)) begun now before rest past two r

  -- each step was one of a spin lock's, which its pass counted
  pub each-move : ((id : ℕ) (ws us : List ℕ) (vs vs' : List (View E)) → moves id ws vs us vs' → SpinsMove n id (part first SPIN_WORDS ws) (map spin_part vs) (part first SPIN_WORDS us) (map spin_part vs'))
      → ((id : ℕ) (ws us : List ℕ) (vs vs' : List (View E)) → holds ws vs → moves id ws vs us vs' → CountsSpin id vs vs')
      → (begun : Moment) (past : List Moment) → Ran marks begun (Moves holds moves) past → Ran marks begun (IsSpinLocksMove n first) past
  each-move does counts begun past r = ran-so marks begun (Moves holds moves) (IsSpinLocksMove n first)
      (λ x y m. (m.0, moved n m.0 (part first SPIN_WORDS x.words) (part first SPIN_WORDS y.words) (map spin_part x.views) (map spin_part y.views) (does m.0 x.words y.words x.views y.views m.3), counts m.0 x.words y.words x.views y.views m.1 m.3)) past r

-- what each step of a site counts of its spin lock
pub counts-spin : {E : Type 0} {unheld : Bool} (id word : ℕ) (w w' : SiteWords) (vs us : List (View E)) → SiteMoveWhere unheld id word w vs w' us → CountsSpin id vs us
counts-spin id word w w' vs us m = (m.before, m.after, m.at, m.at', m.moved.counts, m.moved.spin)
