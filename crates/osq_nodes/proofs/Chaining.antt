-- The queues of a run: each came of the one before it, and the first is empty.
use Rattle.std.proofs.Common.{◌≡◌, ℕ, zero, suc, ◌+◌, List, [], ◌∷◌, length, map, drop, replicate, refl, sym, ap, ◌∙◌, subst, arith}
use Rattle.std.proofs.lemmas.List.{get_or-take, get_or_append_left, get_or-replicate, length-replicate}
use Rattle.lock_core.specs.declared.layout.TheConstants.{LOCK_WORDS}
use Rattle.lock_core.specs.Layout.{fresh, calls_at}
use Rattle.lock_core.specs.Plans.{call_words}
use Rattle.lock_core.specs.Pasts.{Instant, moment, Moves, Tail, Paced, Ran}
use Rattle.osq_nodes.specs.OsqPlaces.{node_marks}
use Rattle.osq_nodes.specs.Words.{tail_in, prev_in, locked_in}
use Rattle.osq_nodes.specs.OsqStated.{row_at, places_at, IsQueueAt, Changes, HasBecome}
use Rattle.osq_nodes.specs.Laws.Walks.{queue-same}
use Rattle.osq_nodes.specs.OsqRuled.{OsqKept, OsqMoves, newest, no_calls}
use Rattle.osq_nodes.specs.Types.{Moment, Node}

-- what the passes keep of an instant
abbrev kept_of : Instant Node → Moment
kept_of x = moment node_marks x

-- the queue of a new table is empty
pub newest-queue : (tasks : ℕ) → IsQueueAt (newest tasks) []
newest-queue tasks = record { walk = tail-zero; once = tt }
  where
    tail-zero : tail_in (row_at (newest tasks)) ≡ 0
    tail-zero = let k = no_calls tasks in let l = length-replicate {A = ℕ} (LOCK_WORDS + calls_at k) 0 in get_or-take LOCK_WORDS (fresh k) 0 0 (omega arith)
        ∙ (get_or_append_left (replicate (LOCK_WORDS + calls_at k) 0) (call_words k) 0 0 (omega (arith, l)) ∙ get_or-replicate (LOCK_WORDS + calls_at k) 0 0 0 (omega arith))

has-queue : (m : Moment) (past : List Moment) (q : List ℕ) → HasBecome (m ∷ past) q → IsQueueAt m q
has-queue m [] q b = b.0
has-queue m (n ∷ past) q b = b.0

first-one : (m new : Moment) → Tail (new ∷ []) (m ∷ []) → new ≡ m
first-one m new (zero, e) = sym (ap (λ (ms : List Moment). first-of ms) e)
  where
    first-of : List Moment → Moment
    first-of [] = m
    first-of (n ∷ ms) = n
first-one m new (suc n, e) = absurd (let l = ap length e in let z = none n in omega (arith, l, z))
  where
    none : (n : ℕ) → length (drop {A = Moment} n []) ≡ 0
    none zero = refl
    none (suc n) = refl

later-tail : (x y new : Moment) (past : List Moment) → Tail (new ∷ []) (y ∷ x ∷ past) → Tail (new ∷ []) (x ∷ past)
later-tail x y new past (zero, e) = absurd (let l = ap length e in omega (arith, l))
later-tail x y new past (suc n, e) = (n, e)

module _ (tasks : ℕ) where
  abbrev Steps : Instant Node → Instant Node → Type 0
  Steps = Moves (OsqKept (no_calls tasks)) (OsqMoves (no_calls tasks))

  chains : (run : List (Instant Node)) → Tail (newest tasks ∷ []) (map kept_of run) → Paced Steps run → (q : List ℕ) × HasBecome (map kept_of run) q
  chains [] begins paced = absurd (let l = ap length begins.1 in let z = none begins.0 in omega (arith, l, z))
    where
      none : (n : ℕ) → length (drop {A = Moment} n []) ≡ 0
      none zero = refl
      none (suc n) = refl
  chains (x ∷ []) begins paced = ([], (subst (λ (m : Moment). IsQueueAt m []) (first-one (kept_of x) (newest tasks) begins) (newest-queue tasks), refl))
  chains (y ∷ x ∷ run) begins paced = let before = chains (x ∷ run) (later-tail (kept_of x) (kept_of y) (newest tasks) (map kept_of run) begins) paced.1 in let step = paced.0.3.queue in let m : Moment = kept_of x in
      let same = queue-same (tail_in (row_at m)) (prev_in (row_at m)) (locked_in (row_at m)) (places_at m) step.queue before.0 step.before (has-queue m (map kept_of run) before.0 before.1) in
      (step.queue', (step.after, (before.0, before.1, subst (λ (q : List ℕ). Changes (row_at m) (row_at (kept_of y)) (places_at m) q step.queue') same step.changes)))

  pub becomes : (past : List Moment) → Ran node_marks (newest tasks) Steps past → (q : List ℕ) × HasBecome past q
  becomes past ran = subst (λ (ms : List Moment). (q : List ℕ) × HasBecome ms q) (sym ran.1) (chains ran.0 (subst (Tail (newest tasks ∷ [])) ran.1 ran.2) ran.3)
