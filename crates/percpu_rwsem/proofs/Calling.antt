-- What the calls of a per-CPU semaphore leave.
use Rattle.std.proofs.Common.{◌≡◌, ◌≢◌, ◌∙◌, ℕ, ◌+◌, ◌<◌, ◌≤◌, List, length, Option, Some, None, zero, suc, true, false, sym, refl, ap, subst, arith}
use Rattle.std.specs.Prelude.{Result, Ok, Err, IfOk, IfErr, is_some}
use Rattle.std.specs.Result.{is_ok}
use Rattle.std.proofs.lemmas.Option.{same_Some}
use Rattle.cpu_task.specs.CpuCounting.{one_more, slept}
use mathlib.Core.Logic.{dite}
use native.Mathlib.Decide.{ℕ_discrete}
use Rattle.word_bits.specs.Objects.{Obj}
use Rattle.word_bits.specs.Histories.{Plan}
use Rattle.lock_core.specs.Pasts.{GoesOn, FoundAt, FoundAtStep, IsOwnStep, IsStepBy}
use Rattle.lock_core.specs.Laws.SiteRun.{found-at-step}
use Rattle.lock_core.proofs.HandLaws.{not-both}
use Rattle.lock_core.proofs.RowLaws.{none-some}
use Rattle.percpu_rwsem.specs.PercpuHandles.{FindsZeros, Phased, SleepsBehind, SleepsEachTry, TakesSince}
use Rattle.percpu_rwsem.specs.PercpuPlays.{TakesPhase, phased}
use Rattle.percpu_rwsem.specs.PercpuRuled.{V, block_at, count_at}
use Rattle.percpu_rwsem.specs.Laws.Phase.{no-alone, held-all, held-some}
use Rattle.percpu_rwsem.specs.Phases.{held_by}
use Rattle.percpu_rwsem.specs.PercpuStated.{CountFalls}
use Rattle.percpu_rwsem.specs.Types.{Held, No, Alone, Moment, Phase, Idle, Added, Back, Reads, Blocks}
use Rattle.percpu_rwsem.proofs.Stating.{count-left}
use mathlib.Core.Option.{some}

abbrev seen_of : Phase → ℕ
seen_of Idle = 0
seen_of Added = 0
seen_of Back = 0
seen_of Reads = 0
seen_of (Blocks n) = n

-- a pass that blocks and holds nothing yet
pub blocks-phased : (tasks t n : ℕ) (u : V) → u.ext ≡ Blocks n → u.hand.held ≡ No → u.hand.task ≡ Some t → n < tasks → Phased tasks (Some n) u
blocks-phased tasks t n u phase out has less = record {
  phase = phase;
  part = record {
    holds = out ∙ (sym (held-some tasks n (λ e. omega (arith, e, less))) ∙ sym (ap (held_by tasks) phase));
    numberless = λ bare. none-some t (sym bare ∙ has);
    few = λ m is. let e : n ≡ m = ap seen_of (sym phase ∙ is) in omega (arith, e, less);
  };
}

-- a pass that holds alone
pub alone-phased : (tasks t n : ℕ) (u : V) → u.ext ≡ Blocks n → u.hand.held ≡ Alone → u.hand.task ≡ Some t → n ≡ tasks → Phased tasks (Some n) u
alone-phased tasks t n u phase alone has all = record {
  phase = phase;
  part = record {
    holds = alone ∙ (sym (held-all tasks n all) ∙ sym (ap (held_by tasks) phase));
    numberless = λ bare. none-some t (sym bare ∙ has);
    few = λ m is. let e : n ≡ m = ap seen_of (sym phase ∙ is) in omega (arith, e, all);
  };
}

-- a pass that blocks and holds nothing has counts to see
pub more-to-see : (tasks n : ℕ) (v : V) → Phased tasks (Some n) v → v.hand.held ≡ No → n < tasks
more-to-see tasks n v r out = let few = r.part.few n r.phase in elim (native.Mathlib.Decide.dec_le tasks n) [
  | yes all ↦ no-alone (sym out ∙ (r.part.holds ∙ (ap (held_by tasks) r.phase ∙ held-all tasks n (omega (arith, all, few)))))
  | no less ↦ omega (arith, less)
]

-- how far a drain is that began with this view: it has seen so many counts zero
pub record Drains {Call : Type 0} (o : Obj Call) (k : Plan) (first next : ℕ) (v : V) (old : List Moment) (u : V) (new : List Moment) (held : Held) (seen : Option ℕ) : Type 0 where
  pub seen_is : seen ≡ Some next
  pub goes_on : GoesOn old new
  pub last : first < next → IsOwnStep u new
  pub on : next < length k → (held ≡ No) × ((s : ℕ) × (v.steps ≤ s) × (u ≡ record v { steps = s; ext = Blocks next }))
  pub all : next ≡ length k → (held ≡ Alone) × TakesSince o k Alone (Blocks next) v u
  pub looks : u.steps + first ≡ v.steps + next
  pub zeros : FindsZeros first next v old new

-- what was found zero stays found behind a later step
pub zeros-stay : (first next : ℕ) (v : V) (old past new : List Moment) → GoesOn past new → FindsZeros first next v old past → FindsZeros first next v old new
zeros-stay first next v old past new goes zeros = λ t step least below is. let f = zeros t step least below is in record {
  past = f.past;
  by = f.by;
  found = f.found;
  after = f.after;
  goes_on = λ p x. goes p (f.goes_on p x);
}

-- one count more is found zero
pub zeros-next : (first next : ℕ) (v w : V) (old past new : List Moment) → w.hand.task ≡ v.hand.task → w.steps + first ≡ v.steps + (next + 1) → IsOwnStep w new → FoundAt (count_at next) 0 new → GoesOn old past → GoesOn past new → FindsZeros first next v old past → FindsZeros first (next + 1) v old new
zeros-next first next v w old past new named steps own found after goes zeros = λ t step least below is. dite (ℕ_discrete t next)
    (λ same. subst (λ (s : ℕ). FoundAtStep v.hand.task s (count_at t) 0 old new) (omega (arith, is, same, steps))
    (found-at-step w v.hand.task (count_at t) 0 old new new named own (subst (λ (u : ℕ). FoundAt (count_at u) 0 new) (sym same) found) (λ p x. goes p (after p x)) (λ p x. x)))
    (λ other. zeros-stay first next v old past new goes zeros t step least (omega (arith, below, other)) is)

-- one step saw one count more zero
pub drained-one : {Call : Type 0} (o : Obj Call) (k : Plan) (n : ℕ) (v u : V) → (n ≢ length k → u ≡ phased v v.hand (Blocks n)) → (n ≡ length k → TakesPhase o k Alone (Blocks n) v u) → (u.steps ≡ v.steps + 1) × (u.hand.task ≡ v.hand.task)
drained-one o k n v u next took = dite (ℕ_discrete n (length k))
    (λ all. let t = took all in (ap (λ (z : V). z.steps) t.3, ap (λ (z : V). z.hand.task) t.3))
    (λ not. let e = next not in (ap (λ (z : V). z.steps) e, ap (λ (z : V). z.hand.task) e))

-- what a try to read found at its second step of three
pub looked-found : (r : Result (Unit {0}) ℕ) (v a w u : V) (old past new : List Moment) → a ≡ phased v v.hand Added → IfErr r (λ word. w ≡ phased a a.hand Back) → u ≡ phased w w.hand Idle → IsOwnStep w past → IfErr r (λ word. FoundAt block_at word past) → GoesOn old past → GoesOn past new → IfErr r (λ word. FoundAtStep v.hand.task (v.steps + 2) block_at word old new)
looked-found (Ok x) v a w u old past new add look back own found after goes = tt
looked-found (Err word) v a w u old past new add look back own found after goes = let x = ap (λ (z : V). z.steps) add in let y = ap (λ (z : V). z.steps) look in let two : w.steps ≡ v.steps + 2 = omega (arith, x, y) in
    subst (λ (s : ℕ). FoundAtStep v.hand.task s block_at word old new) two
    (found-at-step w v.hand.task block_at word old past new (ap (λ (z : V). z.hand.task) look ∙ ap (λ (z : V). z.hand.task) add) own found after goes)

-- one try more, and a sleep
pub tries-again : (steps now now' sleeps had had' : ℕ) → SleepsEachTry 0 steps now sleeps had → now' ≡ now + 3 → had' ≡ one_more had → SleepsEachTry 0 steps now' sleeps had'
tries-again steps now now' sleeps had had' s more again = let is = s.1 in (suc s.0, omega (arith, is, more), again ∙ ap one_more s.2)

-- a step that failed, and a sleep
pub sleeps-again : (steps now now' sleeps had had' : ℕ) → SleepsBehind 0 steps now sleeps had → now' ≡ now + 1 → had' ≡ one_more had → SleepsBehind 0 steps now' sleeps had'
sleeps-again steps now now' sleeps had had' s more again = let is = s.1 in (suc s.0, omega (arith, is, more), again ∙ ap one_more s.2)

slept-on : (m n sleeps : ℕ) → slept m (slept n sleeps) ≡ slept (m + n) sleeps
slept-on zero n sleeps = ap (λ (k : ℕ). slept k sleeps) (omega arith)
slept-on (suc m) n sleeps = ap one_more (slept-on m n sleeps) ∙ ap (λ (k : ℕ). slept k sleeps) {x = suc (m + n)} {y = suc m + n} (omega arith)

pub both-of : {A B : Type 0} {P Q : B → Type 0} (r : Result A B) → is_ok r ≡ false → IfErr r P → IfErr r Q → (e : B) × P e × Q e
both-of (Ok x) failed p q = absurd (not-both true failed refl)
both-of (Err e) failed p q = (e, p, q)

pub ok-of : {A B P : Type 0} (r : Result A B) → is_ok r ≡ true → IfOk r (λ _. P) → P
ok-of (Ok x) is p = p
ok-of (Err e) is p = absurd (not-both false refl is)

-- who blocks has seen some counts
pub seen-some : (seen : Option ℕ) → is_some seen ≡ true → (n : ℕ) × (seen ≡ Some n)
seen-some None is = absurd (not-both false refl is)
seen-some (Some n) is = (n, refl)

-- how a pass slept that drains: it had seen so many counts zero, has seen so many, and slept behind each other step
pub record SleptDraining (was seen : Option ℕ) (steps steps' sleeps sleeps' : ℕ) : Type 0 where
  pub first : ℕ
  pub next : ℕ
  pub was_is : was ≡ Some first
  pub seen_is : seen ≡ Some next
  pub behind : SleepsBehind next steps (steps' + first) sleeps sleeps'

pub drains-new : (seen : Option ℕ) (steps sleeps : ℕ) → is_some seen ≡ true → SleptDraining seen seen steps steps sleeps sleeps
drains-new seen steps sleeps some_it = let s = seen-some seen some_it in record { first = s.0; next = s.0; was_is = s.1; seen_is = s.1; behind = (0, omega arith, refl) }

-- it saw counts zero up to the next, which wasn't, and slept
pub drains-again : (was seen seen' : Option ℕ) (task steps now now' sleeps had had' : ℕ) → SleptDraining was seen steps now sleeps had → seen' ≡ Some task → ((n : ℕ) → seen ≡ Some n → (n < task + 1) × (now' + n ≡ now + (task + 1))) → had' ≡ one_more had → SleptDraining was seen' steps now' sleeps had'
drains-again was seen seen' task steps now now' sleeps had had' s is looks again = let at = looks s.next s.seen_is in let more = at.1 in let so_far = s.behind.1 in record {
  first = s.first;
  next = task;
  was_is = s.was_is;
  seen_is = is;
  behind = (suc s.behind.0, omega (arith, more, so_far), again ∙ ap one_more s.behind.2);
}

-- it saw all counts zero
pub drains-all : (was seen : Option ℕ) (tasks steps now now' sleeps had first : ℕ) → SleptDraining was seen steps now sleeps had → was ≡ Some first → ((n : ℕ) → seen ≡ Some n → (n < tasks) × (now' + n ≡ now + tasks)) → SleepsBehind tasks steps (now' + first) sleeps had
drains-all was seen tasks steps now now' sleeps had first s is looks = let at = looks s.next s.seen_is in let more = at.1 in let so_far = s.behind.1 in let same : s.first ≡ first = same_Some s.first first (sym s.was_is ∙ is) in
    (s.behind.0, omega (arith, more, so_far, same), s.behind.2)

-- two calls that wait, one after the other
pub sleeps-both : (tasks steps now now' sleeps had had' : ℕ) → SleepsBehind 1 steps now sleeps had → SleepsBehind tasks now (now' + 0) had had' → SleepsBehind (tasks + 1) steps now' sleeps had'
sleeps-both tasks steps now now' sleeps had had' s t = let a = s.1 in let b = t.1 in (t.0 + s.0, omega (arith, a, b), t.2 ∙ (ap (slept t.0) s.2 ∙ slept-on t.0 s.0 sleeps))

-- what is so of an answer
pub err-of : {A B : Type 0} {P : B → Type 0} (r : Result A B) → is_ok r ≡ false → IfErr r P → (e : B) × P e
err-of (Ok x) failed p = absurd (not-both true failed refl)
err-of (Err e) failed p = (e, p)

-- between two tries of a call that waits
pub idle-view : (tasks : ℕ) (v : V) → Phased tasks None v → v.hand.held ≡ No → v ≡ record v { ext = Idle }
idle-view tasks v r out = ap (λ (e : Phase). record v { ext = e }) (r.phase ∙ ap (λ (h : Held). Rattle.percpu_rwsem.specs.PercpuHandles.phase_by None h) out)

-- the step by which a reader ends its hold
pub count-falls : (k : Plan) (task : Option ℕ) (own step : ℕ) (u : V) (old past new : List Moment) → task ≡ Some own → u.hand.task ≡ task → u.hand.held ≡ No → u.steps ≡ step → IsOwnStep u past → FoundAt (count_at own) 1 past → GoesOn old past → GoesOn past new → CountFalls k task step old new
count-falls k task own step u old past new named mine out steps latest found before after = let by : IsStepBy task step past = record {
  now = latest.now;
  before = latest.before;
  rest = latest.rest;
  seat = latest.seat;
  past_is = latest.past_is;
  hand = u.hand;
  is = latest.hand;
  named = mine;
  steps = latest.steps ∙ ap some steps;
  had = latest.had;
  had_steps = latest.had_steps;
  counts = sym steps ∙ latest.counts;
} in record {
  own = own;
  named = named;
  found = record { past = past; by = by; found = found; after = before; goes_on = after };
  out = out;
  left = λ h there shares s. count-left k latest.before latest.now latest.seat latest.had own h u.hand s there latest.hand latest.had_steps (latest.steps ∙ ap some latest.counts) shares out (mine ∙ named);
}
