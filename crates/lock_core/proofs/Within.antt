-- What a part of a call shows is shown by the whole.
use Rattle.std.proofs.Common.{◌≡◌, ℕ, ◌+◌, ◌≤◌, Bool, true, false, List, Option, refl, ap, ◌∙◌, arith}
use Rattle.std.specs.Prelude.{Result, Ok, Err, IfErr, if◌then◌else◌}
use Rattle.lock_core.specs.Tallies.{answered, left, raised, stood_in_list, was_interrupted}
use Rattle.lock_core.specs.Kinds.{Kind}
use Rattle.lock_core.specs.Locking.{Interrupts, Keeps, Misses, OnlyTried, SawPending, Sees, TalliesLock, TalliesSpin}
use Rattle.lock_core.specs.Pasts.{FoundAtStep, FoundSince, GoesOn}
use Rattle.lock_core.specs.Shown.{FindsSince, NoCountFalls, PastGoesOn, Shown}
use Rattle.lock_core.specs.Types.{How, Interrupted, Hand, No, Line, Moment, Tally}

-- what a step of a stretch found is found also of a stretch that holds it
abbrev pub found-within : {task task' : Option ℕ} {step at n : ℕ} {p q r s : List Moment} → task' ≡ task → GoesOn p q → GoesOn r s → FoundAtStep task' step at n q r → FoundAtStep task step at n p s
found-within {step = step} same before after f = record {
  past = f.past;
  by = record {
    now = f.by.now;
    before = f.by.before;
    rest = f.by.rest;
    seat = f.by.seat;
    past_is = f.by.past_is;
    hand = f.by.hand;
    is = f.by.is;
    named = f.by.named ∙ same;
    steps = f.by.steps;
    had = f.by.had;
    had_steps = f.by.had_steps;
    counts = f.by.counts;
  };
  found = f.found;
  after = λ t e. f.after t (before t e);
  goes_on = λ t e. after t (f.goes_on t e);
}

pub found-since-within : (task task' : Option ℕ) (begun begun' done done' i n : ℕ) (old from to new : List Moment) → task' ≡ task → begun ≤ begun' → GoesOn old from → done' ≤ done → GoesOn to new → FoundSince task' begun' done' i n from to → FoundSince task begun done i n old new
found-since-within task task' begun begun' done done' i n old from to new same later before more after f = let e = f.1 in let d = f.2 in (f.0, omega (arith, e, later), omega (arith, d, more), found-within same before after f.3)

pub since-within : (v a b u : Shown) {at n : ℕ} → a.hand.task ≡ v.hand.task → v.steps ≤ a.steps → PastGoesOn v a → FindsSince at n a b → b.steps ≤ u.steps → PastGoesOn b u → FindsSince at n v u
since-within v a b u same steps before f more after = let e = f.1 in let d = f.2 in (f.0, omega (arith, e, steps), omega (arith, d, more), found-within same before after f.3)

-- the word that a try saw is that of the whole call, whose later tries don't count
pub sees-within : {kind : Kind} {reads : Bool} {at n : ℕ} (v a b u : Shown) → a.hand.task ≡ v.hand.task → v.steps ≤ a.steps → PastGoesOn v a → Sees kind reads at n a b → u.hand.saw ≡ b.hand.saw → b.steps ≤ u.steps → PastGoesOn b u → Sees kind reads at n v u
sees-within v a b u same steps before s saw more after = record {
  saw = s.saw;
  is = saw ∙ s.is;
  word_is = s.word_is;
  since = (let e = s.since in omega (arith, e, steps));
  by_now = (let e = s.by_now in omega (arith, e, more));
  found = found-within same before after s.found;
  shut = s.shut;
}

-- so are the signals that it heard of
pub pending-within : {why : Interrupted} (v a b u : Shown) → a.hand.task ≡ v.hand.task → v.steps ≤ a.steps → PastGoesOn v a → SawPending why a b → b.steps ≤ u.steps → PastGoesOn b u → SawPending why v u
pending-within {why} v a b u same steps before s more after = record {
  sent = λ t is. since-within v a b u same steps before (s.sent t (same ∙ is)) more after;
  taken = λ t is. since-within v a b u same steps before (s.taken t (same ∙ is)) more after;
  pending = s.pending;
}

pub counts-then : {v w u : Shown} → NoCountFalls v w → NoCountFalls w u → NoCountFalls v u
counts-then {v} {w} {u} a b = record {
  steps = (let x = a.steps in let y = b.steps in omega (arith, x, y));
  misses = (let x = a.misses in let y = b.misses in omega (arith, x, y));
  entries = (let x = a.entries in let y = b.entries in omega (arith, x, y));
  fronts = (let x = a.fronts in let y = b.fronts in omega (arith, x, y));
  appends = (let x = a.appends in let y = b.appends in omega (arith, x, y));
}

pub keeps-then : {v w u : Shown} → Keeps v w → Keeps w u → Keeps v u
keeps-then a b = record { task = b.task ∙ a.task; done = b.done ∙ a.done; seen = b.seen ∙ a.seen; records = b.records ∙ a.records; sent = b.sent ∙ a.sent; last = b.last ∙ a.last; counts = counts-then a.counts b.counts }

pub tried-then : {v w u : Shown} → OnlyTried v w → OnlyTried w u → OnlyTried v u
tried-then a b = record { keeps = keeps-then a.keeps b.keeps; consumed = b.consumed ∙ a.consumed; takes = b.takes ∙ a.takes; freed = b.freed ∙ a.freed }

-- a call that waited in line after failed tries, and consumed a signal
pub waits-interrupted : {kind : Kind} {reads : Bool} {at word : ℕ} {why : Interrupted} (v w u : Shown) → OnlyTried v w → w.line ≡ v.line → PastGoesOn v w → w.hand.held ≡ No → Sees kind reads at word v w → u.hand ≡ record w.hand { heard = u.hand.heard; consumed = w.hand.consumed + 1 } → NoCountFalls w u → PastGoesOn w u → u.line.appends ≡ w.line.appends + 1 → SawPending why w u → Interrupts kind reads at why v u
waits-interrupted {word = word} v w u t line before out sees consumed counts after waited heard = record {
  keeps = keeps-then t.keeps record { task = ap (λ (h : Hand). h.task) consumed; done = ap (λ (h : Hand). h.done) consumed; seen = ap (λ (h : Hand). h.seen) consumed; records = ap (λ (h : Hand). h.records) consumed; sent = ap (λ (h : Hand). h.sent) consumed; last = ap (λ (h : Hand). h.last) consumed; counts = counts };
  heard = pending-within v w u u t.keeps.task t.keeps.counts.steps before heard (omega arith) (λ p e. e);
  consumed = ap (λ (h : Hand). h.consumed) consumed ∙ ap (λ (n : ℕ). n + 1) t.consumed;
  out = ap (λ (h : Hand). h.held) consumed ∙ out;
  takes = ap (λ (h : Hand). h.takes) consumed ∙ t.takes;
  word = word;
  sees = sees-within v v w u refl (omega arith) (λ p e. e) sees (ap (λ (h : Hand). h.saw) consumed) counts.steps after;
  freed = ap (λ (h : Hand). h.freed) consumed ∙ t.freed;
  waited = waited ∙ ap (λ (l : Line). l.appends + 1) line;
}

-- an interruption after failed tries
pub tried-interrupts : {kind : Kind} {reads : Bool} {at : ℕ} {why : Interrupted} (v w u : Shown) → OnlyTried v w → w.line ≡ v.line → PastGoesOn v w → Interrupts kind reads at why w u → Interrupts kind reads at why v u
tried-interrupts v w u t line before i = record {
  keeps = keeps-then t.keeps i.keeps;
  heard = pending-within v w u u t.keeps.task t.keeps.counts.steps before i.heard (omega arith) (λ p e. e);
  consumed = i.consumed ∙ ap (λ (n : ℕ). n + 1) t.consumed;
  out = i.out;
  word = i.word;
  sees = sees-within v w u u t.keeps.task t.keeps.counts.steps before i.sees refl (omega arith) (λ p e. e);
  takes = i.takes ∙ t.takes;
  freed = i.freed ∙ t.freed;
  waited = i.waited ∙ ap (λ (l : Line). l.appends + 1) line;
}

-- how often the pass was in the spin queue, and what it counted of its calls, is counted apart
abbrev pub counting : (fronts swaps : ℕ) → Tally → Shown → Shown
counting f s t v = record v { fronts = f; swaps = s; tally = t }

module _ (v u : Shown) (f f' s s' : ℕ) (t t' : Tally) where
  pub keeps-fronts : f ≤ f' → Keeps v u → Keeps (counting f s t v) (counting f' s' t' u)
  keeps-fronts more k = record { task = k.task; done = k.done; seen = k.seen; records = k.records; sent = k.sent; last = k.last; counts = record { steps = k.counts.steps; misses = k.counts.misses; entries = k.counts.entries; fronts = more; appends = k.counts.appends } }

  pub tried-fronts : f ≤ f' → OnlyTried v u → OnlyTried (counting f s t v) (counting f' s' t' u)
  tried-fronts more o = record { keeps = keeps-fronts more o.keeps; consumed = o.consumed; takes = o.takes; freed = o.freed }

  pub sees-fronts : {kind : Kind} {reads : Bool} {at n : ℕ} → Sees kind reads at n v u → Sees kind reads at n (counting f s t v) (counting f' s' t' u)
  sees-fronts m = record { saw = m.saw; is = m.is; word_is = m.word_is; since = m.since; by_now = m.by_now; found = m.found; shut = m.shut }

  pub interrupts-fronts : {kind : Kind} {reads : Bool} {at : ℕ} {why : Interrupted} → f ≤ f' → Interrupts kind reads at why v u → Interrupts kind reads at why (counting f s t v) (counting f' s' t' u)
  interrupts-fronts more i = record {
    keeps = keeps-fronts more i.keeps;
    heard = record { sent = i.heard.sent; taken = i.heard.taken; pending = i.heard.pending };
    consumed = i.consumed;
    out = i.out;
    word = i.word;
    takes = i.takes;
    sees = sees-fronts i.sees;
    freed = i.freed;
    waited = i.waited;
  }

pub misses-fronts : {kind : Kind} {reads : Bool} {at n : ℕ} (v u : Shown) (f s : ℕ) (t : Tally) → Misses kind reads at n v u → Misses kind reads at n (counting f s t v) (counting f s t u)
misses-fronts v u f s t m = record { keeps = keeps-fronts v u f f s s t t (omega arith) m.keeps; consumed = m.consumed; out = m.out; takes = m.takes; sees = sees-fronts v u f f s s t t m.sees; once = m.once; freed = m.freed; entries = m.entries; fronts = refl; line = m.line; swaps = refl; tally = refl }

-- a call that spun, and then answered, counted both
pub tallies-answer : (answer : Result How Interrupted) (v w u : Shown) → TalliesSpin v w → u.tally ≡ answered answer w.tally → u.swaps ≡ w.swaps → u.fronts ≡ w.fronts → TalliesLock answer v u
tallies-answer answer v w u spun is swaps fronts = record {
  queued = ap (λ (t : Tally). t.queued) is ∙ ap (raised (stood_in_list answer)) (ap (λ (t : Tally). t.queued) spun.2 ∙ queued spun.0);
  interrupted = ap (λ (t : Tally). t.interrupted) is ∙ ap (raised (was_interrupted answer)) (ap (λ (t : Tally). t.interrupted) spun.2 ∙ interrupted spun.0);
  refused = spun.0;
  entered = (let e = spun.1 in omega (arith, e, swaps, fronts));
  left = ap (λ (t : Tally). t.left) is ∙ (ap (λ (t : Tally). t.left) spun.2 ∙ gone spun.0);
}
  where
    queued : (refused : Bool) → (if refused then left v.tally else v.tally).queued ≡ v.tally.queued
    queued true = refl
    queued false = refl

    interrupted : (refused : Bool) → (if refused then left v.tally else v.tally).interrupted ≡ v.tally.interrupted
    interrupted true = refl
    interrupted false = refl

    gone : (refused : Bool) → (if refused then left v.tally else v.tally).left ≡ raised refused v.tally.left
    gone true = refl
    gone false = refl

pub err-map : {A E : Type 0} (P Q : E → Type 0) (r : Result A E) → ((e : E) → P e → Q e) → IfErr r P → IfErr r Q
err-map P Q (Ok a) f h = tt
err-map P Q (Err e) f h = f e h

pub err-all : {A E P : Type 0} (r : Result A E) → P → IfErr r (λ _. P)
err-all (Ok a) h = tt
err-all (Err e) h = h
