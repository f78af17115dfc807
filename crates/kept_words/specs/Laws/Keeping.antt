-- What the calls of any lock make of a task of words.
use Rattle.std.proofs.Common.{◌≡◌, ◌≢◌, ◌∙◌, ◌⊎◌, inl, inr, ⊎_elim, ℕ, zero, suc, ◌-◌, ◌<◌, ◌≤◌, Bool, true, false, List, [], ◌∷◌, ◌++◌, length, take, take_all, replicate, slice_get, length-append}
use Rattle.std.proofs.Common.{Some, None, IsSome, refl, sym, ap, subst, arith}
use Rattle.std.proofs.lemmas.Bool.{false≢true}
use Rattle.std.proofs.lemmas.Bool.Decides.{nat_tests}
use Rattle.std.proofs.lemmas.List.{length-replicate}
use Rattle.word_bits.specs.Calls.{mode_number, signal_of}
use Rattle.word_bits.specs.RecWord.{kind_of}
use Rattle.word_bits.specs.LockWords.{Unavailable}
use Rattle.word_bits.specs.Histories.{Plan, state_after}
use Rattle.word_bits.specs.Legal.{IsRecord, IsUnheldReply}
use Rattle.word_bits.proofs.Signals.{signal_kind}
use Rattle.lock_core.specs.Plans.{appended, calls_in}
use Rattle.lock_core.specs.Records.{row, seen_by, AreNext, IsPlan}
use Rattle.lock_core.specs.Kinds.{Kind}
use Rattle.lock_core.specs.Locking.{Begins, HasSince, Misses, Releases, Takes}
use Rattle.lock_core.specs.Shown.{Shown, shown_split}
use Rattle.lock_core.specs.Sitting.{SitsIdle}
use Rattle.lock_core.specs.SitePasses.{IsChange, Numbered}
use Rattle.lock_core.specs.Views.{committed, longer, next_entry}
use Rattle.lock_core.proofs.Planning.{calls_in-empty}
use Rattle.lock_core.proofs.Recording.{next-is}
use Rattle.lock_core.proofs.RowLaws.{none-some, same-some, some-inside}
use Rattle.kept_words.specs.Keeping.{kept, opening, opening_entry, opening_plan, opens, IsOurs, IsTask, Opens}
use Rattle.kept_words.specs.Types.{CallWords, Entry, Rec, Reply, Errno, Good, Num, Refused, MapErr, AccErr, Busy, Intr, Sent, Hand, Held, No}

pub kept-zeros : (size : ℕ) (keeps : List ℕ → Type 0) → (length (replicate {A = ℕ} size 0) ≡ size) × (false ≡ true → keeps (replicate size 0))
kept-zeros size keeps = (length-replicate {A = ℕ} size 0, λ e. absurd (false≢true e))

pub no-signal : (w : CallWords) (task : ℕ) → signal_of w ≡ Some task → opens w ≡ None
no-signal w task is = let k = signal_kind w task is in grind (arith, nat_tests, k)

pub never-reads : {P : Type 0} → false ≡ true → P
never-reads e = absurd (false≢true e)

pub never-refused : {P : Type 0} (errno : Errno) → Good ≡ Refused errno → P
never-refused errno e = let k = ap kind_of e in absurd (omega (arith, k))

one-entry : (log : List Entry) (e : Entry) (i : ℕ) → length log ≤ 1 → slice_get log i ≡ Some e → log ≡ e ∷ []
one-entry [] e i few is = none-some e is
one-entry (x ∷ []) e zero few is = ap (λ (z : Entry). z ∷ []) (same-some x e is)
one-entry (x ∷ []) e (suc i) few is = none-some e is
one-entry (x ∷ y ∷ log) e i few is = absurd (omega (arith, few))

empty-row : (n t : ℕ) → row (replicate {A = List CallWords} n []) t ≡ []
empty-row zero t = refl
empty-row (suc n) zero = refl
empty-row (suc n) (suc t) = empty-row n t

-- the plan is one of the words
pub plan-so : (size : ℕ) (keeps : List ℕ → Type 0) (others : ℕ) (k : Plan) → k ≡ opening_plan others → IsPlan (kept size keeps) k
plan-so size keeps others k plan = subst (λ (z : Plan). IsPlan (kept size keeps) z) (sym plan) calls
  where
    calls : IsPlan (kept size keeps) (opening_plan others)
    calls zero zero w is = inr (subst (λ (z : CallWords). IsSome (opens z)) (same-some opening w is) refl)
    calls zero (suc c) w is = none-some w is
    calls (suc t) c w is = none-some w (subst (λ (ws : List CallWords). slice_get ws c ≡ Some w) (empty-row others t) is)

pub planned-so : (tasks : ℕ) → 0 < tasks → appended (replicate tasks []) 0 opening ≡ opening_plan (tasks - 1)
planned-so zero some = absurd (omega (arith, some))
planned-so (suc n) some = let e : n ≡ suc n - 1 = omega arith in ap opening_plan e

pub plan-length : (tasks : ℕ) (k : Plan) → 0 < tasks → k ≡ opening_plan (tasks - 1) → length k ≡ tasks
plan-length tasks k some plan = let l = ap length plan in let r = length-replicate {A = List CallWords} (tasks - 1) [] in omega (arith, l, r, some)

pub one-call : (others : ℕ) → calls_in (opening_plan others) ≡ 1
one-call others = let e = calls_in-empty others in omega (arith, e)

short : (n : ℕ) (log : List Entry) (e : Entry) → log ≡ e ∷ [] → (take n log ≡ []) ⊎ (take n log ≡ e ∷ [])
short zero log e is = inl refl
short (suc n) log e is = let l = ap length is in inr (take_all (suc n) log (omega (arith, l)) ∙ is)

module _ (size : ℕ) (keeps : List ℕ → Type 0) where
  -- whoever has seen the opening finds the invariant so
  pub keeps-so : (others : ℕ) (k : Plan) (h : Hand) (log : List Entry) (ws : List ℕ) → k ≡ opening_plan others → h.seen ≡ opening_entry ∷ [] → length log ≤ calls_in k → Begins h log
      → (length ws ≡ size) × (state_after (kept size keeps) k log ≡ true → keeps ws) → keeps ws
  keeps-so others k h log ws plan begun few begins stands = stands.1 (λ i. state_after (kept size keeps) (plan i) (whole i))
    where
      whole : log ≡ opening_entry ∷ []
      whole = let one = ap calls_in plan in let calls = one-call others in let l = ap length begun in sym (take_all (length h.seen) log (omega (arith, few, one, calls, l))) ∙ (begins.1 ∙ begun)

  module _ (unavailable : Unavailable) where
    unheld-none : (reply : Reply) → IsUnheldReply (kept size keeps) unavailable opening reply → ⊥
    unheld-none (Busy w) is = let e : 0 ≡ 2 = ap mode_number is.0 in omega (arith, e)
    unheld-none Intr is = let e : 0 ≡ 1 = ap mode_number is.0 in omega (arith, e)
    unheld-none Sent is = absurd (false≢true is)
    unheld-none Good is = is
    unheld-none (Num n) is = is
    unheld-none (Refused e) is = is
    unheld-none MapErr is = is
    unheld-none AccErr is = is

    -- a record of the opening says that it was done
    done-so : (k : Plan) (log : List Entry) (e : Entry) (seen : ℕ) (r : Rec) → length log ≤ 1 → IsRecord (kept size keeps) unavailable k log seen e opening r → (log ≡ e ∷ []) × (r.k ≡ 0)
        × (r.reply ≡ Good)
    done-so k log e seen r few (inl logged) = let l = some-inside log r.k e logged.place in (one-entry log e r.k few logged.place, omega (arith, l, few), logged.reply)
    done-so k log e seen r few (inr (inl read)) = absurd (false≢true read.reads)
    done-so k log e seen r few (inr (inr unheld)) = absurd (unheld-none r.reply unheld.reply)

    -- what a task has seen by its records
    seen-so : (others t : ℕ) (rs : List Rec) (log : List Entry) → length log ≤ 1 → AreNext (kept size keeps) unavailable (opening_plan others) log t 0 0 (row (opening_plan others) t) rs
        → (take (seen_by (kept size keeps) 0 (row (opening_plan others) t) rs) log ≡ []) ⊎ (take (seen_by (kept size keeps) 0 (row (opening_plan others) t) rs) log ≡ opening_entry ∷ [])
    seen-so others zero [] log few next = inl refl
    seen-so others zero (r ∷ []) log few next = short (seen_by (kept size keeps) 0 (opening ∷ []) (r ∷ [])) log opening_entry (done-so (opening_plan others) log opening_entry r.k r few next.0.means).0
    seen-so others zero (r ∷ r' ∷ rs) log few next = absurd next.1
    seen-so others (suc t) rs log few next = inl (ap (λ (ws : List CallWords). take (seen_by (kept size keeps) 0 ws rs) log) (empty-row others t))

    few-entries : (others : ℕ) (log : List Entry) → length log ≤ calls_in (opening_plan others) → length log ≤ 1
    few-entries others log l = let one = one-call others in omega (arith, l, one)

    -- who takes a number has still seen the opening
    pub begun-open : (others : ℕ) (k : Plan) (h g : Hand) (t : ℕ) → k ≡ opening_plan others → Numbered (kept size keeps) unavailable k h t g → h.seen ≡ opening_entry ∷ [] → g.seen ≡ opening_entry ∷ []
    begun-open others k h g t plan numbered begun = let n = subst (λ (z : Plan). Numbered (kept size keeps) unavailable z h t g) plan numbered in let now = ap (λ (x : Hand). x.seen) n.4 in
        ⊎_elim (λ none. now ∙ (λ i. longer (begun i) (none i))) (λ some. now ∙ (λ i. longer (begun i) (some i))) (seen-so others t n.0 n.1 (few-entries others n.1 n.3) n.2)

    -- who takes the first task's number is to open the words, or finds them open
    pub first-open : (others : ℕ) (k : Plan) (h g : Hand) → k ≡ opening_plan others → Numbered (kept size keeps) unavailable k h 0 g → h.seen ≡ [] → (g.done ≡ 0) ⊎ (g.seen ≡ opening_entry ∷ [])
    first-open others k h g plan numbered none = let n = subst (λ (z : Plan). Numbered (kept size keeps) unavailable z h 0 g) plan numbered in
        by-records n.0 n.1 n.2 (few-entries others n.1 n.3) (ap (λ (x : Hand). x.done) n.4) (ap (λ (x : Hand). x.seen) n.4)
      where
        by-records : (rs : List Rec) (log : List Entry) → AreNext (kept size keeps) unavailable (opening_plan others) log 0 0 0 (row (opening_plan others) 0) rs → length log ≤ 1 → g.done ≡ length rs
            → g.seen ≡ longer h.seen (take (seen_by (kept size keeps) 0 (row (opening_plan others) 0) rs) log) → (g.done ≡ 0) ⊎ (g.seen ≡ opening_entry ∷ [])
        by-records [] log next few done seen = inl done
        by-records (r ∷ []) log next few done seen = let t = done-so (opening_plan others) log opening_entry r.k r few next.0.means in let l = ap length t.0 in
            let whole : take (seen_by (kept size keeps) 0 (opening ∷ []) (r ∷ [])) log ≡ opening_entry ∷ [] =
            ap (λ (x : Rec). take (seen_by (kept size keeps) 0 (opening ∷ []) (x ∷ [])) log) (λ i. record { k = t.1 i; reply = t.2 i }) ∙ (take_all 1 log (omega (arith, l)) ∙ t.0) in
            inr (seen ∙ (λ i. longer (none i) (whole i)))
        by-records (r ∷ r' ∷ rs) log next few done seen = absurd next.1

  -- the opening, of a pass that has written words of which the invariant is so
  pub opening-may : (others : ℕ) (k : Plan) (h : Hand) → k ≡ opening_plan others → h.task ≡ Some 0 → h.done ≡ 0 → length h.known ≡ size → keeps h.known
      → IsChange (kept size keeps) k h (next_entry h) Good
  opening-may others k h plan task done wide so = subst (λ (z : Plan). IsChange (kept size keeps) z h (next_entry h) Good) (sym plan) record {
    words = opening;
    call = tt;
    planned = subst (λ (e : Entry). slice_get (row (opening_plan others) e.task) e.call ≡ Some opening) (sym (next-is h 0 0 task done)) refl;
    is = refl;
    changes = refl;
    stored = (wide, λ _. so);
    replies = refl;
  }

none-left : (log : List Entry) → length log ≡ 0 → log ≡ []
none-left [] e = refl
none-left (x ∷ log) e = absurd (omega (arith, e))

-- it has then seen the opening
pub opening-seen : (others : ℕ) (k : Plan) (h u : Hand) (step : ℕ) → k ≡ opening_plan others → u ≡ committed h step (next_entry h) Good → h.task ≡ Some 0 → h.done ≡ 0 → length u.seen ≤ calls_in k
    → u.seen ≡ opening_entry ∷ []
opening-seen others k h u step plan is task done few = let seen : u.seen ≡ h.log ++ next_entry h ∷ [] = ap (λ (x : Hand). x.seen) is in
    let none : h.log ≡ [] = none-left h.log (let a = ap length seen in let b = length-append h.log (next_entry h ∷ []) in let one = ap calls_in plan in let calls = one-call others in
    omega (arith, a, b, few, one, calls)) in
    seen ∙ (λ i. none i ++ next-is h 0 0 task done i ∷ [])

module _ {L P : Type 0} (Sits : L → P → Type 0) (calls_on : L → Plan) (view : P → Shown) (lock : L) (p q : P) (sits : Sits lock q) where
  some-task : (view q).hand.task ≡ (view p).hand.task → IsSome (view p).hand.task → IsSome (view q).hand.task
  some-task same is = subst IsSome (sym same) is

  ours : IsOurs Sits calls_on view lock p → (view q).hand.seen ≡ (view p).hand.seen → IsOurs Sits calls_on view lock q
  ours is same = record { sits = sits; others = is.others; planned = is.planned; begun = same ∙ is.begun }

  -- a pass that is split off has seen the opening too
  pub split-ours : IsOurs Sits calls_on view lock p → view q ≡ shown_split (view p) → IsOurs Sits calls_on view lock q
  split-ours is same = ours is (ap (λ (v : Shown). v.hand.seen) same)

  module _ (size : ℕ) where
    -- who takes comes to know the words
    pub taken : (keeps : List ℕ → Type 0) (k : Plan) (how : Held) → IsTask Sits calls_on view size lock p → Takes (kept size keeps) k how (view p) (view q) → IsTask Sits calls_on view size lock q
    taken keeps k how is takes = record {
      own = ours is.own takes.keeps.seen;
      numbered = some-task takes.keeps.task is.numbered;
      wide = λ _. takes.stored.0;
      sent = takes.keeps.sent ∙ is.sent;
      consumed = takes.consumed ∙ is.consumed;
    }

    -- who holds nothing knows no word
    free-wide : (view q).hand.held ≡ No → (view q).hand.held ≢ No → length (view q).hand.known ≡ size
    free-wide out some = absurd (some out)

    pub missed : (kind : Kind) (reads : Bool) (at word : ℕ) → IsTask Sits calls_on view size lock p → Misses kind reads at word (view p) (view q) → IsTask Sits calls_on view size lock q
    missed kind reads at word is misses = record {
      own = ours is.own misses.keeps.seen;
      numbered = some-task misses.keeps.task is.numbered;
      wide = free-wide misses.out;
      sent = misses.keeps.sent ∙ is.sent;
      consumed = misses.consumed ∙ is.consumed;
    }

    -- who takes a number
    pub begun : (keeps : List ℕ → Type 0) (unavailable : Unavailable) (t : ℕ) → IsOurs Sits calls_on view lock p → ((view p).hand.held ≡ No) × ((view p).hand.sent ≡ None)
        × ((view p).hand.consumed ≡ 0) → Numbered (kept size keeps) unavailable (calls_on lock) (view p).hand t (view q).hand → IsTask Sits calls_on view size lock q
    begun keeps unavailable t own free n = record {
      own = record {
        sits = sits;
        others = own.others;
        planned = own.planned;
        begun =
            begun-open size keeps unavailable own.others (calls_on lock) (view p).hand (view q).hand t own.planned n own.begun;
      };
      numbered = subst IsSome (sym (ap (λ (h : Hand). h.task) n.4)) refl;
      wide = free-wide (ap (λ (h : Hand). h.held) n.4 ∙ free.0);
      sent = ap (λ (h : Hand). h.sent) n.4 ∙ free.1;
      consumed = ap (λ (h : Hand). h.consumed) n.4 ∙ free.2;
    }

    -- who has opened the words and ends its hold
    pub opened : (others : ℕ) (h : Hand) (wakes : ℕ → Type 0) (m : P) → calls_on lock ≡ opening_plan others → h.task ≡ Some 0 → h.done ≡ 0 → h.sent ≡ None → h.consumed ≡ 0
        → HasSince (λ step. committed h step (next_entry h) Good) (view p) (view m) → length (view m).hand.seen ≤ calls_in (calls_on lock) → Releases wakes (view m) (view q)
        → IsTask Sits calls_on view size lock q
    opened others h wakes m plan task done sent consumed c few frees = record {
      own = record { sits = sits; others = others; planned = plan; begun = frees.0.keeps.seen ∙ opening-seen others (calls_on lock) h (view m).hand c.0 plan c.3.0 task done few };
      numbered = subst IsSome (sym (frees.0.keeps.task ∙ (ap (λ (x : Hand). x.task) c.3.0 ∙ task))) refl;
      wide = free-wide frees.1;
      sent = frees.0.keeps.sent ∙ (ap (λ (x : Hand). x.sent) c.3.0 ∙ sent);
      consumed = frees.0.consumed ∙ (ap (λ (x : Hand). x.consumed) c.3.0 ∙ consumed);
    }

    -- who took the first task's number and finds the words open
    pub found-open : (others : ℕ) → calls_on lock ≡ opening_plan others → (view q).hand.task ≡ Some 0 → (view q).hand.held ≡ No → (view q).hand.sent ≡ None → (view q).hand.consumed ≡ 0
        → (view q).hand.seen ≡ opening_entry ∷ [] → IsTask Sits calls_on view size lock q
    found-open others plan task out sent consumed seen = record {
      own = record { sits = sits; others = others; planned = plan; begun = seen };
      numbered = subst IsSome (sym task) refl;
      wide = free-wide out;
      sent = sent;
      consumed = consumed;
    }

-- a task of one of two locks that are the same
module _ {L P : Type 0} (Sits : L → P → Type 0) (calls_on : L → Plan) (view : P → Shown) (at lock : L) (p : P) (size : ℕ) (keeps : List ℕ → Type 0) (same : at ≡ lock) where
  -- its plan is one of the words
  pub sits-planned : IsOurs Sits calls_on view lock p → SitsIdle (kept size keeps) (calls_on at) (Sits at p)
  sits-planned own = record {
    own = subst (λ (l : L). Sits l p) (sym same) own.sits;
    planned = plan-so size keeps own.others (calls_on at) (ap calls_on same ∙ own.planned);
  }

  -- who takes finds the invariant so
  pub finds-kept : (how : Held) (q : P) → IsTask Sits calls_on view size lock p → Takes (kept size keeps) (calls_on at) how (view p) (view q) → length (view q).hand.log ≤ calls_in (calls_on at)
      → keeps (view q).hand.known
  finds-kept how q is takes few = keeps-so size keeps is.own.others (calls_on at) (view p).hand (view q).hand.log (view q).hand.known (ap calls_on same ∙ is.own.planned) is.own.begun few takes.begins
      takes.stored

-- a pass that a task's pass split off and that took a number, where all these locks are the same
module _ {L P : Type 0} (Sits : L → P → Type 0) (calls_on : L → Plan) (view : P → Shown) (lock : L) (p r q : P) (size : ℕ) (keeps : List ℕ → Type 0) where
  pub split-begun : (unavailable : Unavailable) (t : ℕ) (at at' new : L) → at ≡ lock → at' ≡ lock → new ≡ lock → IsTask Sits calls_on view size lock p → Sits at r → view r ≡ shown_split (view p)
      → Sits at' q → Numbered (kept size keeps) unavailable (calls_on at') (view r).hand t (view q).hand → IsTask Sits calls_on view size new q
  split-begun unavailable t at at' new e e' f is theirs given sits n =
      let free : ((view r).hand.held ≡ No) × ((view r).hand.sent ≡ None) × ((view r).hand.consumed ≡ 0) =
      (ap (λ (v : Shown). v.hand.held) given, ap (λ (v : Shown). v.hand.sent) given, ap (λ (v : Shown). v.hand.consumed) given) in
      let own : IsOurs Sits calls_on view lock r = split-ours Sits calls_on view lock p r (subst (λ (l : L). Sits l r) e theirs) is.own given in
      subst (λ (l : L). IsTask Sits calls_on view size l q) (sym f) (begun Sits calls_on view lock r q (subst (λ (l : L). Sits l q) e' sits) size keeps unavailable t own free
      (subst (λ (l : L). Numbered (kept size keeps) unavailable (calls_on l) (view r).hand t (view q).hand) e' n))

-- what the opening asks of the words' object, where the invariant is so of the first words
pub kept-opens : (size : ℕ) (keeps : List ℕ → Type 0) (unavailable : Unavailable) (others : ℕ) (k : Plan) (ws : List ℕ) → k ≡ opening_plan others → length ws ≡ size → keeps ws
    → Opens (kept size keeps) unavailable k ws
kept-opens size keeps unavailable others k ws plan wide so = record {
  wide = λ s us is. is.0 ∙ sym wide;
  may = λ h task done known. opening-may size keeps others k h plan task done (ap (λ (xs : List ℕ). length xs) known ∙ wide) (subst (λ (xs : List ℕ). keeps xs) (sym known) so);
  first = λ h g numbered none. first-open size keeps unavailable others k h g plan numbered none;
}
