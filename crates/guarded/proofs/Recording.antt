-- What a call of `perform` records, from what each of its steps does.
use Rattle.std.proofs.Common.{◌≡◌, ◌≢◌, ℕ, ◌+◌, ◌<◌, ◌≤◌, ⊎_elim, inl, inr, Bool, true, false, not, ◌&&◌, List, [], ◌∷◌, ◌++◌, length, take, slice_get, Option, Some, None, IsSome, IfOk, IfErr, Result, Ok, Err, refl, sym, ap, ◌∙◌, subst, arith, length-append, length-take, take-take, take_at, take_all}
use Rattle.std.specs.Option.{option_map_or}
use Rattle.std.proofs.lemmas.Bool.{false≢true}
use Rattle.word_bits.specs.Calls.{mode_of, signal_of}
use Rattle.word_bits.specs.Objects.{Obj, IsObjectReply}
use Rattle.word_bits.specs.Histories.{Plan, logs, changes, state_after}
use Rattle.word_bits.specs.Legal.{IsRecord, IsUnheldReply, is_intr, seen_after}
use Rattle.lock_core.specs.Records.{bit, is_sent, row}
use Rattle.lock_core.specs.Tallies.{raised, stood_in_list}
use Rattle.lock_core.specs.Views.{recorded, committed, noted, next_entry, OwesNoSignal, Unsent}
use Rattle.lock_core.specs.SitePasses.{IsReading, MayNote}
use Rattle.lock_core.proofs.RowLaws.{get-last}
use Rattle.lock_core.proofs.RecordLaws.{object-logs, changes-is}
use Rattle.lock_core.proofs.Replies.{settled-object}
use Rattle.guarded.proofs.Passing.{beside-trans}
use Rattle.lock_core.specs.Pasts.{FoundAtStep}
use Rattle.lock_core.specs.Kinds.{Kind, shares, unavailable, wakes_shared}
use Rattle.lock_core.specs.Shown.{Shown, NoCountFalls, AllButHand, LeavesHold, PastGoesOn, IsNextCall}
use Rattle.lock_core.specs.Locking.{Begins, HasSince, Looks, Takes, Frees, Releases, Sees, SawPending, KeepsPlace, IsLetIn, Interrupts, Got, TalliesLock}
use Rattle.guarded.specs.Performing.{Refuses, TalliesCall, TriesOnce, AddsRecord, Serves, Performs, takes_by}
use Rattle.guarded.specs.Types.{CallWords, Mode, Try, Entry, Rec, Reply, Good, Num, Refused, MapErr, AccErr, Busy, Intr, Sent, How, Fast, Spun, Slept, Line, Tally, Hand, Held, No, Stage}
use Rattle.guarded.specs.Types.{Logged, Moment, Interrupted}

eq-le : (m n : ℕ) → m ≡ n → n ≤ m
eq-le m n e = omega arith

pub counts-trans : (v u w : Shown) → NoCountFalls v u → NoCountFalls u w → NoCountFalls v w
counts-trans v u w a b = record {
  steps = let x = a.steps in let y = b.steps in omega arith;
  misses = let x = a.misses in let y = b.misses in omega arith;
  entries = let x = a.entries in let y = b.entries in omega arith;
  fronts = let x = a.fronts in let y = b.fronts in omega arith;
  appends = let x = a.appends in let y = b.appends in omega arith;
}

pub counts-beside : (v u : Shown) → u.hand.misses ≡ v.hand.misses → AllButHand v u → NoCountFalls v u
counts-beside v u misses b = record {
  steps = b.3;
  misses = eq-le _ _ misses;
  entries = eq-le _ _ b.0;
  fronts = eq-le _ _ b.1;
  appends = eq-le _ _ (ap {A = Line} (λ l. l.appends) b.2);
}

-- the step of its last record is one of the steps that a pass made since
is-since : (v u : Shown) (step : ℕ) → u.hand.last ≡ step → v.steps < step → step ≤ u.steps → (v.steps < u.hand.last) × (u.hand.last ≤ u.steps)
is-since v u step last since by_now = (omega arith, omega arith)

-- a pass that made a record ends or downgrades its hold
pub adds-freed : (wakes : ℕ → Type 0) (rec : Rec) (seen : List Entry) (v m u : Shown) → AddsRecord rec seen v m → Frees wakes m u → AddsRecord rec u.hand.seen v u
adds-freed wakes rec seen v m u a f = record {
  task = f.keeps.task ∙ a.task;
  done = f.keeps.done ∙ a.done;
  records = f.keeps.records ∙ a.records;
  seen_is = refl;
  sent = f.keeps.sent ∙ a.sent;
  consumed = f.consumed ∙ a.consumed;
  saw = f.saw ∙ a.saw;
  misses = f.misses ∙ a.misses;
  takes = f.takes ∙ a.takes;
  fronts = f.fronts ∙ a.fronts;
  line = f.line ∙ a.line;
  swaps = f.swaps ∙ a.swaps;
  tally = f.tally ∙ a.tally;
  counts = counts-trans v m u a.counts f.keeps.counts;
  stored = let last = f.keeps.last in let steps = f.keeps.counts.steps in let s = a.stored in (omega (arith, last, s), omega (arith, last, steps, s));
}

-- a pass made a record: beside what a record changes, what it knows of the object alone may be other than before
adds : (v m : Shown) (stage : Stage) (writes : Bool) (known : List ℕ) (log : List Entry) (rec : Rec) (seen : List Entry)
    → HasSince (λ step. recorded (record v.hand { stage = stage; writes = writes; known = known; log = log }) step (next_entry v.hand) rec seen) v m → AddsRecord rec seen v m
adds v m stage writes known log rec seen has = let e = has.3.0 in let b = has.3.1 in record {
  task = ap {A = Hand} (λ h. h.task) e;
  done = ap {A = Hand} (λ h. h.done) e;
  records = ap {A = Hand} (λ h. h.records) e;
  seen_is = ap {A = Hand} (λ h. h.seen) e;
  sent = ap {A = Hand} (λ h. h.sent) e;
  consumed = ap {A = Hand} (λ h. h.consumed) e;
  saw = ap {A = Hand} (λ h. h.saw) e;
  misses = ap {A = Hand} (λ h. h.misses) e;
  takes = ap {A = Hand} (λ h. h.takes) e;
  fronts = b.1;
  line = b.2;
  swaps = b.4;
  tally = b.5;
  counts = counts-beside v m (ap {A = Hand} (λ h. h.misses) e) b;
  stored = is-since v m has.0 (ap {A = Hand} (λ h. h.last) e) has.1 has.2;
}

pub adds-read : (v m : Shown) (rec : Rec) (seen : List Entry) → HasSince (λ step. recorded v.hand step (next_entry v.hand) rec seen) v m → AddsRecord rec seen v m
adds-read v m = adds v m v.hand.stage v.hand.writes v.hand.known v.hand.log

pub adds-change : (v m : Shown) (xs : List ℕ) (reply : Reply) → HasSince (λ step. committed (record v.hand { known = xs }) step (next_entry v.hand) reply) v m
    → AddsRecord (record { k = length v.hand.log; reply = reply }) (v.hand.log ++ next_entry v.hand ∷ []) v m
adds-change v m xs reply =
    let log = v.hand.log ++ next_entry v.hand ∷ [] in
    adds v m (Logged (next_entry v.hand)) false xs log (record { k = length v.hand.log; reply = reply }) log

-- a reply of an object is recorded at the end of the log
pub noted-is : (h : Hand) (e : Entry) (reply : Reply) (step : ℕ) → IsObjectReply reply → noted h step e reply ≡ recorded h step e (record { k = length h.log; reply = reply }) h.log
noted-is h e Good step is = refl
noted-is h e (Num n) step is = refl
noted-is h e (Refused x) step is = refl
noted-is h e MapErr step is = refl
noted-is h e AccErr step is = refl
noted-is h e (Busy w) step is = absurd is
noted-is h e Intr step is = absurd is
noted-is h e Sent step is = absurd is

module _ {Call : Type 0} (o : Obj Call) (kind : Kind) (k : Plan) where
  pub may-note : (h : Hand) (e : Entry) (reply : Reply) → IsObjectReply reply → IsReading o k h e reply → MayNote o (unavailable kind) k h e reply
  may-note h e Good is r = r
  may-note h e (Num n) is r = r
  may-note h e (Refused x) is r = r
  may-note h e MapErr is r = r
  may-note h e AccErr is r = r
  may-note h e (Busy _) is r = absurd is
  may-note h e Intr is r = absurd is
  may-note h e Sent is r = absurd is

  -- a call that reads, done by a holder
  pub serves-read : (v m u : Shown) (words : CallWords) (c : Call) (reply : Reply) → o.call_of words ≡ Some c → o.reads c ≡ true → IsObjectReply reply → reply ≡ (o.meaning (state_after o k v.hand.log) c).1
      → HasSince (λ step. noted v.hand step (next_entry v.hand) reply) v m → Releases (wakes_shared kind) m u → Serves o kind k words reply v u
  serves-read v m u words c reply is reads object replies has ends =
      let marks = adds-read v m (record { k = length v.hand.log; reply = reply }) v.hand.log (has.0, has.1, has.2, (has.3.0 ∙ noted-is v.hand (next_entry v.hand) reply has.0 object, has.3.1)) in
      let seen : u.hand.seen ≡ v.hand.log = ends.0.keeps.seen ∙ marks.seen_is in
      let whole : take (length v.hand.log) u.hand.seen ≡ v.hand.log = ap (take (length v.hand.log)) seen ∙ take_all (length v.hand.log) v.hand.log (omega arith) in
      let unlogged : logs o words reply ≡ false = object-logs o words reply object ∙ (changes-is o words c is ∙ ap not reads) in record {
        rec = record { k = length v.hand.log; reply = reply };
        says = refl;
        means = λ s. inr (inl record { call = c; is = is; reads = reads; place = let l = ap length seen in omega arith; reply = replies ∙ ap (λ (z : List Entry). (o.meaning (state_after o k z) c).1) (sym whole) });
        replies = object;
        begins = whole;
        sees = ap length seen ∙ sym (ap (λ (b : Bool). seen_after b (record { k = length v.hand.log; reply = reply })) unlogged);
        adds = adds-freed (wakes_shared kind) _ _ v m u marks ends.0;
        out = ends.1;
      }

  -- a call that changes the object, done by a holder
  pub serves-change : (wakes : ℕ → Type 0) (v m u : Shown) (words : CallWords) (c : Call) (reply : Reply) (xs : List ℕ) → o.call_of words ≡ Some c → o.reads c ≡ false → IsObjectReply reply → reply ≡ (o.meaning (state_after o k v.hand.log) c).1
      → HasSince (λ step. committed (record v.hand { known = xs }) step (next_entry v.hand) reply) v m → Releases wakes m u → Serves o kind k words reply v u
  serves-change wakes v m u words c reply xs is reads object replies has ends =
      let e = next_entry v.hand in
      let marks = adds-change v m xs reply has in
      let seen : u.hand.seen ≡ v.hand.log ++ e ∷ [] = ends.0.keeps.seen ∙ marks.seen_is in
      let whole : take (length v.hand.log) u.hand.seen ≡ v.hand.log = ap (take (length v.hand.log)) seen ∙ take_at v.hand.log (e ∷ []) (length v.hand.log) refl in
      let logged : logs o words reply ≡ true = object-logs o words reply object ∙ (changes-is o words c is ∙ ap not reads) in record {
        rec = record { k = length v.hand.log; reply = reply };
        says = refl;
        means = λ s. inl record { call = c; is = is; changes = reads; place = ap (λ (z : List Entry). slice_get z (length v.hand.log)) seen ∙ get-last v.hand.log e (length v.hand.log) refl; reply = replies ∙ ap (λ (z : List Entry). (o.meaning (state_after o k z) c).1) (sym whole) };
        replies = object;
        begins = whole;
        sees = ap length seen ∙ (let l = length-append v.hand.log (e ∷ []) in l) ∙ sym (ap (λ (b : Bool). seen_after b (record { k = length v.hand.log; reply = reply })) logged);
        adds = adds-freed wakes _ _ v m u marks ends.0;
        out = ends.1;
      }

  -- what a holder that looked may note
  pub reading-note : (h g : Hand) (words : CallWords) (c : Call) (reply : Reply) → g ≡ h → IsNextCall k h words → o.call_of words ≡ Some c → o.reads c ≡ true → h.held ≢ No → o.Represents (state_after o k h.log) h.known → IsObjectReply reply → reply ≡ (o.meaning (state_after o k h.log) c).1 → MayNote o (unavailable kind) k g (next_entry g) reply
  reading-note h g words c reply same next is reads held stored object replies = subst (λ (x : Hand). MayNote o (unavailable kind) k x (next_entry x) reply) (sym same)
      (may-note h (next_entry h) reply object (record { words = words; call = c; planned = next.1; is = is; reads = reads; held = held; stored = stored; replies = replies }))

  -- its note leaves no signal unrecorded
  pub reading-unsent : (h g : Hand) (reply : Reply) → g ≡ h → IsObjectReply reply → OwesNoSignal h → Unsent g reply
  reading-unsent h g reply same object owes = subst (λ (x : Hand). Unsent x reply) (sym same) (subst OwesNoSignal (sym (settled-object h reply object)) owes)

  pub serves-looked : (v w m u : Shown) (words : CallWords) (c : Call) (reply : Reply) → o.call_of words ≡ Some c → o.reads c ≡ true → IsObjectReply reply → reply ≡ (o.meaning (state_after o k v.hand.log) c).1
      → Looks v w → HasSince (λ step. noted w.hand step (next_entry w.hand) reply) w m → Releases (wakes_shared kind) m u → Serves o kind k words reply v u
  serves-looked v w m u words c reply is reads object replies looks has ends =
      serves-read v m u words c reply is reads object replies (has.0, (let a = looks.1.3 in let b = has.1 in omega (arith, a, b)), has.2, (has.3.0 ∙ ap {B = Hand} (λ (x : Hand). noted x has.0 (next_entry x) reply) looks.0, beside-trans v w m looks.1 has.3.1)) ends

abbrev busy_word : Reply → ℕ
busy_word Good = 0
busy_word (Num n) = 0
busy_word (Refused x) = 0
busy_word MapErr = 0
busy_word AccErr = 0
busy_word (Busy w) = w
busy_word Intr = 0
busy_word Sent = 0

reply-unintr : (reply : Reply) → IsObjectReply reply → is_intr reply ≡ false
reply-unintr Good is = refl
reply-unintr (Num n) is = refl
reply-unintr (Refused x) is = refl
reply-unintr MapErr is = refl
reply-unintr AccErr is = refl
reply-unintr (Busy w) is = refl
reply-unintr Intr is = absurd is
reply-unintr Sent is = refl

object-takes : (reply : Reply) → IsObjectReply reply → takes_by reply ≡ 1
object-takes Good is = refl
object-takes (Num n) is = refl
object-takes (Refused x) is = refl
object-takes MapErr is = refl
object-takes AccErr is = refl
object-takes (Busy w) is = absurd is
object-takes Intr is = absurd is
object-takes Sent is = absurd is

abbrev is_busy : Reply → Bool
is_busy Good = false
is_busy (Num n) = false
is_busy (Refused x) = false
is_busy MapErr = false
is_busy AccErr = false
is_busy (Busy w) = true
is_busy Intr = false
is_busy Sent = false

and-false : (b : Bool) → false ≡ b && false
and-false true = refl
and-false false = refl

is-reads : (r c i : Bool) → c ≡ not r → i ≡ false → r ≡ not c && not i
is-reads true c i e f = cc
is-reads false c i e f = cc

same-entry : (h g : Hand) → g.task ≡ h.task → g.done ≡ h.done → next_entry g ≡ next_entry h
same-entry h g task done i = record { task = option_map_or (λ t. t) (task i) 0; call = done i }

-- a call that tried once, and then went on without a try
tries-after : (v m u : Shown) → TriesOnce v m → u.line ≡ m.line → u.fronts ≡ m.fronts → u.hand.misses ≡ m.hand.misses → u.tally ≡ m.tally → TriesOnce v u
tries-after v m u t line fronts misses tally = (line ∙ t.0, fronts ∙ t.1, (let l = t.2 in omega (arith, l, misses)), tally ∙ t.3)

-- what a call counted, by its lock's answer
appended : (how : How) (v u : Shown) → Got how v u → u.line.appends ≡ v.line.appends + bit (stood_in_list (Ok how))
appended Fast v u got = let same = ap (λ (l : Line). l.appends) got.3 in omega (arith, same)
appended Spun v u got = let same = ap (λ (l : Line). l.appends) got.1 in omega (arith, same)
appended Slept v u got = got

pub tallies-got : (how : How) (v u : Shown) → TalliesLock (Ok how) v u → Got how v u → TalliesCall false v u
tallies-got how v u t got = record { interrupted = t.interrupted; stood = stood_in_list (Ok how); appends = appended how v u got; queued = t.queued; surely = λ cut. absurd (false≢true cut); refused = t.refused; entered = t.entered; left = t.left }

pub tallies-cut : (kind : Kind) (reads : Bool) (at : ℕ) (why : Interrupted) (v u : Shown) → TalliesLock (Err why) v u → Interrupts kind reads at why v u → TalliesCall true v u
tallies-cut kind reads at why v u t cut = record { interrupted = t.interrupted; stood = true; appends = cut.waited; queued = t.queued; surely = λ cut. refl; refused = t.refused; entered = t.entered; left = t.left }

-- the same of a call whose answer is known to be the one or the other
pub tallies-ok : (r : Result How Interrupted) (how : How) (v u : Shown) → r ≡ Ok how → TalliesLock r v u → IfOk r (λ how. Got how v u) → TalliesCall false v u
tallies-ok r how v u is t got = tallies-got how v u (subst (λ (x : Result How Interrupted). TalliesLock x v u) is t) (subst (λ (x : Result How Interrupted). IfOk x (λ how. Got how v u)) is got)

pub tallies-err : (kind : Kind) (reads : Bool) (at : ℕ) (r : Result How Interrupted) (why : Interrupted) (v u : Shown) → r ≡ Err why → TalliesLock r v u → IfErr r (λ why. Interrupts kind reads at why v u) → Interrupts kind reads at why v u × TalliesCall true v u
tallies-err kind reads at r why v u is t cut =
    let c : Interrupts kind reads at why v u = subst (λ (x : Result How Interrupted). IfErr x (λ why. Interrupts kind reads at why v u)) is cut in
    (c, tallies-cut kind reads at why v u (subst (λ (x : Result How Interrupted). TalliesLock x v u) is t) c)

pub tallies-none : (v u : Shown) → u.tally ≡ v.tally → u.line ≡ v.line → u.fronts ≡ v.fronts → u.swaps ≡ v.swaps → TalliesCall false v u
tallies-none v u same line fronts swaps = record {
  interrupted = ap (λ (t : Tally). t.interrupted) same;
  stood = false;
  appends = let l = ap (λ (l : Line). l.appends) line in omega (arith, l);
  queued = ap (λ (t : Tally). t.queued) same;
  surely = λ cut. absurd (false≢true cut);
  refused = false;
  entered = omega (arith, fronts, swaps);
  left = ap (λ (t : Tally). t.left) same;
}

tallies-after : (cut : Bool) (v m u : Shown) → u.tally ≡ m.tally → u.line ≡ m.line → u.fronts ≡ m.fronts → u.swaps ≡ m.swaps → TalliesCall cut v m → TalliesCall cut v u
tallies-after cut v m u same line fronts swaps t = record {
  interrupted = ap (λ (t : Tally). t.interrupted) same ∙ t.interrupted;
  stood = t.stood;
  appends = ap (λ (l : Line). l.appends) line ∙ t.appends;
  queued = ap (λ (t : Tally). t.queued) same ∙ t.queued;
  surely = t.surely;
  refused = t.refused;
  entered = let e = t.entered in omega (arith, fronts, swaps, e);
  left = ap (λ (t : Tally). t.left) same ∙ t.left;
}

tallies-before : (cut : Bool) (v w u : Shown) → w.tally ≡ v.tally → w.line ≡ v.line → w.fronts ≡ v.fronts → w.swaps ≡ v.swaps → TalliesCall cut w u → TalliesCall cut v u
tallies-before cut v w u same line fronts swaps t = record {
  interrupted = t.interrupted ∙ ap (λ (x : Tally). raised cut x.interrupted) same;
  stood = t.stood;
  appends = let l = ap (λ (l : Line). l.appends) line in let a = t.appends in omega (arith, l, a);
  queued = t.queued ∙ ap (λ (x : Tally). raised t.stood x.queued) same;
  surely = t.surely;
  refused = t.refused;
  entered = let e = t.entered in omega (arith, fronts, swaps, e);
  left = t.left ∙ ap (λ (x : Tally). raised t.refused x.left) same;
}

-- what a step found, it has found also once the call has gone on
found-on : {task : Option ℕ} {step at n : ℕ} {past : List Moment} (m u : Shown) → PastGoesOn m u → FoundAtStep task step at n past m.past → FoundAtStep task step at n past u.past
found-on m u goes f = record { past = f.past; by = f.by; found = f.found; after = f.after; goes_on = λ p t. goes p (f.goes_on p t) }

-- so has what a try of it saw
sees-on : (kind : Kind) (reads : Bool) (at word : ℕ) (v m u : Shown) → u.hand.saw ≡ m.hand.saw → m.steps ≤ u.steps → PastGoesOn m u → Sees kind reads at word v m → Sees kind reads at word v u
sees-on kind reads at word v m u saw later goes s = record {
  saw = s.saw;
  is = saw ∙ s.is;
  word_is = s.word_is;
  since = s.since;
  by_now = let l = s.by_now in omega (arith, l, later);
  found = found-on m u goes s.found;
  shut = s.shut;
}

-- so has what let a call in
let-in-on : (kind : Kind) (at : ℕ) (v m u : Shown) → u.hand.misses ≡ m.hand.misses → u.hand.saw ≡ m.hand.saw → m.steps ≤ u.steps → PastGoesOn m u → IsLetIn kind at v m → IsLetIn kind at v u
let-in-on kind at v m u misses saw later goes r = record {
  once = misses ∙ r.once;
  saw = r.saw;
  is = saw ∙ r.is;
  since = r.since;
  by_now = let l = r.by_now in omega (arith, l, later);
  found = found-on m u goes r.found;
  opens = r.opens;
  holds = let h = r.holds in (h.0, h.1, h.2, h.3, λ p t. goes p (h.4 p t));
}

-- a place in line is kept where the call goes on without a try
pub place-after : (kind : Kind) (s : Bool) (at : ℕ) (v m u : Shown) → KeepsPlace kind s at v m → u.hand.misses ≡ m.hand.misses → u.fronts ≡ m.fronts → u.hand.saw ≡ m.hand.saw → m.spin.entries ≤ u.spin.entries → m.steps ≤ u.steps → PastGoesOn m u → KeepsPlace kind s at v u
place-after kind s at v m u p misses fronts saw entries later goes = record {
  queues = λ rise same. ⊎_elim (λ (l : v.spin.entries < m.spin.entries). inl (omega arith))
      (λ (r : (s ≡ true) × IsLetIn kind at v m). inr (r.0, let-in-on kind at v m u misses saw later goes r.1))
      (p.queues (omega arith) (sym fronts ∙ same));
  few = λ same. let l = p.few (sym fronts ∙ same) in omega arith;
}

pending-on : (why : Interrupted) (v m u : Shown) → m.steps ≤ u.steps → PastGoesOn m u → SawPending why v m → SawPending why v u
pending-on why v m u later goes s = record {
  sent = λ t is. let f = s.sent t is in (f.0, f.1, (let l = f.2 in omega (arith, l, later)), found-on m u goes f.3);
  taken = λ t is. let f = s.taken t is in (f.0, f.1, (let l = f.2 in omega (arith, l, later)), found-on m u goes f.3);
  pending = s.pending;
}

-- the note of a call that couldn't have the lock leaves no signal unrecorded
pub refused-unsent : (kind : Kind) (at : ℕ) (v m : Shown) (reads : Bool) (mode : Mode) (reply : Reply) → OwesNoSignal v.hand → Refuses kind at mode reads reply v m → Unsent m.hand reply
refused-unsent kind at v m reads mode Good owes why = absurd why
refused-unsent kind at v m reads mode (Num n) owes why = absurd why
refused-unsent kind at v m reads mode (Refused x) owes why = absurd why
refused-unsent kind at v m reads mode MapErr owes why = absurd why
refused-unsent kind at v m reads mode AccErr owes why = absurd why
refused-unsent kind at v m reads mode Sent owes why = absurd why
refused-unsent kind at v m reads mode (Busy w) owes why = (why.1.keeps.sent ∙ owes.0, why.1.consumed ∙ owes.1)
refused-unsent kind at v m reads mode Intr owes why = let more = why.1.1.consumed in let none = owes.1 in (why.1.1.keeps.sent ∙ owes.0, omega (arith, more, none))

module _ {Call : Type 0} (o : Obj Call) (kind : Kind) (at : ℕ) (k : Plan) where
  -- a call that held
  pub performs-served : (v m u : Shown) (words : CallWords) (c : Call) (reads : Bool) (reply : Reply) (how : Held) → IsNextCall k v.hand words → o.call_of words ≡ Some c → reads ≡ o.reads c → signal_of words ≡ None → (v.hand.sent ≡ None) × (v.hand.consumed ≡ 0)
      → Takes o k how v m → (mode_of words ≡ Try → TriesOnce v m) → (mode_of words ≢ Try → KeepsPlace kind reads at v m) → Serves o kind k words reply m u → PastGoesOn m u
      → TalliesCall false v m → Performs o kind at k reply v u
  performs-served v m u words c reads reply how next is same unsent accounted takes once line serves goes counted =
      let entry = same-entry v.hand m.hand takes.keeps.task takes.keeps.done in
      let place : serves.rec.k ≡ length m.hand.log = ap {A = Rec} (λ r. r.k) serves.says in
      let long = takes.begins.0 in
      let within : length m.hand.log ≤ length u.hand.seen = (let l = length-take (length m.hand.log) u.hand.seen in let e = ap length serves.begins in omega (arith, l, e)) in record {
        words = words;
        rec = serves.rec;
        next = next;
        says = ap {A = Rec} (λ r. r.reply) serves.says;
        means = subst (λ e. IsRecord o (unavailable kind) k u.hand.seen (length v.hand.seen) e words serves.rec) entry (serves.means (length v.hand.seen));
        after = omega arith;
        sees = serves.sees;
        begins = (omega arith, sym (take-take (length v.hand.seen) (length m.hand.log) u.hand.seen long) ∙ (ap (take (length v.hand.seen)) serves.begins ∙ takes.begins.1));
        records = serves.adds.records ∙ (λ i. record { entry = entry i; rec = serves.rec } ∷ takes.keeps.records i);
        task = serves.adds.task ∙ takes.keeps.task;
        done = serves.adds.done ∙ ap (λ n. n + 1) takes.keeps.done;
        out = serves.out;
        takes = let one = object-takes reply serves.replies in let a = takes.takes in let b = serves.adds.takes in omega (arith, one, a, b);
        accounted = (serves.adds.sent ∙ (takes.keeps.sent ∙ accounted.0), serves.adds.consumed ∙ (takes.consumed ∙ accounted.1));
        counts = counts-trans v m u takes.keeps.counts serves.adds.counts;
        stored = let a = takes.keeps.counts.steps in let s = serves.adds.stored in (omega (arith, a, s), s.1);
        signals = λ some. absurd (false≢true (subst IsSome unsent some));
        busy = λ word e. absurd (subst IsObjectReply e serves.replies);
        interrupted = λ e. absurd (subst IsObjectReply e serves.replies);
        counted = subst (λ (b : Bool). TalliesCall b v u) (sym (reply-unintr reply serves.replies)) (tallies-after false v m u serves.adds.tally serves.adds.line serves.adds.fronts serves.adds.swaps counted);
        at_once = λ tries. tries-after v m u (once tries) serves.adds.line serves.adds.fronts serves.adds.misses serves.adds.tally;
        line = λ waits. place-after kind _ at v m u (subst (λ b. KeepsPlace kind b at v m) (is-reads reads (changes o words) (is_intr reply) (changes-is o words c is ∙ ap not (sym same)) (reply-unintr reply serves.replies)) (line waits))
            serves.adds.misses serves.adds.fronts serves.adds.saw serves.adds.counts.entries serves.adds.counts.steps goes;
      }

  -- a call that never held
  pub performs-unheld : (v u : Shown) (words : CallWords) (reply : Reply) → IsNextCall k v.hand words → IsUnheldReply o (unavailable kind) words reply → logs o words reply ≡ false → u.hand.seen ≡ v.hand.seen
      → u.hand.records ≡ record { entry = next_entry v.hand; rec = record { k = length v.hand.seen; reply = reply } } ∷ v.hand.records → u.hand.task ≡ v.hand.task → u.hand.done ≡ v.hand.done + 1 → u.hand.held ≡ No → u.hand.takes ≡ v.hand.takes + takes_by reply → (u.hand.sent ≡ None) × (u.hand.consumed ≡ 0) → NoCountFalls v u → (v.steps < u.hand.last) × (u.hand.last ≤ u.steps)
      → (IsSome (signal_of words) → (reply ≡ Sent) × (u.tally ≡ v.tally)) → ((word : ℕ) → reply ≡ Busy word → (c : Call) × (o.call_of words ≡ Some c) × Sees kind (o.reads c) at word v u)
      → (reply ≡ Intr → (c : Call) × (why : Interrupted) × (word : ℕ) × (o.call_of words ≡ Some c) × SawPending why v u × Sees kind (o.reads c) at word v u)
      → TalliesCall (is_intr reply) v u
      → (mode_of words ≡ Try → TriesOnce v u) → (mode_of words ≢ Try → KeepsPlace kind (not (changes o words) && not (is_intr reply)) at v u) → Performs o kind at k reply v u
  performs-unheld v u words reply next why unlogged seen records task done out takes accounted goes stored signals busy interrupted counted once line = record {
    words = words;
    rec = record { k = length v.hand.seen; reply = reply };
    next = next;
    says = refl;
    means = inr (inr record { reply = why; place = refl; within = let l = ap length seen in omega arith });
    after = omega arith;
    sees = ap length seen ∙ sym (ap (λ (b : Bool). seen_after b (record { k = length v.hand.seen; reply = reply })) unlogged);
    begins = (let l = ap length seen in omega arith, ap (take (length v.hand.seen)) seen ∙ take_all (length v.hand.seen) v.hand.seen (omega arith));
    records = records;
    task = task;
    done = done;
    out = out;
    takes = takes;
    accounted = accounted;
    counts = goes;
    stored = stored;
    signals = signals;
    busy = busy;
    interrupted = interrupted;
    counted = counted;
    at_once = once;
    line = line;
  }

  pub performs-sent : (v w u : Shown) (words : CallWords) (target : ℕ) → IsNextCall k v.hand words → signal_of words ≡ Some target → v.hand.held ≡ No → v.hand.consumed ≡ 0
      → w.hand ≡ record v.hand { sent = Some target } → AllButHand v w → HasSince (λ step. noted w.hand step (next_entry w.hand) Sent) w u → Performs o kind at k Sent v u
  performs-sent v w u words target next is out consumed sent beside has =
      let step = has.0 in
      let now : u.hand ≡ noted (record v.hand { sent = Some target }) step (next_entry v.hand) Sent = has.3.0 ∙ ap {B = Hand} (λ (x : Hand). noted x step (next_entry x) Sent) sent in
      let along = beside-trans v w u beside has.3.1 in
      let misses = ap {A = Hand} (λ h. h.misses) now in let takes = ap {A = Hand} (λ h. h.takes) now in
      performs-unheld v u words Sent next (subst IsSome (sym is) refl) refl (ap {A = Hand} (λ h. h.seen) now) (ap {A = Hand} (λ h. h.records) now) (ap {A = Hand} (λ h. h.task) now) (ap {A = Hand} (λ h. h.done) now) (ap {A = Hand} (λ h. h.held) now ∙ out) (omega (arith, takes))
      (ap {A = Hand} (λ h. h.sent) now, ap {A = Hand} (λ h. h.consumed) now ∙ consumed) (counts-beside v u misses along) (is-since v u step (ap {A = Hand} (λ h. h.last) now) (let a = beside.3 in let b = has.1 in omega (arith, a, b)) has.2) (λ _. (refl, along.5)) (λ word e. absurd (false≢true (subst (λ r. is_sent r ≡ true) e refl))) (λ e. absurd (false≢true (subst (λ r. is_sent r ≡ true) e refl)))
      (tallies-none v u along.5 along.2 along.1 along.4)
      (λ _. (along.2, along.1, omega (arith, misses), along.5))
      (λ _. record { queues = λ rise. absurd (omega arith); few = λ _. omega arith })

  -- what a call may note that couldn't have the lock
  pub refused-note : (v m : Shown) (words : CallWords) (c : Call) (reads : Bool) (mode : Mode) (reply : Reply) → IsNextCall k v.hand words → o.call_of words ≡ Some c → reads ≡ o.reads c → mode ≡ mode_of words → v.hand.consumed ≡ 0 → v.hand.last ≤ v.steps
      → Refuses kind at mode reads reply v m → MayNote o (unavailable kind) k m.hand (next_entry m.hand) reply
  refused-note v m words c reads mode Good next is same says none latest why = absurd why
  refused-note v m words c reads mode (Num n) next is same says none latest why = absurd why
  refused-note v m words c reads mode (Refused x) next is same says none latest why = absurd why
  refused-note v m words c reads mode MapErr next is same says none latest why = absurd why
  refused-note v m words c reads mode AccErr next is same says none latest why = absurd why
  refused-note v m words c reads mode Sent next is same says none latest why = absurd why
  refused-note v m words c reads mode (Busy w) next is same says none latest why = let miss = why.1 in let sees = miss.sees in let keeps = miss.keeps in record {
    words = words;
    call = c;
    planned = subst (λ (e : Entry). slice_get (row k e.task) e.call ≡ Some words) (sym (same-entry v.hand m.hand keeps.task keeps.done)) next.1;
    is = is;
    tries = sym says ∙ why.0;
    free = miss.out;
    saw = sees.saw;
    seen = sees.is;
    word_is = sees.word_is;
    since = let last = keeps.last in let later = sees.since in omega (arith, last, later, latest);
    shut = subst (λ (b : Bool). (unavailable kind) b w) same sees.shut;
  }
  refused-note v m words c reads mode Intr next is same says none latest why = let cut = why.1.1 in let sees = cut.sees in let keeps = cut.keeps in record {
    words = words;
    call = c;
    planned = subst (λ (e : Entry). slice_get (row k e.task) e.call ≡ Some words) (sym (same-entry v.hand m.hand keeps.task keeps.done)) next.1;
    is = is;
    waits = sym says ∙ why.0;
    free = cut.out;
    consumed = let more = cut.consumed in omega (arith, more, none);
    saw = sees.saw;
    seen = sees.is;
    since = let last = keeps.last in let later = sees.since in omega (arith, last, later, latest);
    shut = subst (λ (n : ℕ). (unavailable kind) (o.reads c) n) (sym sees.word_is) (subst (λ (b : Bool). (unavailable kind) b cut.word) same sees.shut);
  }

  -- a call that couldn't have the lock
  pub performs-refused : (v m u : Shown) (words : CallWords) (c : Call) (reads : Bool) (mode : Mode) (reply : Reply) → IsNextCall k v.hand words → o.call_of words ≡ Some c → reads ≡ o.reads c → mode ≡ mode_of words → signal_of words ≡ None → (v.hand.sent ≡ None) × (v.hand.consumed ≡ 0)
      → Refuses kind at mode reads reply v m → (mode ≡ Try → TriesOnce v m) → (mode ≢ Try → KeepsPlace kind false at v m) → HasSince (λ step. noted m.hand step (next_entry m.hand) reply) m u → PastGoesOn m u → Performs o kind at k reply v u
  performs-refused v m u words c reads mode Good next is same says unsent accounted why once line has goes = absurd why
  performs-refused v m u words c reads mode (Num n) next is same says unsent accounted why once line has goes = absurd why
  performs-refused v m u words c reads mode (Refused x) next is same says unsent accounted why once line has goes = absurd why
  performs-refused v m u words c reads mode MapErr next is same says unsent accounted why once line has goes = absurd why
  performs-refused v m u words c reads mode AccErr next is same says unsent accounted why once line has goes = absurd why
  performs-refused v m u words c reads mode Sent next is same says unsent accounted why once line has goes = absurd why
  performs-refused v m u words c reads mode (Busy w) next is same says unsent accounted why once line has goes =
      let keeps = why.1.keeps in let hand = has.3.0 in let beside = has.3.1 in
      let entry = same-entry v.hand m.hand keeps.task keeps.done in
      let sees = why.1.sees in
      let misses = ap {A = Hand} (λ h. h.misses) hand in let takes = ap {A = Hand} (λ h. h.takes) hand in
      performs-unheld v u words (Busy w) next (sym says ∙ why.0, (c, is, subst (λ b. (unavailable kind) b w) same sees.shut)) refl (ap {A = Hand} (λ h. h.seen) hand ∙ keeps.seen)
      (ap {A = Hand} (λ h. h.records) hand ∙ (λ i. record { entry = entry i; rec = record { k = length (keeps.seen i); reply = Busy w } } ∷ keeps.records i))
      (ap {A = Hand} (λ h. h.task) hand ∙ keeps.task) (ap {A = Hand} (λ h. h.done) hand ∙ ap (λ n. n + 1) keeps.done) (ap {A = Hand} (λ h. h.held) hand ∙ why.1.out) (let none = why.1.takes in omega (arith, takes, none))
      (ap {A = Hand} (λ h. h.sent) hand ∙ (keeps.sent ∙ accounted.0), ap {A = Hand} (λ h. h.consumed) hand ∙ (why.1.consumed ∙ accounted.1))
      (counts-trans v m u keeps.counts (counts-beside m u misses beside)) (is-since v u has.0 (ap {A = Hand} (λ h. h.last) hand) (let a = keeps.counts.steps in let b = has.1 in omega (arith, a, b)) has.2) (λ some. absurd (false≢true (subst IsSome unsent some)))
      (λ word e. (c, is, subst (λ b. Sees kind b at word v u) same (subst (λ n. Sees kind reads at n v u) (ap busy_word e) (sees-on kind reads at w v m u (ap {A = Hand} (λ h. h.saw) hand) beside.3 goes sees))))
      (λ e. absurd (false≢true (subst (λ r. is_busy r ≡ true) e refl)))
      (tallies-none v u (beside.5 ∙ why.1.tally) (beside.2 ∙ why.1.line) (beside.1 ∙ why.1.fronts) (beside.4 ∙ why.1.swaps))
      (λ tries. tries-after v m u (once (says ∙ tries)) beside.2 beside.1 misses beside.5)
      (λ waits. absurd (waits (sym says ∙ why.0)))
  performs-refused v m u words c reads mode Intr next is same says unsent accounted why once line has goes =
      let cut = why.1.1 in
      let keeps = cut.keeps in let hand = has.3.0 in let beside = has.3.1 in
      let entry = same-entry v.hand m.hand keeps.task keeps.done in
      let misses = ap {A = Hand} (λ h. h.misses) hand in let takes = ap {A = Hand} (λ h. h.takes) hand in
      performs-unheld v u words Intr next (sym says ∙ why.0, subst IsSome (sym is) refl) refl (ap {A = Hand} (λ h. h.seen) hand ∙ keeps.seen)
      (ap {A = Hand} (λ h. h.records) hand ∙ (λ i. record { entry = entry i; rec = record { k = length (keeps.seen i); reply = Intr } } ∷ keeps.records i))
      (ap {A = Hand} (λ h. h.task) hand ∙ keeps.task) (ap {A = Hand} (λ h. h.done) hand ∙ ap (λ n. n + 1) keeps.done) (ap {A = Hand} (λ h. h.held) hand ∙ cut.out) (let none = cut.takes in omega (arith, takes, none))
      (ap {A = Hand} (λ h. h.sent) hand ∙ (keeps.sent ∙ accounted.0), ap {A = Hand} (λ h. h.consumed) hand ∙ (let more = cut.consumed in let none = accounted.1 in omega (arith, more, none)))
      (counts-trans v m u keeps.counts (counts-beside m u misses beside)) (is-since v u has.0 (ap {A = Hand} (λ h. h.last) hand) (let a = keeps.counts.steps in let b = has.1 in omega (arith, a, b)) has.2) (λ some. absurd (false≢true (subst IsSome unsent some)))
      (λ word e. absurd (false≢true (subst (λ r. is_intr r ≡ true) e refl)))
      (λ e. (c, why.1.0, cut.word, is, pending-on why.1.0 v m u beside.3 goes cut.heard, subst (λ b. Sees kind b at cut.word v u) same (sees-on kind reads at cut.word v m u (ap {A = Hand} (λ h. h.saw) hand) beside.3 goes cut.sees)))
      (tallies-after true v m u beside.5 beside.2 beside.1 beside.4 why.2)
      (λ tries. tries-after v m u (once (says ∙ tries)) beside.2 beside.1 misses beside.5)
      (λ waits. subst (λ b. KeepsPlace kind b at v u) (and-false (not (changes o words)))
      (place-after kind false at v m u (line (λ tries. waits (sym says ∙ tries))) misses beside.1 (ap {A = Hand} (λ h. h.saw) hand) (eq-le _ _ beside.0) beside.3 goes))

-- what a call did after a look, it did from before the look on
module _ (v w u : Shown) (looks : Looks v w) (goes : PastGoesOn v w) where
  found-from : {step at n : ℕ} → FoundAtStep w.hand.task step at n w.past u.past → FoundAtStep v.hand.task step at n v.past u.past
  found-from {step} {at} {n} f = subst (λ (h : Hand). FoundAtStep h.task step at n v.past u.past) looks.0 (record { past = f.past; by = f.by; found = f.found; after = λ p t. f.after p (goes p t); goes_on = f.goes_on })

  sees-from : (kind : Kind) (reads : Bool) (at word : ℕ) → Sees kind reads at word w u → Sees kind reads at word v u
  sees-from kind reads at word s = record {
    saw = s.saw;
    is = s.is;
    word_is = s.word_is;
    since = let l = s.since in let m = looks.1.3 in omega (arith, l, m);
    by_now = s.by_now;
    found = found-from s.found;
    shut = s.shut;
  }

  pending-from : (why : Interrupted) → SawPending why w u → SawPending why v u
  pending-from why s = let m = looks.1.3 in record {
    sent = λ t is. let f = s.sent t (ap {A = Hand} (λ h. h.task) looks.0 ∙ is) in (f.0, (let l = f.1 in omega (arith, l, m)), f.2, found-from f.3);
    taken = λ t is. let f = s.taken t (ap {A = Hand} (λ h. h.task) looks.0 ∙ is) in (f.0, (let l = f.1 in omega (arith, l, m)), f.2, found-from f.3);
    pending = s.pending;
  }

  let-in-from : (kind : Kind) (at : ℕ) → IsLetIn kind at w u → IsLetIn kind at v u
  let-in-from kind at r = record {
    once = let o = r.once in let misses : w.hand.misses ≡ v.hand.misses = ap {A = Hand} (λ h. h.misses) looks.0 in omega (arith, o, misses);
    saw = r.saw;
    is = r.is;
    since = let n = r.since in let l = looks.1.3 in omega (arith, n, l);
    by_now = r.by_now;
    found = found-from r.found;
    opens = r.opens;
    holds = let f = r.holds in subst (λ (h : Hand). LeavesHold (r.saw.step + 1) (shares kind) (record v { hand = h }) u) looks.0 (f.0, f.1, f.2, (λ p t. f.3 p (goes p t)), f.4);
  }

  place-from : (kind : Kind) (s : Bool) (at : ℕ) → KeepsPlace kind s at w u → KeepsPlace kind s at v u
  place-from kind s at p =
      let misses : w.hand.misses ≡ v.hand.misses = ap {A = Hand} (λ h. h.misses) looks.0 in
      let entries : w.spin.entries ≡ v.spin.entries = looks.1.0 in record {
        queues = λ rise same. ⊎_elim (λ (l : w.spin.entries < u.spin.entries). inl (omega (arith, l, entries)))
            (λ (r : (s ≡ true) × IsLetIn kind at w u). inr (r.0, let-in-from kind at r.1))
            (p.queues (omega (arith, rise, misses)) (same ∙ sym looks.1.1));
        few = λ same. let l = p.few (same ∙ sym looks.1.1) in omega (arith, l, misses);
      }

  pub performs-looked : {Call : Type 0} (o : Obj Call) (kind : Kind) (at : ℕ) (k : Plan) (reply : Reply) → Performs o kind at k reply w u → Performs o kind at k reply v u
  performs-looked o kind at k reply p = let e = looks.0 in record {
    words = p.words;
    rec = p.rec;
    next = subst (λ (h : Hand). IsNextCall k h p.words) e p.next;
    says = p.says;
    means = subst (λ (h : Hand). IsRecord o (unavailable kind) k u.hand.seen (length h.seen) (next_entry h) p.words p.rec) e p.means;
    after = subst (λ (h : Hand). length h.seen ≤ p.rec.k) e p.after;
    sees = p.sees;
    begins = subst (λ (h : Hand). Begins h u.hand.seen) e p.begins;
    records = subst (λ (h : Hand). u.hand.records ≡ record { entry = next_entry h; rec = p.rec } ∷ h.records) e p.records;
    task = subst (λ (h : Hand). u.hand.task ≡ h.task) e p.task;
    done = subst (λ (h : Hand). u.hand.done ≡ h.done + 1) e p.done;
    out = p.out;
    takes = let a = p.takes in let b = ap {A = Hand} (λ h. h.takes) e in omega (arith, a, b);
    accounted = p.accounted;
    counts = counts-trans v w u (counts-beside v w (ap {A = Hand} (λ h. h.misses) e) looks.1) p.counts;
    stored = let m = looks.1.3 in let s = p.stored in (omega (arith, m, s), s.1);
    signals = λ some. let t = p.signals some in (t.0, t.1 ∙ looks.1.5);
    busy = λ word is. let b = p.busy word is in (b.0, b.1, sees-from kind (o.reads b.0) at word b.2);
    interrupted = λ is. let b = p.interrupted is in (b.0, b.1, b.2, b.3, pending-from b.1 b.4, sees-from kind (o.reads b.0) at b.2 b.5);
    counted = tallies-before (is_intr reply) v w u looks.1.5 looks.1.2 looks.1.1 looks.1.4 p.counted;
    at_once = λ tries. let t = p.at_once tries in (t.0 ∙ looks.1.2, t.1 ∙ looks.1.1, (let l = t.2 in let m = ap {A = Hand} (λ h. h.misses) e in omega (arith, l, m)), t.3 ∙ looks.1.5);
    line = λ waits. place-from kind _ at (p.line waits);
  }
