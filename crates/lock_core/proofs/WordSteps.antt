-- The steps on the words of the object keep the site's facts.
use Rattle.std.proofs.Common.{Option, ◌≡◌, ◌≢◌, ℕ, zero, suc, ◌+◌, ◌-◌, ◌<◌, ◌≤◌, ◌⊎◌, true, false, List, [], ◌∷◌, ◌++◌, length, take, get_or, set, slice_get, Some, sym, refl, ap, ◌∙◌, subst, arith, ⊎_elim, length-set, length-append, get_or-set_same, None}
use Rattle.std.proofs.lemmas.List.{take-set-le, take_more, take-append-le}
use Rattle.std.proofs.Math.Seq.{take-set-lt}
use mathlib.Core.Option.{some}
use mathlib.Core.List.{map-append}
use mathlib.Core.Logic.{dite}
use native.Mathlib.Decide.{ℕ_discrete}
use lib.ListN.{get_elem?}
use Rattle.word_bits.specs.EntryWord.{entry_word}
use Rattle.word_bits.specs.RecWord.{IsRec, rec_word}
use Rattle.word_bits.specs.LockWords.{Unavailable}
use Rattle.word_bits.specs.Objects.{Obj}
use Rattle.word_bits.specs.Histories.{Plan, Records, state_after, logs}
use Rattle.word_bits.specs.Legal.{IsRecord, seen_after, is_intr}
use Rattle.lock_core.specs.Plans.{appended, calls_in, start}
use Rattle.lock_core.specs.Layout.{SiteWords}
use Rattle.lock_core.specs.Records.{row, sends, intrs, seen_by, AreNext, IsLoggedAt}
use Rattle.lock_core.specs.Views.{wrote, quieted, entered, logged, recorded, is_number, consumed_weight, held_weight, alone_weight, owed_weight, held_of, alone_of, writes_of, owed_of, named_of, sent_of, consumed_of}
use Rattle.lock_core.specs.Sites.{HeardOk, HandOk, SiteKept, Balances}
use Rattle.lock_core.specs.Totals.{total, total-set, total-same, total-at, total-two}
use Rattle.lock_core.specs.Types.{CallWords, Entry, Rec, Hand, Told, Held, No, Alone, Stage, Rest, Entered, Logged}
use Rattle.lock_core.specs.ViewParts.{Each, each-set}
use Rattle.lock_core.proofs.RowLaws.{none-some, same-some, some-inside, get-longer, get-last, get-either, row-appended, row-beside, length-appended, calls_in-appended, rec_words-appended}
use Rattle.lock_core.proofs.HandLaws.{no-alone, rest-logged, rest-entered, alone-is-held, held-none, not-both, is_number-here, tally-same, one-stays, sum-stays}
use Rattle.lock_core.proofs.RecordLaws.{grows-next, next-snoc, seen_by-snoc, state-snoc, intrs-snoc}

entered-logged : (e x : Entry) {P : Type 0} → Entered e ≡ Logged x → P
entered-logged e x eq = let w : owed_weight (Entered e) ≡ owed_weight (Logged x) = ap owed_weight eq in absurd (omega (arith, w))

logged-entered : (e x : Entry) {P : Type 0} → Logged e ≡ Entered x → P
logged-entered e x eq = let w : owed_weight (Logged e) ≡ owed_weight (Entered x) = ap owed_weight eq in absurd (omega (arith, w))

same-entered : (e x : Entry) → Entered e ≡ Entered x → e ≡ x
same-entered e x eq = cc

same-logged : (e x : Entry) → Logged e ≡ Logged x → e ≡ x
same-logged e x eq = cc

owed-most : (s : Stage) → owed_weight s ≤ 1
owed-most Rest = omega arith
owed-most (Entered e) = omega arith
owed-most (Logged e) = omega arith

pub intrs-appended : (u t : ℕ) (told : Records) (x : Rec) → is_intr x.reply ≡ false → intrs (row (appended told t x) u) ≡ intrs (row told u)
intrs-appended u t [] x e = refl
intrs-appended zero zero (rs ∷ rss) x e = intrs-snoc rs x e
intrs-appended (suc u) zero (rs ∷ rss) x e = refl
intrs-appended zero (suc t) (rs ∷ rss) x e = refl
intrs-appended (suc u) (suc t) (rs ∷ rss) x e = intrs-appended u t rss x e

knows-cons : (told : Records) (e : Entry) (x : Rec) (ks : List Told) → slice_get (row told e.task) e.call ≡ Some x → ((i : ℕ) (y : Told) → slice_get ks i ≡ Some y → slice_get (row told y.entry.task) y.entry.call ≡ Some y.rec)
    → (i : ℕ) (y : Told) → slice_get (record { entry = e; rec = x } ∷ ks) i ≡ Some y → slice_get (row told y.entry.task) y.entry.call ≡ Some y.rec
knows-cons told e x ks new old zero y eq = let is : record { entry = e; rec = x } ≡ y = same-some (record { entry = e; rec = x }) y eq in subst (λ (z : Told). slice_get (row told z.entry.task) z.entry.call ≡ Some z.rec) is new
knows-cons told e x ks new old (suc i) y eq = old i y eq

-- a part of a sum that isn't 0 is some view's
pub some-of : (f : Hand → ℕ) (hs : List Hand) → 0 < total f hs → (j : ℕ) × (h : Hand) × (get_elem? hs j ≡ some h) × (0 < f h)
some-of f [] l = absurd (omega arith)
some-of f (h ∷ hs) l = elim (native.Mathlib.Decide.dec_le (f h) 0) [
  | yes none ↦ let r = some-of f hs (omega (arith, l, none)) in (suc r.0, r.1, r.2, r.3)
  | no has ↦ (zero, h, refl, omega (arith, has))
]

module _ {Call : Type 0} (o : Obj Call) (unavailable : Unavailable) (size : ℕ) (k : Plan) where
  abbrev Kept : SiteWords → List Hand → Type 0
  Kept = SiteKept o unavailable size k

  abbrev Ok : List ℕ → ℕ → List Entry → Records → Hand → Type 0
  Ok = HandOk o unavailable size k

  -- beside one that holds alone all others hold nothing
  pub others-free : (hs : List Hand) (id j : ℕ) (h g : Hand) → (0 < total alone_of hs → total held_of hs ≤ 1) → get_elem? hs id ≡ some h → h.held ≡ Alone → j ≢ id → get_elem? hs j ≡ some g → g.held ≡ No
  others-free hs id j h g apart at alone other at' = let a : alone_of h ≡ 1 = ap alone_weight alone in let b : held_of h ≡ 1 = ap held_weight alone in let c = total-at alone_of hs id h at in let d = apart (omega arith) in
      let e = total-two held_of hs id j h g at at' (λ z. other (sym z)) in held-none g.held (omega arith)

  -- while one that holds alone owes nothing, none does
  pub none-owed : (w : SiteWords) (hs : List Hand) (id : ℕ) (h : Hand) → Kept w hs → get_elem? hs id ≡ some h → h.held ≡ Alone → owed_of h ≡ 0 → total owed_of hs ≡ 0
  none-owed w hs id h r at alone quits = elim (native.Mathlib.Decide.dec_le (total owed_of hs) 0) [
    | yes none ↦ omega (arith, none)
    | no has ↦ let s = some-of owed_of hs (omega (arith, has)) in let own = s.3 in dite (ℕ_discrete s.0 id)
        (λ is. let e : s.1 ≡ h = mathlib.Core.Option.some-injective s.1 h (sym s.2 ∙ (ap (get_elem? hs) is ∙ at)) in let f : owed_of s.1 ≡ owed_of h = ap owed_of e in absurd (omega (arith, f, own, quits)))
        (λ other. owes s.1.stage own (λ e is. no-alone (sym (others-free hs id s.0 h s.1 r.balances.apart at alone other s.2) ∙ ((r.each s.0 s.1 s.2).logged e is).0)))
  ]
    where
      owes : (s : Stage) {P : Type 0} → 0 < owed_weight s → ((e : Entry) → s ≡ Logged e → P) → P
      owes Rest l f = absurd (omega (arith, l))
      owes (Entered e) l f = absurd (omega (arith, l))
      owes (Logged e) l f = f e refl

  -- of a pass that holds nothing the same stays true while words, log and records of others change
  free-ok : (guarded guarded' : List ℕ) (next next' : ℕ) (log m : List Entry) (told : Records) (g : Hand) → g.held ≡ No → Ok guarded next log told g → Ok guarded' next' (log ++ m) told g
  free-ok guarded guarded' next next' log m told g free ok = let s = ok.seen.0 in record {
    plan = ok.plan;
    known = λ n. absurd (n free);
    writer = ok.writer;
    seen = (omega (arith, s, length-append log m), take-append-le (length g.seen) log m s ∙ ok.seen.1);
    entered = λ e is. no-alone (sym free ∙ (ok.entered e is).0);
    logged = λ e is. no-alone (sym free ∙ (ok.logged e is).0);
    mine = ok.mine;
    nameless = ok.nameless;
    knows = ok.knows;
    saw = ok.saw;
    signals = ok.signals;
  }

  -- the same with the log as it was
  free-same : (guarded guarded' : List ℕ) (next next' : ℕ) (log : List Entry) (told : Records) (g : Hand) → g.held ≡ No → Ok guarded next log told g → Ok guarded' next' log told g
  free-same guarded guarded' next next' log told g free ok = record {
    plan = ok.plan;
    known = λ n. absurd (n free);
    writer = ok.writer;
    seen = ok.seen;
    entered = λ e is. no-alone (sym free ∙ (ok.entered e is).0);
    logged = λ e is. no-alone (sym free ∙ (ok.logged e is).0);
    mine = ok.mine;
    nameless = ok.nameless;
    knows = ok.knows;
    saw = ok.saw;
    signals = ok.signals;
  }

  pub site-writes : (w : SiteWords) (hs : List Hand) (id i n : ℕ) (h : Hand) → Kept w hs → get_elem? hs id ≡ some h → h.held ≡ Alone → i < size → Kept (record w { guarded = set w.guarded i n }) (set hs id (wrote h i n))
  site-writes w hs id i n h r at alone inside = let a = r.each id h at in let b = r.balances in let g : Hand = wrote h i n in let not_no = alone-is-held h.held alone in let guarded = r.laid.guarded in
      let P : Hand → Type 0 = Ok w.guarded (get_or w.entries w.len 0) r.log r.told in let Q : Hand → Type 0 = Ok (set w.guarded i n) (get_or w.entries w.len 0) r.log r.told in
      let held = total-same held_of hs id h g at refl in let al = total-same alone_of hs id h g at refl in let owed = total-same owed_of hs id h g at refl in record {
        log = r.log;
        told = r.told;
        laid = record { wide = r.laid.wide; calls = r.laid.calls; planned = r.laid.planned; small = r.laid.small; guarded = length-set w.guarded i n ∙ guarded; lines = r.laid.lines; room = r.laid.room };
        tells = r.tells;
        balances = record {
          apart = λ l. let c = b.apart (omega arith) in omega arith;
          quiet = λ q. let t = total-set writes_of hs id h g at in let u = total-at writes_of hs id h at in absurd (omega arith);
          recorded = λ j e there l. b.recorded j e there (omega arith);
          few = let f = b.few in omega arith;
          named = λ u l. one-stays (named_of u) hs id h g _ at refl (b.named u l);
          sent = λ u l. sum-stays (sent_of u) hs id h g _ _ at refl (b.sent u l);
          consumed = λ u l. sum-stays (consumed_of u) hs id h g _ _ at refl (b.consumed u l);
          pending = b.pending;
        };
        heard = each-set (HeardOk w.lines) (HeardOk w.lines) hs id g (r.heard id h at) (λ j v _ _ p. p) r.heard;
        each = each-set P Q hs id g record {
          plan = a.plan;
          known = λ _. let t = a.known not_no in (ap (λ (z : List ℕ). set z i n) t.0 ∙ sym (take-set-lt size w.guarded i n inside), t.1);
          writer = λ _. alone;
          seen = a.seen;
          entered = a.entered;
          logged = a.logged;
          mine = a.mine;
          nameless = a.nameless;
          knows = a.knows;
          saw = a.saw;
          signals = a.signals;
        } (λ j v other at' ok. free-same w.guarded (set w.guarded i n) (get_or w.entries w.len 0) (get_or w.entries w.len 0) r.log r.told v (others-free hs id j h v b.apart at alone other at') ok) r.each;
      }

  -- a pass that holds alone ends its writing: the guarded words represent the state after the log
  pub site-quiets : (w : SiteWords) (hs : List Hand) (id : ℕ) (h : Hand) → Kept w hs → get_elem? hs id ≡ some h → h.held ≡ Alone → o.Represents (state_after o k h.log) h.known → Kept w (set hs id (quieted h))
  site-quiets w hs id h r at alone stands = let a = r.each id h at in let b = r.balances in let g : Hand = quieted h in let t = a.known (alone-is-held h.held alone) in let P : Hand → Type 0 = Ok w.guarded (get_or w.entries w.len 0) r.log r.told in
      let held = total-same held_of hs id h g at refl in let al = total-same alone_of hs id h g at refl in let owed = total-same owed_of hs id h g at refl in record {
        log = r.log;
        told = r.told;
        laid = r.laid;
        tells = r.tells;
        balances = record {
          apart = λ l. let c = b.apart (omega arith) in omega arith;
          quiet = λ _. subst (λ (z : List Entry). o.Represents (state_after o k z) (take size w.guarded)) t.1 (subst (λ (z : List ℕ). o.Represents (state_after o k h.log) z) t.0 stands);
          recorded = λ j e there l. b.recorded j e there (omega arith);
          few = let f = b.few in omega arith;
          named = λ u l. one-stays (named_of u) hs id h g _ at refl (b.named u l);
          sent = λ u l. sum-stays (sent_of u) hs id h g _ _ at refl (b.sent u l);
          consumed = λ u l. sum-stays (consumed_of u) hs id h g _ _ at refl (b.consumed u l);
          pending = b.pending;
        };
        heard = each-set (HeardOk w.lines) (HeardOk w.lines) hs id g (r.heard id h at) (λ j v _ _ p. p) r.heard;
        each = each-set P P hs id g record {
          plan = a.plan;
          known = a.known;
          writer = λ yes_it. not-both false refl yes_it;
          seen = a.seen;
          entered = a.entered;
          logged = a.logged;
          mine = a.mine;
          nameless = a.nameless;
          knows = a.knows;
          saw = a.saw;
          signals = a.signals;
        } (λ j v _ _ ok. ok) r.each;
      }

  -- the next entry is stored behind the log
  pub site-enters : (w : SiteWords) (hs : List Hand) (id : ℕ) (e : Entry) (h : Hand) → Kept w hs → get_elem? hs id ≡ some h → h.held ≡ Alone → h.stage ≡ Rest → w.len < calls_in k
      → Kept (record w { entries = set w.entries w.len (entry_word e) }) (set hs id (entered h e))
  site-enters w hs id e h r at alone rest room = let a = r.each id h at in let b = r.balances in let g : Hand = entered h e in let x : ℕ = entry_word e in let wide = r.laid.room in let many = r.tells.many in
      let was : owed_of h ≡ 0 = ap owed_weight rest in let here : get_or (set w.entries w.len x) w.len 0 ≡ x = get_or-set_same w.entries w.len x 0 (omega arith) in
      let P : Hand → Type 0 = Ok w.guarded (get_or w.entries w.len 0) r.log r.told in let Q : Hand → Type 0 = Ok w.guarded (get_or (set w.entries w.len x) w.len 0) r.log r.told in record {
        log = r.log;
        told = r.told;
        laid = record { wide = r.laid.wide; calls = r.laid.calls; planned = r.laid.planned; small = r.laid.small; guarded = r.laid.guarded; lines = r.laid.lines; room = length-set w.entries w.len x ∙ wide };
        tells = record { tasks = r.tells.tasks; many = r.tells.many; within = r.tells.within; entered = take-set-le (length r.log) w.entries w.len x (omega (arith, many)) ∙ r.tells.entered; filled = r.tells.filled; legal = r.tells.legal };
        balances = subst (Balances o unavailable size k w.guarded w.lines r.log r.told) (sym (tally-same hs id h g at record { held = refl; writes = refl; owed = sym was; task = refl; sent = refl; consumed = refl })) b;
        heard = each-set (HeardOk w.lines) (HeardOk w.lines) hs id g (r.heard id h at) (λ j v _ _ p. p) r.heard;
        each = each-set P Q hs id g record {
          plan = a.plan;
          known = a.known;
          writer = a.writer;
          seen = a.seen;
          entered = λ y is. (alone, here ∙ ap entry_word (same-entered e y is));
          logged = λ y is. entered-logged e y is;
          mine = a.mine;
          nameless = a.nameless;
          knows = a.knows;
          saw = a.saw;
          signals = a.signals;
        } (λ j v other at' ok. free-same w.guarded w.guarded (get_or w.entries w.len 0) (get_or (set w.entries w.len x) w.len 0) r.log r.told v (others-free hs id j h v b.apart at alone other at') ok) r.each;
      }

  -- the log has the entry: the guarded words represent what its call leaves of the state before
  pub site-logs : (w : SiteWords) (hs : List Hand) (id : ℕ) (e : Entry) (h : Hand) (words : CallWords) (c : Call) → Kept w hs → get_elem? hs id ≡ some h → h.held ≡ Alone → h.stage ≡ Entered e → h.task ≡ Some e.task → h.done ≡ e.call → w.len < calls_in k
      → slice_get (row k e.task) e.call ≡ Some words → o.call_of words ≡ Some c → o.Represents (o.meaning (state_after o k h.log) c).0 h.known → Kept (record w { len = w.len + 1 }) (set hs id (logged h e))
  site-logs w hs id e h words c r at alone stage named done room planned is means = let a = r.each id h at in let b = r.balances in let g : Hand = logged h e in let not_no = alone-is-held h.held alone in let t = a.known not_no in
      let wide = r.laid.room in let many = r.tells.many in let log' : List Entry = r.log ++ e ∷ [] in let long : length log' ≡ length r.log + 1 = omega (arith, length-append r.log (e ∷ [])) in
      let owed = none-owed w hs id h r at alone (ap owed_weight stage) in let was : owed_of h ≡ 0 = ap owed_weight stage in let sum = total-set owed_of hs id h g at in
      let held = total-same held_of hs id h g at refl in let al = total-same alone_of hs id h g at refl in let same : h.log ++ e ∷ [] ≡ log' = ap (λ (z : List Entry). z ++ e ∷ []) t.1 in
      let state : o.Represents (state_after o k log') (take size w.guarded) = subst (λ (z : o.State). o.Represents z (take size w.guarded)) (sym (state-snoc o k r.log e words c planned is)) (subst (λ (z : List Entry). o.Represents (o.meaning (state_after o k z) c).0 (take size w.guarded)) t.1 (subst (λ (z : List ℕ). o.Represents (o.meaning (state_after o k h.log) c).0 z) t.0 means)) in
      let next : get_or w.entries (length r.log) 0 ≡ entry_word e = ap (λ (z : ℕ). get_or w.entries z 0) (sym many) ∙ (a.entered e stage).1 in
      let P : Hand → Type 0 = Ok w.guarded (get_or w.entries w.len 0) r.log r.told in let Q : Hand → Type 0 = Ok w.guarded (get_or w.entries (w.len + 1) 0) log' r.told in record {
        log = log';
        told = r.told;
        laid = record { wide = r.laid.wide; calls = r.laid.calls; planned = r.laid.planned; small = r.laid.small; guarded = r.laid.guarded; lines = r.laid.lines; room = r.laid.room };
        tells = record {
          tasks = r.tells.tasks;
          many = omega (arith, many, long);
          within = omega (arith, room, many, long);
          entered = ap (λ (z : ℕ). take z w.entries) long ∙ (take_more w.entries (length r.log) 0 (omega (arith, wide, room, many)) ∙ ((λ i. r.tells.entered i ++ next i ∷ []) ∙ sym (map-append entry_word r.log (e ∷ []))));
          filled = r.tells.filled;
          legal = λ u. grows-next o unavailable k r.log (e ∷ []) u 0 0 (row k u) (row r.told u) (r.tells.legal u);
        };
        balances = record {
          apart = λ l. let d = b.apart (omega arith) in omega arith;
          quiet = λ _. state;
          recorded = λ j x there l. ⊎_elim (λ (old : slice_get r.log j ≡ Some x). b.recorded j x old (let m = some-inside r.log j x old in omega arith))
              (λ (new : (i : ℕ) × (j ≡ length r.log + i) × (slice_get (e ∷ []) i ≡ Some x)). let p = new.1 in absurd (omega arith)) (get-either r.log (e ∷ []) j x there);
          few = let f = b.few in omega arith;
          named = λ u l. one-stays (named_of u) hs id h g _ at refl (b.named u l);
          sent = λ u l. sum-stays (sent_of u) hs id h g _ _ at refl (b.sent u l);
          consumed = λ u l. sum-stays (consumed_of u) hs id h g _ _ at refl (b.consumed u l);
          pending = b.pending;
        };
        heard = each-set (HeardOk w.lines) (HeardOk w.lines) hs id g (r.heard id h at) (λ j v _ _ p. p) r.heard;
        each = each-set P Q hs id g record {
          plan = a.plan;
          known = λ _. (t.0, same);
          writer = λ yes_it. not-both false refl yes_it;
          seen = (let s = a.seen.0 in omega (arith, s, long), take-append-le (length h.seen) r.log (e ∷ []) a.seen.0 ∙ a.seen.1);
          entered = λ y eq. logged-entered e y eq;
          logged = λ y eq. let p = same-logged e y eq in let last : length log' - 1 ≡ length r.log = omega (arith, long) in (alone, named ∙ ap (λ (z : Entry). Some z.task) p, done ∙ ap (λ (z : Entry). z.call) p, ap (slice_get log') last ∙ (get-last r.log e (length r.log) refl ∙ ap Some p), (let s = a.seen.0 in omega (arith, s, long)));
          mine = a.mine;
          nameless = a.nameless;
          knows = a.knows;
          saw = a.saw;
          signals = a.signals;
        } (λ j v other at' ok. free-ok w.guarded w.guarded (get_or w.entries w.len 0) (get_or w.entries (w.len + 1) 0) r.log (e ∷ []) r.told v (others-free hs id j h v b.apart at alone other at') ok) r.each;
      }

  owed-least : (guarded : List ℕ) (next : ℕ) (log : List Entry) (told : Records) (hs : List Hand) → Each (Ok guarded next log told) hs → total owed_of hs ≤ total held_of hs
  owed-least guarded next log told [] ok = omega arith
  owed-least guarded next log told (h ∷ hs) ok = let a = owed-least guarded next log told hs (λ j g e. ok (suc j) g e) in let b : owed_of h ≤ held_of h = one h.stage h.held (λ e is. ((ok zero h refl).logged e is).0) in omega arith
    where
      one : (s : Stage) (x : Held) → ((e : Entry) → s ≡ Logged e → x ≡ Alone) → owed_weight s ≤ held_weight x
      one Rest x f = omega arith
      one (Entered e) x f = omega arith
      one (Logged e) x f = let a : held_weight x ≡ 1 = ap held_weight (f e refl) in omega arith

  pub owed-one : (w : SiteWords) (hs : List Hand) (id : ℕ) (h : Hand) → Kept w hs → get_elem? hs id ≡ some h → h.held ≡ Alone → total owed_of hs ≤ 1
  owed-one w hs id h r at alone = let a : alone_of h ≡ 1 = ap alone_weight alone in let c = total-at alone_of hs id h at in let d = r.balances.apart (omega arith) in
      let e = owed-least w.guarded (get_or w.entries w.len 0) r.log r.told hs r.each in omega arith

  -- a number is one pass's
  pub twice : (w : SiteWords) (hs : List Hand) (id j t : ℕ) (h v : Hand) → Kept w hs → get_elem? hs id ≡ some h → get_elem? hs j ≡ some v → h.task ≡ Some t → v.task ≡ Some t → j ≢ id → ⊥
  twice w hs id j t h v r at at' has has' other = let inside = ((r.each id h at).mine t has).0 in let few = r.laid.small.tasks in let one = (r.balances.named t (omega arith)).1 in
      let a : named_of t h ≡ 1 = ap (Rattle.lock_core.specs.Views.is_number t) has ∙ is_number-here t in let b : named_of t v ≡ 1 = ap (Rattle.lock_core.specs.Views.is_number t) has' ∙ is_number-here t in
      let c = total-two (named_of t) hs id j h v at at' (λ z. other (sym z)) in omega arith

  -- what is known of a pass stays while the records of other tasks grow
  told-ok : (guarded : List ℕ) (next : ℕ) (log : List Entry) (told told' : Records) (g : Hand) → ((t c : ℕ) (x : Rec) → slice_get (row told t) c ≡ Some x → slice_get (row told' t) c ≡ Some x) → ((t : ℕ) → g.task ≡ Some t → row told' t ≡ row told t)
      → Ok guarded next log told g → Ok guarded next log told' g
  told-ok guarded next log told told' g more same ok = record {
    plan = ok.plan;
    known = ok.known;
    writer = ok.writer;
    seen = ok.seen;
    entered = ok.entered;
    logged = ok.logged;
    mine = λ t is. subst (λ (rs : List Rec). (t < length k) × (g.done ≡ length rs) × (seen_by o 0 (row k t) rs ≤ length g.seen)) (sym (same t is)) (ok.mine t is);
    nameless = ok.nameless;
    knows = λ i x e. more x.entry.task x.entry.call x.rec (ok.knows i x e);
    saw = ok.saw;
    signals = ok.signals;
  }

  -- a record more of the pass's own task: its place is one that the pass has seen, and it has seen as much afterwards
  pub site-records : (w : SiteWords) (hs : List Hand) (id t n : ℕ) (h : Hand) (words : CallWords) (x : Rec) (seen : List Entry) (sent : Option ℕ) (consumed : ℕ) (r : Kept w hs) → get_elem? hs id ≡ some h → h.task ≡ Some t → slice_get (row k t) h.done ≡ Some words
      → sent ≡ None → IsRec x → IsRecord o unavailable k r.log x.k (record { task = t; call = h.done }) words x → (owed_of h ≡ 0 → length h.seen ≤ x.k)
      → ((u : ℕ) → sends u k (appended r.told t x) + is_number u sent ≡ sends u k r.told + sent_of u h) → ((u : ℕ) → intrs (row (appended r.told t x) u) + consumed_weight u h.task consumed ≡ intrs (row r.told u) + consumed_of u h)
      → (length seen ≤ length r.log) × (take (length seen) r.log ≡ seen) → seen_after (logs o words x.reply) x ≤ length seen
      → (owed_of h ≡ 0) ⊎ ((h.stage ≡ Logged (record { task = t; call = h.done })) × (x.k + 1 ≡ length r.log) × (logs o words x.reply ≡ true))
      → Kept (record w { recs = set w.recs (start k t + h.done) (rec_word x) }) (set hs id (record (recorded h n (record { task = t; call = h.done }) x seen) { sent = sent; consumed = consumed }))
  site-records w hs id t n h words x seen sent consumed r at has planned unsent fits means after sends_is intrs_is prefix enough settles = let a = r.each id h at in let b = r.balances in let mine = a.mine t has in let me = mine.1 in
      let e : Entry = record { task = t; call = h.done } in let g : Hand = record (recorded h n e x seen) { sent = sent; consumed = consumed } in let told' : Records = appended r.told t x in let tasks = r.tells.tasks in let inside = mine.0 in
      let row' : row told' t ≡ row r.told t ++ x ∷ [] = row-appended r.told t x (omega (arith, tasks, inside)) in
      let beside : (u : ℕ) → u ≢ t → row told' u ≡ row r.told u = λ u not. row-beside r.told t u x not in
      let there : slice_get (row k t) (length (row r.told t)) ≡ Some words = ap (slice_get (row k t)) (sym me) ∙ planned in
      let more : (u c : ℕ) (y : Rec) → slice_get (row r.told u) c ≡ Some y → slice_get (row told' u) c ≡ Some y = λ u c y old. dite (ℕ_discrete u t)
      (λ is. subst (λ (z : ℕ). slice_get (row r.told z) c ≡ Some y → slice_get (row told' z) c ≡ Some y) (sym is) (λ old'. ap (λ (l : List Rec). slice_get l c) row' ∙ get-longer (row r.told t) (x ∷ []) c y old') old)
      (λ not. ap (λ (l : List Rec). slice_get l c) (beside u not) ∙ old) in
      let new : slice_get (row told' t) h.done ≡ Some x = ap (λ (l : List Rec). slice_get l h.done) row' ∙ get-last (row r.told t) x h.done (sym me) in
      let later : length h.seen ≤ x.k = ⊎_elim after (λ (q : (h.stage ≡ Logged e) × (x.k + 1 ≡ length r.log) × (logs o words x.reply ≡ true)). let l = (a.logged e q.0).4 in let p = q.1 in omega arith) settles in
      let ahead = mine.2 in let held = total-same held_of hs id h g at refl in let al = total-same alone_of hs id h g at refl in let wr = total-same writes_of hs id h g at refl in
      let sum : total owed_of (set hs id g) + owed_of h ≡ total owed_of hs + 0 = total-set owed_of hs id h g at in let mine_owed = total-at owed_of hs id h at in
      let older : (j : ℕ) (y : Entry) → slice_get r.log j ≡ Some y → j + total owed_of hs < length r.log → IsLoggedAt o k told' y j = λ j y there l. let q = b.recorded j y there l in
      record { words = q.words; rec = q.rec; planned = q.planned; recorded = more y.task y.call q.rec q.recorded; there = q.there; logged = q.logged } in
      let room = some-inside (row k t) h.done words planned in
      let P : Hand → Type 0 = Ok w.guarded (get_or w.entries w.len 0) r.log r.told in let Q : Hand → Type 0 = Ok w.guarded (get_or w.entries w.len 0) r.log told' in record {
        log = r.log;
        told = told';
        laid = record { wide = r.laid.wide; calls = r.laid.calls; planned = r.laid.planned; small = r.laid.small; guarded = r.laid.guarded; lines = r.laid.lines; room = r.laid.room };
        tells = record {
          tasks = length-appended r.told t x ∙ tasks;
          many = r.tells.many;
          within = r.tells.within;
          entered = r.tells.entered;
          filled = (λ i. set (r.tells.filled i) (start k t + me i) (rec_word x)) ∙ sym (rec_words-appended k r.told t x tasks inside (omega (arith, me, room)));
          legal = λ u. dite (ℕ_discrete u t)
              (λ is. subst (λ (z : ℕ). AreNext o unavailable k r.log z 0 0 (row k z) (row told' z)) (sym is) (subst (λ (l : List Rec). AreNext o unavailable k r.log t 0 0 (row k t) l) (sym row')
              (next-snoc o unavailable k r.log t 0 0 (row k t) (row r.told t) words x (r.tells.legal t) there
              (let z : h.done ≡ 0 + length (row r.told t) = omega (arith, me) in record { fits = fits; means = subst (λ (c : ℕ). IsRecord o unavailable k r.log x.k (record { task = t; call = c }) words x) z means; after = omega (arith, ahead, later) }))))
              (λ not. subst (λ (l : List Rec). AreNext o unavailable k r.log u 0 0 (row k u) l) (sym (beside u not)) (r.tells.legal u));
        };
        balances = record {
          apart = λ l. let c = b.apart (omega arith) in omega arith;
          quiet = λ q. b.quiet (sym wr ∙ q);
          recorded = λ j y there l. ⊎_elim
              (λ (none : owed_of h ≡ 0). older j y there (omega arith))
              (λ (q : (h.stage ≡ Logged e) × (x.k + 1 ≡ length r.log) × (logs o words x.reply ≡ true)). let one : owed_of h ≡ 1 = ap owed_weight q.0 in let place = q.1 in dite (ℕ_discrete (j + 1) (length r.log))
              (λ last. let s : y ≡ e = same-some y e (sym there ∙ (let z : j ≡ length r.log - 1 = omega arith in ap (slice_get r.log) z ∙ (a.logged e q.0).3)) in
              subst (λ (z : Entry). IsLoggedAt o k told' z j) (sym s) record { words = words; rec = x; planned = planned; recorded = new; there = omega arith; logged = q.2 })
              (λ not. older j y there (let i = some-inside r.log j y there in let only = owed-one w hs id h r at (a.logged e q.0).0 in omega arith)))
              settles;
          few = let f = b.few in let c = calls_in-appended r.told t x (omega (arith, tasks, inside)) in let o1 = owed-most h.stage in omega arith;
          named = λ u l. let old = b.named u l in let p = old.0 in let q = old.1 in let c = total-same (named_of u) hs id h g at refl in (omega arith, omega arith);
          sent = λ u l. let c = total-set (sent_of u) hs id h g at in let d = b.sent u l in let s = sends_is u in omega arith;
          consumed = λ u l. let c = total-set (consumed_of u) hs id h g at in let d = b.consumed u l in let i = intrs_is u in omega arith;
          pending = b.pending;
        };
        heard = each-set (HeardOk w.lines) (HeardOk w.lines) hs id g (r.heard id h at) (λ j v _ _ p. p) r.heard;
        each = each-set P Q hs id g record {
          plan = a.plan;
          known = a.known;
          writer = a.writer;
          seen = prefix;
          entered = λ y eq. rest-entered y eq;
          logged = λ y eq. rest-logged y eq;
          mine = λ u eq. let is : t ≡ u = same-some t u (sym has ∙ eq) in subst (λ (z : ℕ). (z < length k) × (h.done + 1 ≡ length (row told' z)) × (seen_by o 0 (row k z) (row told' z) ≤ length seen)) is (
            inside,
            (let l = ap length row' in omega (arith, l, me, length-append (row r.told t) (x ∷ []))),
            subst (λ (l : List Rec). seen_by o 0 (row k t) l ≤ length seen) (sym row') (let s = seen_by-snoc o 0 (row k t) (row r.told t) words x there in omega (arith, s, enough)),
          );
          nameless = λ eq. none-some t (sym eq ∙ has);
          knows = knows-cons told' e x h.records new (λ i y eq. more y.entry.task y.entry.call y.rec (a.knows i y eq));
          saw = a.saw;
          signals = λ u eq. none-some u (sym unsent ∙ eq);
        } (λ j v other at' ok. told-ok w.guarded (get_or w.entries w.len 0) r.log r.told told' v more (λ u is. beside u (λ same. twice w hs id j t h v r at at' has (is ∙ ap Some same) other)) ok) r.each;
      }
