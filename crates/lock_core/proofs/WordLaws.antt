-- The steps on the words of the object, and what their loads tell.
use Rattle.std.proofs.Common.{◌≡◌, ◌≢◌, ℕ, zero, suc, ◌+◌, ◌<◌, ◌≤◌, Bool, List, [], ◌∷◌, length, map, take, get_or, set, slice_get, Some, refl, sym, ap, subst, ◌∙◌, arith, inr}
use Rattle.std.proofs.lemmas.List.{take-set-le, get_or-take}
use mathlib.Core.Option.{some}
use lib.ListN.{get_elem?}
use Rattle.word_bits.specs.EntryWord.{entry_word}
use Rattle.word_bits.specs.RecWord.{rec_word}
use Rattle.word_bits.specs.LockWords.{Unavailable}
use Rattle.word_bits.specs.Objects.{Obj}
use Rattle.word_bits.specs.Histories.{Plan, state_after}
use Rattle.lock_core.specs.Plans.{calls_in, start}
use Rattle.lock_core.specs.Layout.{SiteWords, lay, recs_at}
use Rattle.lock_core.specs.Records.{row}
use Rattle.lock_core.specs.Views.{wrote, entered, logged, recorded, owed_weight, sent_after, consumed_after, settled}
use Rattle.lock_core.specs.Sites.{SiteKept, SiteStep}
use Rattle.lock_core.specs.Laws.Move.{keeps-recs}
use Rattle.lock_core.specs.SitePasses.{IsLength, IsEntryAt, MayRecord}
use Rattle.lock_core.proofs.LayoutLaws.{lay-guarded, lay-len, lay-entries, lay-recs}
use Rattle.lock_core.specs.Regions.{part-at}
use Rattle.lock_core.specs.Types.{CallWords, Entry, Rec, Hand, No, Alone, Rest, Entered}
use Rattle.lock_core.proofs.RowLaws.{none-some, same-some, some-inside, start-below, rec_words-at, task_recs-none}
use Rattle.lock_core.proofs.HandLaws.{alone-is-held}
use Rattle.lock_core.proofs.Numbering.{next-short}
use Rattle.lock_core.proofs.Reading.{same-plan}
use Rattle.lock_core.proofs.WordSteps.{site-writes, site-enters, site-logs, site-records, none-owed}
use Rattle.lock_core.proofs.Replies.{accounts-sent, accounts-settle, served-len}
use Rattle.lock_core.proofs.Signalling.{accounts}
use Rattle.lock_core.specs.declared.layout.TheConstants.{ENTRIES_AT, LENGTH_AT, LINES_AT}

-- of lists that are no longer than others, and one of them shorter
sums-below : {X Y : Type 0} (xss : List (List X)) (yss : List (List Y)) (t : ℕ) → length xss ≡ length yss → ((u : ℕ) → length (row xss u) ≤ length (row yss u)) → length (row xss t) < length (row yss t) → calls_in xss < calls_in yss
sums-below xss [] t same each l = absurd (omega arith)
sums-below [] (ys ∷ yss) t same each l = absurd (omega (arith, same))
sums-below (xs ∷ xss) (ys ∷ yss) zero same each l = let r = sums xss yss (λ u. each (suc u)) (omega (arith, same)) in omega arith
  where
    sums : {X Y : Type 0} (xss : List (List X)) (yss : List (List Y)) → ((u : ℕ) → length (row xss u) ≤ length (row yss u)) → length xss ≡ length yss → calls_in xss ≤ calls_in yss
    sums [] yss each same = omega arith
    sums (xs ∷ xss) [] each same = absurd (omega (arith, same))
    sums (xs ∷ xss) (ys ∷ yss) each same = let r = sums xss yss (λ u. each (suc u)) (omega (arith, same)) in let f = each 0 in omega arith
sums-below (xs ∷ xss) (ys ∷ yss) (suc t) same each l = let r = sums-below xss yss t (omega (arith, same)) (λ u. each (suc u)) l in let f = each 0 in omega arith

list-get : (xs : List Entry) (j : ℕ) (e : Entry) → slice_get xs j ≡ Some e → get_or (map entry_word xs) j 0 ≡ entry_word e
list-get [] j e is = none-some e is
list-get (x ∷ xs) zero e is = ap entry_word (same-some x e is)
list-get (x ∷ xs) (suc j) e is = list-get xs j e is

module _ {Call : Type 0} (o : Obj Call) (unavailable : Unavailable) (size : ℕ) (k : Plan) where
  abbrev Kept : SiteWords → List Hand → Type 0
  Kept = SiteKept o unavailable size k

  abbrev After : Bool → ℕ → List ℕ → List Hand → ℕ → Hand → Hand → ℕ → ℕ → Type 0
  After unheld step s hs id h g at new = Kept (lay k (set s at new)) (set hs id g) × SiteStep unheld step (lay k s) (lay k (set s at new)) h g

  pub writes-there : {unheld : Bool} {step : ℕ} (s : List ℕ) (hs : List Hand) (id i n : ℕ) (h : Hand) → size ≤ 257 → Kept (lay k s) hs → get_elem? hs id ≡ some h → h.held ≡ Alone → i < size → After unheld step s hs id h (wrote h i n) i n
  writes-there {unheld} {step} s hs id i n h fits r at alone inside = let e = sym (lay-guarded k s i n (omega (arith, fits, inside))) in
      (subst (λ (w : SiteWords). Kept w (set hs id (wrote h i n))) e (site-writes o unavailable size k (lay k s) hs id i n h r at alone inside), subst (λ (w : SiteWords). SiteStep unheld step (lay k s) w h (wrote h i n)) e (keeps-recs (lay k s) (record (lay k s) { guarded = set (lay k s).guarded i n }) h (wrote h i n) refl (omega arith, refl) (λ not. absurd (not alone)) (record { misses = omega arith; freed = λ _. refl; takes = omega arith; comes = λ l. omega (arith, l) }) refl refl))

  holders-log : (s : List ℕ) (hs : List Hand) (id : ℕ) (h : Hand) → Kept (lay k s) hs → get_elem? hs id ≡ some h → h.held ≢ No → get_or s LENGTH_AT 0 ≡ length h.log
  holders-log s hs id h r at holds = r.tells.many ∙ sym (ap length ((r.each id h at).known holds).1)

  pub enters-there : {unheld : Bool} {step : ℕ} (s : List ℕ) (hs : List Hand) (id len : ℕ) (e : Entry) (h : Hand) → Kept (lay k s) hs → get_elem? hs id ≡ some h → h.held ≡ Alone → h.stage ≡ Rest → len ≡ length h.log → len < calls_in k → After unheld step s hs id h (entered h e) (ENTRIES_AT + len) (entry_word e)
  enters-there {unheld} {step} s hs id len e h r at alone rest is room = let here : (lay k s).len ≡ len = holders-log s hs id h r at (alone-is-held h.held alone) ∙ sym is in let f = sym (lay-entries k s len (entry_word e) room) in (
    subst (λ (w : SiteWords). Kept w (set hs id (entered h e))) f (subst (λ (n : ℕ). Kept (record (lay k s) { entries = set (lay k s).entries n (entry_word e) }) (set hs id (entered h e))) here (site-enters o unavailable size k (lay k s) hs id e h r at alone rest (omega (arith, here, room)))),
    subst (λ (w : SiteWords). SiteStep unheld step (lay k s) w h (entered h e)) f (keeps-recs (lay k s) (record (lay k s) { entries = set (lay k s).entries len (entry_word e) }) h (entered h e) refl (omega arith, take-set-le (lay k s).len (lay k s).entries len (entry_word e) (omega (arith, here))) (λ not. absurd (not alone)) (record { misses = omega arith; freed = λ _. refl; takes = omega arith; comes = λ l. omega (arith, l) }) refl (let none : owed_weight h.stage ≡ 0 = ap owed_weight rest in omega (arith, none))),
  )

  pub logs-there : {unheld : Bool} {step : ℕ} (s : List ℕ) (hs : List Hand) (id len : ℕ) (e : Entry) (h : Hand) (words : CallWords) (c : Call) → Kept (lay k s) hs → get_elem? hs id ≡ some h → h.held ≡ Alone → h.stage ≡ Entered e → h.task ≡ Some e.task → h.done ≡ e.call → len ≡ length h.log → len < calls_in k
      → slice_get (row k e.task) e.call ≡ Some words → o.call_of words ≡ Some c → o.Represents (o.meaning (state_after o k h.log) c).0 h.known → After unheld step s hs id h (logged h e) LENGTH_AT (len + 1)
  logs-there {unheld} {step} s hs id len e h words c r at alone stage named done is room planned called means = let here : (lay k s).len ≡ len = holders-log s hs id h r at (alone-is-held h.held alone) ∙ sym is in let wide = r.laid.wide in let f = sym (lay-len k s (len + 1) (omega (arith, wide))) in (
    subst (λ (w : SiteWords). Kept w (set hs id (logged h e))) f (subst (λ (n : ℕ). Kept (record (lay k s) { len = n + 1 }) (set hs id (logged h e))) here
        (site-logs o unavailable size k (lay k s) hs id e h words c r at alone stage named done (omega (arith, here, room)) planned called means)),
    subst (λ (w : SiteWords). SiteStep unheld step (lay k s) w h (logged h e)) f (keeps-recs (lay k s) (record (lay k s) { len = len + 1 }) h (logged h e) refl (omega (arith, here), refl) (λ not. absurd (not alone)) (record { misses = omega arith; freed = λ _. refl; takes = omega arith; comes = λ l. omega (arith, l) }) refl (let none : owed_weight h.stage ≡ 0 = ap owed_weight stage in omega (arith, none, here))),
  )

  pub records-there : {unheld : Bool} {step : ℕ} (s : List ℕ) (hs : List Hand) (id : ℕ) (h : Hand) (e : Entry) (words : CallWords) (x : Rec) (seen : List Entry) → Kept (lay k s) hs → get_elem? hs id ≡ some h → h.plan ≡ Some k → MayRecord o unavailable unheld k h e words x seen
      → After unheld step s hs id h (recorded (settled h x.reply) step e x seen) (recs_at k + (start k e.task + e.call)) (rec_word x)
  records-there {unheld} {step} s hs id h e words x seen r at planned may = let ok = r.each id h at in let is = may.call in let inside = some-inside (row k e.task) e.call words may.planned in let below = start-below k e.task e.call inside in
      let f = sym (lay-recs k s (start k e.task + e.call) (rec_word x) below) in let means = may.means r.log (λ holds. (ok.known holds).1) ok.seen in let mine = ok.mine e.task may.task in
      let settles = accounts o unavailable size k r.told e.task h words x x.reply refl r.tells.tasks mine.0 may.task (ap (slice_get (row k e.task)) (sym mine.1 ∙ is) ∙ may.planned) may.accounts in (
        subst (λ (w : SiteWords). Kept w (set hs id (recorded (settled h x.reply) step e x seen))) f
            (subst (λ (c : ℕ). Kept (record (lay k s) { recs = set (lay k s).recs (start k e.task + c) (rec_word x) }) (set hs id (recorded (settled h x.reply) step (record { task = e.task; call = c }) x seen))) is
            (site-records o unavailable size k (lay k s) hs id e.task step h words x seen (sent_after h.sent x.reply) (consumed_after h.consumed x.reply) r at may.task (ap (slice_get (row k e.task)) is ∙ may.planned) settles.2 may.fits
            (subst (λ (c : ℕ). Rattle.word_bits.specs.Legal.IsRecord o unavailable k r.log x.k (record { task = e.task; call = c }) words x) (sym is) means.0) means.1 settles.0 settles.1 (means.2, means.3) may.enough
            (subst (λ (c : ℕ). Rattle.lock_core.specs.SitePasses.Settles o h r.log (record { task = e.task; call = c }) words x) (sym is) means.4))),
        subst (λ (w : SiteWords). SiteStep unheld step (lay k s) w h (recorded (settled h x.reply) step e x seen)) f record {
          grows = (omega arith, refl);
          records = inr record {
            plan = k;
            planned = planned;
            task = e.task;
            named = may.task;
            next = omega (arith, is, inside);
            rec = x;
            fits = may.fits;
            empty = ap (λ (z : List ℕ). get_or z (start k e.task + h.done) 0) r.tells.filled
                ∙ (rec_words-at k r.told e.task h.done r.tells.tasks (omega (arith, is, inside)) ∙ (let l = mine.1 in task_recs-none (row k e.task) (row r.told e.task) h.done (omega (arith, l))));
            stored = ap (λ (c : ℕ). set (lay k s).recs (start k e.task + c) (rec_word x)) (sym is);
            busy = may.busy;
            interrupted = may.interrupted;
            sent = accounts-sent k e.task h words x.reply may.accounts (ap (slice_get (row k e.task)) is ∙ may.planned);
            served = served-len unheld (length h.log) (lay k s).len h x.k x.reply (λ holds. sym (holders-log s hs id h r at holds)) may.served;
            settled = accounts-settle h words x.reply may.accounts;
            len = refl;
            paid = refl;
            done = refl;
            last = refl;
          };
          quiet = λ _. record { guarded = refl; len = refl; entries = refl };
          hand = record { misses = omega arith; freed = λ _. refl; takes = omega arith; comes = λ l. omega (arith, l) };
        },
      )

  pub word-found : (s : List ℕ) (hs : List Hand) (id at : ℕ) (h : Hand) → size ≤ 257 → Kept (lay k s) hs → get_elem? hs id ≡ some h → h.held ≢ No → at < size → get_or s at 0 ≡ get_or h.known at 0
  word-found s hs id at h fits r there holds inside = sym (ap (λ (z : List ℕ). get_or z at 0) ((r.each id h there).known holds).0 ∙ (get_or-take size (take LINES_AT s) at 0 inside ∙ get_or-take LINES_AT s at 0 (omega (arith, fits, inside))))

  pub length-found : (s : List ℕ) (hs : List Hand) (id : ℕ) (h : Hand) → Kept (lay k s) hs → get_elem? hs id ≡ some h → h.held ≢ No → IsLength h LENGTH_AT (get_or s LENGTH_AT 0)
  length-found s hs id h r at holds = let many = r.tells.many in let within = r.tells.within in (
    holders-log s hs id h r at holds,
    (let seen = (r.each id h at).seen.0 in omega (arith, many, seen)),
    λ p plan. subst (λ (z : Plan). (get_or s LENGTH_AT 0 ≤ calls_in z) × ((t : ℕ) → h.task ≡ Some t → h.done < length (row z t) → h.stage ≡ Rest → h.held ≡ Alone → get_or s LENGTH_AT 0 < calls_in z)) (sym (same-plan o unavailable size k h p (r.each id h at).plan plan)) (
      omega (arith, many, within),
      λ t named next rest alone. let none = none-owed o unavailable size k (lay k s) hs id h r at alone (ap owed_weight rest) in let few = r.balances.few in let done = ((r.each id h at).mine t named).1 in
          let less = sums-below r.told k t r.tells.tasks (λ u. next-short o unavailable k r.log u 0 0 (row k u) (row r.told u) (r.tells.legal u)) (omega (arith, done, next)) in omega (arith, many, few, none, less),
    ),
  )

  pub entry-found : (s : List ℕ) (hs : List Hand) (id at : ℕ) (h : Hand) → Kept (lay k s) hs → get_elem? hs id ≡ some h → h.held ≢ No → IsEntryAt h at (get_or s at 0)
  entry-found s hs id at h r there holds j e place is = let log = ((r.each id h there).known holds).1 in let old : slice_get r.log j ≡ Some e = ap (λ (z : List Entry). slice_get z j) (sym log) ∙ is in let inside = some-inside r.log j e old in let within = r.tells.within in
      ap (λ (i : ℕ). get_or s i 0) place ∙ (sym (part-at s ENTRIES_AT (calls_in k) j (omega (arith, inside, within))) ∙ (sym (get_or-take (length r.log) (lay k s).entries j 0 inside) ∙ (ap (λ (z : List ℕ). get_or z j 0) r.tells.entered ∙ list-get r.log j e old)))
