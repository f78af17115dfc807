-- Signals: a pass sends one and consumes one, and records both. The site's facts stay.
use Rattle.std.proofs.Common.{◌≡◌, ℕ, zero, suc, ◌+◌, ◌==◌, ◌&&◌, ◌<◌, ◌≤◌, Bool, true, false, List, [], ◌∷◌, ◌++◌, length, get_or, set, slice_get, Option, Some, None, sym, refl, ap, ◌∙◌, subst, arith, length-set, get_or-set_same, get_or-set_other, ◌-◌}
use Rattle.std.specs.Option.{option_map_or}
use mathlib.Core.Option.{some}
use mathlib.Core.Logic.{dite}
use native.Mathlib.Decide.{ℕ_discrete}
use lib.ListN.{get_elem?}
use Rattle.lock_core.specs.SitePasses.{Accounts}
use Rattle.word_bits.specs.Calls.{signal_of}
use Rattle.word_bits.specs.LockWords.{Unavailable}
use Rattle.word_bits.specs.Objects.{Obj}
use Rattle.word_bits.specs.Histories.{Plan, Records}
use Rattle.word_bits.specs.Legal.{is_intr, signals_to}
use Rattle.lock_core.specs.Plans.{appended, calls_in}
use Rattle.lock_core.specs.Layout.{SiteWords}
use Rattle.lock_core.specs.Records.{bit, row, is_sent, task_sends, sends, intrs}
use Rattle.lock_core.specs.Views.{sent_after, consumed_after, OwesNoSignal, is_number, consumed_weight, held_of, alone_of, writes_of, owed_of, named_of, sent_of, consumed_of}
use Rattle.lock_core.specs.Sites.{HeardOk, HandOk, SiteKept, Balances, taken_at, sent_at, consumed_at}
use Rattle.lock_core.specs.Totals.{total, total-set, total-same}
use Rattle.lock_core.specs.Types.{CallWords, Entry, Rec, Good, Num, Refused, MapErr, AccErr, Busy, Intr, Sent, Reply, Hand, Heard}
use Rattle.lock_core.specs.ViewParts.{Each, each-set}
use Rattle.lock_core.proofs.RowLaws.{none-some, same-some, row-appended, row-beside}
use Rattle.lock_core.proofs.HandLaws.{consumed-more, tally-same, number-or-not, is_number-here, is_number-else}
use Rattle.lock_core.proofs.RecordLaws.{sends-appended}
use Rattle.lock_core.proofs.WordSteps.{intrs-appended, twice}
use Rattle.word_bits.specs.declared.TheConstants.{MAX_TASKS}

pub bit-most : (b : Bool) → bit b ≤ 1
bit-most true = omega arith
bit-most false = omega arith

-- at most one pass for each number, so as many at most have a signal in hand
upto : ℕ → Hand → ℕ
upto zero h = 0
upto (suc m) h = named_of m h + upto m h

pub total-plus : (f g : Hand → ℕ) (hs : List Hand) → total (λ h. f h + g h) hs ≡ total f hs + total g hs
total-plus f g [] = refl
total-plus f g (h ∷ hs) = let r = total-plus f g hs in omega (arith, r)

total-upto : (m : ℕ) (hs : List Hand) → ((u : ℕ) → u < m → total (named_of u) hs ≤ 1) → total (upto m) hs ≤ m
unfolding upto
total-upto zero hs each = none hs
  where
    none : (hs : List Hand) → total (upto zero) hs ≤ 0
    none [] = omega arith
    none (h ∷ hs) = let r = none hs in omega (arith, r)
total-upto (suc m) hs each = let r = total-upto m hs (λ u l. each u (omega (arith, l))) in let a = total-plus (named_of m) (upto m) hs in let b = each m (omega arith) in omega (arith, r, a, b)

upto-has : (m t : ℕ) (h : Hand) → h.task ≡ Some t → t < m → 1 ≤ upto m h
unfolding upto
upto-has zero t h is l = absurd (omega (arith, l))
upto-has (suc m) t h is l = dite (ℕ_discrete t m)
    (λ e. let a : named_of m h ≡ 1 = ap (is_number m) is ∙ (ap (λ (z : ℕ). is_number m (Some z)) e ∙ is_number-here m) in omega (arith, a))
    (λ not. let r = upto-has m t h is (omega (arith, l, not)) in omega (arith, r))

pub number-most : (t : ℕ) (x : Option ℕ) → is_number t x ≤ 1
number-most t None = omega arith
number-most t (Some u) = bit-most (u == t)

pub total-below : (f g : Hand → ℕ) (hs : List Hand) → Each (λ h. f h ≤ g h) hs → total f hs ≤ total g hs
total-below f g [] each = omega arith
total-below f g (h ∷ hs) each = let a = each zero h refl in let r = total-below f g hs (λ j x at. each (suc j) x at) in omega (arith, a, r)

-- no more signals are recorded than calls are planned
task-sends-most : (t : ℕ) (ws : List CallWords) (rs : List Rec) → task_sends t ws rs ≤ length ws
task-sends-most t [] rs = omega arith
task-sends-most t (w ∷ ws) [] = omega arith
task-sends-most t (w ∷ ws) (r ∷ rs) = let a = bit-most (is_sent r.reply && signals_to t w) in let b = task-sends-most t ws rs in omega (arith, a, b)

sends-most : (t : ℕ) (k : Plan) (told : Records) → sends t k told ≤ calls_in k
sends-most t [] told = omega arith
sends-most t (ws ∷ wss) [] = omega arith
sends-most t (ws ∷ wss) (rs ∷ rss) = let a = task-sends-most t ws rs in let b = sends-most t wss rss in omega (arith, a, b)

-- one record more
sends-one : (u : ℕ) (ws : List CallWords) (rs : List Rec) (r : Rec) (w : CallWords) → slice_get ws (length rs) ≡ Some w → task_sends u ws (rs ++ r ∷ []) ≡ task_sends u ws rs + bit (is_sent r.reply && signals_to u w)
sends-one u [] rs r w is = none-some w is
sends-one u (x ∷ ws) [] r w is = let e : bit (is_sent r.reply && signals_to u x) ≡ bit (is_sent r.reply && signals_to u w) = ap (λ (z : CallWords). bit (is_sent r.reply && signals_to u z)) (same-some x w is) in let n = none ws in omega (arith, e, n)
  where
    none : (ws : List CallWords) → task_sends u ws [] ≡ 0
    none [] = refl
    none (w ∷ ws) = refl
sends-one u (x ∷ ws) (q ∷ rs) r w is = let n = sends-one u ws rs r w is in omega (arith, n)

sends-more : (u : ℕ) (k : Plan) (told : Records) (t : ℕ) (r : Rec) (w : CallWords) → length told ≡ length k → slice_get (row k t) (length (row told t)) ≡ Some w → sends u k (appended told t r) ≡ sends u k told + bit (is_sent r.reply && signals_to u w)
sends-more u [] told t r w same is = none-some w is
sends-more u (ws ∷ wss) [] t r w same is = absurd (omega (arith, same))
sends-more u (ws ∷ wss) (rs ∷ rss) zero r w same is = let n = sends-one u ws rs r w is in omega (arith, n)
sends-more u (ws ∷ wss) (rs ∷ rss) (suc t) r w same is = let n = sends-more u wss rss t r w (omega (arith, same)) is in omega (arith, n)

intrs-one : (rs : List Rec) (r : Rec) → intrs (rs ++ r ∷ []) ≡ intrs rs + bit (is_intr r.reply)
intrs-one [] r = omega arith
intrs-one (x ∷ rs) r = let n = intrs-one rs r in omega (arith, n)

module _ {Call : Type 0} (o : Obj Call) (unavailable : Unavailable) (size : ℕ) (k : Plan) where
  abbrev Kept : SiteWords → List Hand → Type 0
  Kept = SiteKept o unavailable size k

  abbrev Ok : List ℕ → ℕ → List Entry → Records → Hand → Type 0
  Ok = HandOk o unavailable size k

  -- a signal word stays small
  pub sent-small : (w : SiteWords) (hs : List Hand) (t : ℕ) → Kept w hs → t < MAX_TASKS → get_or w.lines (sent_at t) 0 < 262144
  sent-small w hs t r inside = let few = r.laid.small.tasks in let calls = r.laid.small.calls in let a = r.balances.sent t inside in let b = sends-most t k r.told in let c = total-upto MAX_TASKS hs (λ u l. (r.balances.named u l).1) in
      let d = total-below (sent_of t) (upto MAX_TASKS) hs (λ j h at. let ok = r.each j h at in number-or-not h.task
      (λ none. let e : sent_of t h ≡ 0 = ap (is_number t) (ok.nameless none).1 in omega (arith, e))
      (λ u is. let e = upto-has MAX_TASKS u h is (let l = (ok.mine u is).0 in omega (arith, l, few)) in let f = number-most t h.sent in omega (arith, e, f))) in omega (arith, a, b, c, d, few, calls)

  -- a pass sends a signal
  pub site-signals : (w : SiteWords) (hs : List Hand) (id s t : ℕ) (h : Hand) (words : CallWords) → Kept w hs → get_elem? hs id ≡ some h → h.task ≡ Some s → h.sent ≡ None → t < MAX_TASKS → slice_get (row k s) h.done ≡ Some words → signal_of words ≡ Some t → Kept (record w { lines = set w.lines (sent_at t) (get_or w.lines (sent_at t) 0 + 1) }) (set hs id (record h { sent = Some t }))
  site-signals w hs id s t h words r at has unsent inside planned is_signal = let a = r.each id h at in let b = r.balances in let lines = r.laid.lines in let n : ℕ = get_or w.lines (sent_at t) 0 in let g : Hand = record h { sent = Some t } in
      let held = total-same held_of hs id h g at refl in let alone = total-same alone_of hs id h g at refl in let writes = total-same writes_of hs id h g at refl in let owed = total-same owed_of hs id h g at refl in
      let P : Hand → Type 0 = Ok w.guarded (get_or w.entries w.len 0) r.log r.told in record {
        log = r.log;
        told = r.told;
        laid = record { wide = r.laid.wide; calls = r.laid.calls; planned = r.laid.planned; small = r.laid.small; guarded = r.laid.guarded; lines = length-set w.lines (sent_at t) (n + 1) ∙ lines; room = r.laid.room };
        tells = r.tells;
        balances = record {
          apart = λ l. let c = b.apart (omega arith) in omega arith;
          quiet = λ q. b.quiet (sym writes ∙ q);
          recorded = λ j e there l. b.recorded j e there (omega arith);
          few = let f = b.few in omega arith;
          named = λ u l. let old = b.named u l in let x = old.0 in let y = old.1 in let c = total-same (named_of u) hs id h g at refl in let now = get_or-set_other w.lines (sent_at t) (taken_at u) (n + 1) 0 (λ e. omega arith) in (omega arith, omega arith);
          sent = λ u l. let c = total-set (sent_of u) hs id h g at in let d = b.sent u l in let none : sent_of u h ≡ 0 = ap (is_number u) unsent in dite (ℕ_discrete u t)
              (λ is. let one : sent_of u g ≡ 1 = ap (λ (z : ℕ). is_number u (Some z)) (sym is) ∙ is_number-here u in let now : get_or (set w.lines (sent_at t) (n + 1)) (sent_at u) 0 ≡ n + 1 = ap (λ (z : ℕ). get_or (set w.lines (sent_at t) (n + 1)) (sent_at z) 0) is ∙ get_or-set_same w.lines (sent_at t) (n + 1) 0 (omega arith) in
              let was : get_or w.lines (sent_at u) 0 ≡ n = ap (λ (z : ℕ). get_or w.lines (sent_at z) 0) is in omega arith)
              (λ not. let zero_it : sent_of u g ≡ 0 = is_number-else u t (λ z. not (sym z)) in let now = get_or-set_other w.lines (sent_at t) (sent_at u) (n + 1) 0 (λ e. not (omega arith)) in omega arith);
          consumed = λ u l. let c = total-same (consumed_of u) hs id h g at refl in let d = b.consumed u l in let now = get_or-set_other w.lines (sent_at t) (consumed_at u) (n + 1) 0 (λ e. omega arith) in omega arith;
          pending = λ u l. let d = b.pending u l in let now = get_or-set_other w.lines (sent_at t) (consumed_at u) (n + 1) 0 (λ e. omega arith) in dite (ℕ_discrete u t)
              (λ is. let then : get_or (set w.lines (sent_at t) (n + 1)) (sent_at u) 0 ≡ n + 1 = ap (λ (z : ℕ). get_or (set w.lines (sent_at t) (n + 1)) (sent_at z) 0) is ∙ get_or-set_same w.lines (sent_at t) (n + 1) 0 (omega arith) in
              let was : get_or w.lines (sent_at u) 0 ≡ n = ap (λ (z : ℕ). get_or w.lines (sent_at z) 0) is in omega arith)
              (λ not. let then = get_or-set_other w.lines (sent_at t) (sent_at u) (n + 1) 0 (λ e. not (omega arith)) in omega arith);
        };
        heard = each-set (HeardOk w.lines) (HeardOk (set w.lines (sent_at t) (n + 1))) hs id g (more h (r.heard id h at)) (λ j v _ _ ok. more v ok) r.heard;
        each = each-set P P hs id g record { plan = a.plan; known = a.known; writer = a.writer; seen = a.seen; entered = a.entered; logged = a.logged; mine = a.mine; nameless = λ eq. none-some s (sym eq ∙ has); knows = a.knows; saw = a.saw; signals = λ u eq. (s, words, has, planned, is_signal ∙ eq) } (λ j v _ _ p. p) r.each;
      }
    where
      more : (v : Hand) → HeardOk w.lines v → HeardOk (set w.lines (sent_at t) (get_or w.lines (sent_at t) 0 + 1)) v
      more v ok p u is named = let old = ok p u is named in let x = old.0 in let y = old.1 in let lines = r.laid.lines in let n : ℕ = get_or w.lines (sent_at t) 0 in let c = get_or-set_other w.lines (sent_at t) (consumed_at u) (n + 1) 0 (λ e. omega arith) in dite (ℕ_discrete u t)
          (λ e. let now : get_or (set w.lines (sent_at t) (n + 1)) (sent_at u) 0 ≡ n + 1 = ap (λ (z : ℕ). get_or (set w.lines (sent_at t) (n + 1)) (sent_at z) 0) e ∙ get_or-set_same w.lines (sent_at t) (n + 1) 0 (omega (arith, lines, inside)) in let was : get_or w.lines (sent_at u) 0 ≡ n = ap (λ (z : ℕ). get_or w.lines (sent_at z) 0) e in (omega (arith, x, c), omega (arith, y, now, was)))
          (λ not. let now = get_or-set_other w.lines (sent_at t) (sent_at u) (n + 1) 0 (λ e. not (omega arith)) in (omega (arith, x, c), omega (arith, y, now)))

  -- a pass consumes a signal to its task
  pub site-consumes : (w : SiteWords) (hs : List Hand) (id t : ℕ) (h : Hand) → Kept w hs → get_elem? hs id ≡ some h → h.task ≡ Some t → get_or w.lines (consumed_at t) 0 < get_or w.lines (sent_at t) 0
      → Kept (record w { lines = set w.lines (consumed_at t) (get_or w.lines (consumed_at t) 0 + 1) }) (set hs id (record h { consumed = h.consumed + 1; heard = None }))
  site-consumes w hs id t h r at has waits = let a = r.each id h at in let b = r.balances in let lines = r.laid.lines in let few = r.laid.small.tasks in let inside = (a.mine t has).0 in let n : ℕ = get_or w.lines (consumed_at t) 0 in let g : Hand = record h { consumed = h.consumed + 1; heard = None } in
      let held = total-same held_of hs id h g at refl in let alone = total-same alone_of hs id h g at refl in let writes = total-same writes_of hs id h g at refl in let owed = total-same owed_of hs id h g at refl in
      let P : Hand → Type 0 = Ok w.guarded (get_or w.entries w.len 0) r.log r.told in record {
        log = r.log;
        told = r.told;
        laid = record { wide = r.laid.wide; calls = r.laid.calls; planned = r.laid.planned; small = r.laid.small; guarded = r.laid.guarded; lines = length-set w.lines (consumed_at t) (n + 1) ∙ lines; room = r.laid.room };
        tells = r.tells;
        balances = record {
          apart = λ l. let c = b.apart (omega arith) in omega arith;
          quiet = λ q. b.quiet (sym writes ∙ q);
          recorded = λ j e there l. b.recorded j e there (omega arith);
          few = let f = b.few in omega arith;
          named = λ u l. let old = b.named u l in let x = old.0 in let y = old.1 in let c = total-same (named_of u) hs id h g at refl in let now = get_or-set_other w.lines (consumed_at t) (taken_at u) (n + 1) 0 (λ e. omega arith) in (omega arith, omega arith);
          sent = λ u l. let c = total-same (sent_of u) hs id h g at refl in let d = b.sent u l in let now = get_or-set_other w.lines (consumed_at t) (sent_at u) (n + 1) 0 (λ e. omega arith) in omega arith;
          consumed = λ u l. let c = total-set (consumed_of u) hs id h g at in let d = b.consumed u l in let some_it : consumed_of u g ≡ consumed_of u h + is_number u (Some t) = consumed-more u h.task h.consumed ∙ ap (λ (z : ℕ). consumed_of u h + z) (ap (is_number u) has) in dite (ℕ_discrete u t)
              (λ is. let one : is_number u (Some t) ≡ 1 = ap (λ (z : ℕ). is_number u (Some z)) (sym is) ∙ is_number-here u in let now : get_or (set w.lines (consumed_at t) (n + 1)) (consumed_at u) 0 ≡ n + 1 = ap (λ (z : ℕ). get_or (set w.lines (consumed_at t) (n + 1)) (consumed_at z) 0) is ∙ get_or-set_same w.lines (consumed_at t) (n + 1) 0 (omega arith) in
              let was : get_or w.lines (consumed_at u) 0 ≡ n = ap (λ (z : ℕ). get_or w.lines (consumed_at z) 0) is in omega arith)
              (λ not. let zero_it : is_number u (Some t) ≡ 0 = is_number-else u t (λ z. not (sym z)) in let now = get_or-set_other w.lines (consumed_at t) (consumed_at u) (n + 1) 0 (λ e. not (omega arith)) in omega arith);
          pending = λ u l. let d = b.pending u l in let now = get_or-set_other w.lines (consumed_at t) (sent_at u) (n + 1) 0 (λ e. omega arith) in dite (ℕ_discrete u t)
              (λ is. let then : get_or (set w.lines (consumed_at t) (n + 1)) (consumed_at u) 0 ≡ n + 1 = ap (λ (z : ℕ). get_or (set w.lines (consumed_at t) (n + 1)) (consumed_at z) 0) is ∙ get_or-set_same w.lines (consumed_at t) (n + 1) 0 (omega arith) in
              let was : get_or w.lines (sent_at u) 0 ≡ get_or w.lines (sent_at t) 0 = ap (λ (z : ℕ). get_or w.lines (sent_at z) 0) is in omega arith)
              (λ not. let then = get_or-set_other w.lines (consumed_at t) (consumed_at u) (n + 1) 0 (λ e. not (omega arith)) in omega arith);
        };
        heard = each-set (HeardOk w.lines) (HeardOk (set w.lines (consumed_at t) (n + 1))) hs id g (λ p u e. none-some p e) (λ j v other at' ok p u e named. let old = ok p u e named in let x = old.0 in let y = old.1 in let d = get_or-set_other w.lines (consumed_at t) (sent_at u) (n + 1) 0 (λ z. omega arith) in dite (ℕ_discrete u t)
            (λ is. absurd (twice o unavailable size k w hs id j t h v r at at' has (named ∙ ap Some is) other))
            (λ not. let c = get_or-set_other w.lines (consumed_at t) (consumed_at u) (n + 1) 0 (λ z. not (omega arith)) in (omega (arith, x, c), omega (arith, y, d)))) r.heard;
        each = each-set P P hs id g record { plan = a.plan; known = a.known; writer = a.writer; seen = a.seen; entered = a.entered; logged = a.logged; mine = a.mine; nameless = λ eq. none-some t (sym eq ∙ has); knows = a.knows; saw = a.saw; signals = a.signals } (λ j v _ _ p. p) r.each;
      }

  plain-accounts : (told : Records) (t : ℕ) (h : Hand) (x : Rec) → is_sent x.reply ≡ false → is_intr x.reply ≡ false → OwesNoSignal h
      → ((u : ℕ) → sends u k (appended told t x) + is_number u h.sent ≡ sends u k told + sent_of u h) × ((u : ℕ) → intrs (row (appended told t x) u) + consumed_weight u h.task h.consumed ≡ intrs (row told u) + consumed_of u h) × (h.sent ≡ None)
  plain-accounts told t h x unsent unintr none = ((λ u. ap (λ (z : ℕ). z + sent_of u h) (sends-appended u k told t x unsent)), (λ u. ap (λ (z : ℕ). z + consumed_of u h) (intrs-appended u t told x unintr)), none.0)

  -- how the record of a call accounts for signals
  pub accounts : (told : Records) (t : ℕ) (h : Hand) (words : CallWords) (x : Rec) (reply : Reply) → x.reply ≡ reply → length told ≡ length k → t < length k → h.task ≡ Some t → slice_get (row k t) (length (row told t)) ≡ Some words → Accounts h words reply
      → ((u : ℕ) → sends u k (appended told t x) + is_number u (sent_after h.sent reply) ≡ sends u k told + sent_of u h) × ((u : ℕ) → intrs (row (appended told t x) u) + consumed_weight u h.task (consumed_after h.consumed reply) ≡ intrs (row told u) + consumed_of u h) × (sent_after h.sent reply ≡ None)
  accounts told t h words x Good is tasks inside has planned none = plain-accounts told t h x (ap is_sent is) (ap is_intr is) none
  accounts told t h words x (Num n) is tasks inside has planned none = plain-accounts told t h x (ap is_sent is) (ap is_intr is) none
  accounts told t h words x (Refused e) is tasks inside has planned none = plain-accounts told t h x (ap is_sent is) (ap is_intr is) none
  accounts told t h words x MapErr is tasks inside has planned none = plain-accounts told t h x (ap is_sent is) (ap is_intr is) none
  accounts told t h words x AccErr is tasks inside has planned none = plain-accounts told t h x (ap is_sent is) (ap is_intr is) none
  accounts told t h words x (Busy n) is tasks inside has planned none = plain-accounts told t h x (ap is_sent is) (ap is_intr is) none
  accounts told t h words x Intr is tasks inside has planned a = (
    (λ u. ap (λ (z : ℕ). z + sent_of u h) (sends-appended u k told t x (ap is_sent is))),
    (λ u. let one_more = a.1 in let back : (h.consumed - 1) + 1 ≡ h.consumed = omega (arith, one_more) in let c : consumed_of u h ≡ consumed_weight u h.task (h.consumed - 1) + is_number u (Some t) = ap (consumed_weight u h.task) (sym back) ∙ (consumed-more u h.task (h.consumed - 1) ∙ ap (λ (z : ℕ). consumed_weight u h.task (h.consumed - 1) + z) (ap (is_number u) has)) in dite (ℕ_discrete u t)
        (λ same. let one : is_number u (Some t) ≡ 1 = ap (λ (z : ℕ). is_number u (Some z)) (sym same) ∙ is_number-here u in let row' : row (appended told t x) u ≡ row told u ++ x ∷ [] = ap (row (appended told t x)) same ∙ (row-appended told t x (omega (arith, tasks, inside)) ∙ ap (λ (z : ℕ). row told z ++ x ∷ []) (sym same)) in
        let m : intrs (row (appended told t x) u) ≡ intrs (row told u) + 1 = ap intrs row' ∙ (intrs-one (row told u) x ∙ ap (λ (z : Bool). intrs (row told u) + bit z) (ap is_intr is)) in omega (arith, c, one, m))
        (λ other. let zero_it = is_number-else u t (λ z. other (sym z)) in let m = ap intrs (row-beside told t u x other) in omega (arith, c, zero_it, m))),
    a.0,
  )
  accounts told t h words x Sent is tasks inside has planned a = (
    (λ u. let m = sends-more u k told t x words tasks planned in
        let e : bit (is_sent x.reply && signals_to u words) ≡ bit (a.1.0 == u) = (λ i. bit (is_sent (is i) && signals_to u words)) ∙ ap (λ (z : Option ℕ). bit (option_map_or (λ q. q == u) z false)) a.1.2 in
        let f : sent_of u h ≡ bit (a.1.0 == u) = ap (is_number u) a.1.1 in omega (arith, m, e, f)),
    (λ u. ap (λ (z : ℕ). z + consumed_of u h) (intrs-appended u t told x (ap is_intr is))),
    refl,
  )

  -- a pass loads how many signals were sent to its task
  pub site-hears : (w : SiteWords) (hs : List Hand) (id t : ℕ) (h : Hand) → Kept w hs → get_elem? hs id ≡ some h → h.task ≡ Some t → Kept w (set hs id (record h { heard = Some (record { sent = get_or w.lines (sent_at t) 0; taken = get_or w.lines (consumed_at t) 0 }) }))
  site-hears w hs id t h r at has = let a = r.each id h at in let p : Heard = record { sent = get_or w.lines (sent_at t) 0; taken = get_or w.lines (consumed_at t) 0 } in let g : Hand = record h { heard = Some p } in let P : Hand → Type 0 = Ok w.guarded (get_or w.entries w.len 0) r.log r.told in record {
    log = r.log;
    told = r.told;
    laid = r.laid;
    tells = r.tells;
    balances = subst (Balances o unavailable size k w.guarded w.lines r.log r.told) (sym (tally-same hs id h g at record { held = refl; writes = refl; owed = refl; task = refl; sent = refl; consumed = refl })) r.balances;
    heard = each-set (HeardOk w.lines) (HeardOk w.lines) hs id g (λ q u is named. let e : p ≡ q = same-some p q is in let same : t ≡ u = same-some t u (sym has ∙ named) in
        subst (λ (z : ℕ × Heard). (get_or w.lines (consumed_at z.0) 0 ≡ z.1.taken) × (z.1.sent ≤ get_or w.lines (sent_at z.0) 0)) (λ i. (same i, e i)) (refl, omega arith)) (λ j v _ _ ok. ok) r.heard;
    each = each-set P P hs id g record { plan = a.plan; known = a.known; writer = a.writer; seen = a.seen; entered = a.entered; logged = a.logged; mine = a.mine; nameless = a.nameless; knows = a.knows; saw = a.saw; signals = a.signals } (λ j v _ _ ok. ok) r.each;
  }

  -- it consumes one where it heard of more than are consumed
  pub site-consumes-heard : (w : SiteWords) (hs : List Hand) (id t : ℕ) (h : Hand) (p : Heard) → Kept w hs → get_elem? hs id ≡ some h → h.task ≡ Some t → h.heard ≡ Some p → p.taken < p.sent
      → Kept (record w { lines = set w.lines (consumed_at t) (p.taken + 1) }) (set hs id (record h { consumed = h.consumed + 1; heard = None }))
  site-consumes-heard w hs id t h p r at has heard waits = let ok = r.heard id h at p t heard has in let x = ok.0 in let y = ok.1 in
      subst (λ (z : ℕ). Kept (record w { lines = set w.lines (consumed_at t) (z + 1) }) (set hs id (record h { consumed = h.consumed + 1; heard = None }))) x (site-consumes w hs id t h r at has (omega (arith, x, y, waits)))
