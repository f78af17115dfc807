-- For the crates of locks: what a step that takes, ends or downgrades a hold makes of the site's facts, and one of a try that failed. None of them changes a word of the site.
use Rattle.std.proofs.Common.{inl, zero, suc, [], ◌∷◌, ◌≡◌, ◌≢◌, ℕ, ◌+◌, ◌<◌, ◌≤◌, true, false, List, take, get_or, set, None, Some, sym, refl, ap, ◌∙◌, arith}
use mathlib.Core.Option.{some}
use lib.ListN.{get_elem?}
use Rattle.word_bits.specs.LockWords.{Unavailable}
use Rattle.word_bits.specs.Objects.{Obj}
use Rattle.word_bits.specs.Histories.{Plan, Records, state_after}
use Rattle.lock_core.specs.Layout.{SiteWords}
use Rattle.lock_core.specs.Records.{bit}
use Rattle.lock_core.specs.Views.{took, held_weight, alone_weight, held_of, alone_of, writes_of, owed_of, named_of, sent_of, consumed_of}
use Rattle.lock_core.specs.Holding.{missed, released, downgraded}
use Rattle.lock_core.specs.Sites.{HeardOk, HandOk, SiteKept}
use Rattle.lock_core.specs.Totals.{total, total-set, total-same, total-at}
use Rattle.lock_core.specs.Types.{Entry, Hand, Saw, Held, No, Shared, Alone, Stage, Rest, Entered, Logged}
use Rattle.lock_core.specs.ViewParts.{Each, each-set}
use Rattle.lock_core.proofs.RowLaws.{none-some, same-some}
use Rattle.lock_core.proofs.HandLaws.{no-alone, rest-logged, rest-entered, not-both, false-or-true, one-stays, sum-stays}
use Rattle.lock_core.proofs.SeatSteps.{site-rehands}

alone-held : (h : Hand) → alone_of h ≤ held_of h
alone-held h = weights h.held
  where
    weights : (x : Held) → alone_weight x ≤ held_weight x
    weights No = omega arith
    weights Shared = omega arith
    weights Alone = omega arith

alone-all : (hs : List Hand) → total alone_of hs ≤ total held_of hs
alone-all [] = omega arith
alone-all (h ∷ hs) = let a = alone-all hs in let b = alone-held h in omega arith

pub none-alone : (hs : List Hand) → total held_of hs ≡ 0 → total alone_of hs ≡ 0
none-alone hs none = let a = alone-all hs in omega (arith, a, none)

module _ {Call : Type 0} (o : Obj Call) (unavailable : Unavailable) (size : ℕ) (k : Plan) where
  abbrev Kept : SiteWords → List Hand → Type 0
  Kept = SiteKept o unavailable size k

  -- where nobody holds alone, the guarded words represent the state after the log
  pub quiet-state : (w : SiteWords) (hs : List Hand) (r : Kept w hs) → total alone_of hs ≡ 0 → o.Represents (state_after o k r.log) (take size w.guarded)
  quiet-state w hs r none = r.balances.quiet (let a = writing w hs r in omega arith)
    where
      writes-least : (hs : List Hand) → Each (λ h. h.writes ≡ true → h.held ≡ Alone) hs → total writes_of hs ≤ total alone_of hs
      writes-least [] e = omega arith
      writes-least (h ∷ hs) e = let a = writes-least hs (λ j g at. e (suc j) g at) in let b : writes_of h ≤ alone_of h = false-or-true h.writes
          (λ t. let x : alone_of h ≡ 1 = ap alone_weight (e zero h refl t) in let y : writes_of h ≡ 1 = ap bit t in omega arith) (λ f. let y : writes_of h ≡ 0 = ap bit f in omega arith) in omega arith

      writing : (w : SiteWords) (hs : List Hand) → Kept w hs → total writes_of hs ≤ total alone_of hs
      writing w hs r = writes-least hs (λ j h at. (r.each j h at).writer)

  -- a pass that holds nothing is at no step of a commit
  free-rests : (guarded : List ℕ) (next : ℕ) (log : List Entry) (told : Records) (h : Hand) → HandOk o unavailable size k guarded next log told h → h.held ≡ No → h.stage ≡ Rest
  free-rests guarded next log told h ok free = at_rest h.stage refl
    where
      at_rest : (s : Stage) → h.stage ≡ s → h.stage ≡ Rest
      at_rest Rest is = is
      at_rest (Entered e) is = no-alone (sym free ∙ (ok.entered e is).0)
      at_rest (Logged e) is = no-alone (sym free ∙ (ok.logged e is).0)

  -- a hand that holds in another way, or no more
  abbrev reheld : Hand → Held → List ℕ → List Entry → (takes freed : ℕ) → Hand
  reheld h held known log takes freed = record h { held = held; known = known; log = log; takes = takes; freed = freed }

  -- a pass that doesn't write and owes nothing comes to hold in another way, or no more
  site-reholds : (w : SiteWords) (hs : List Hand) (id : ℕ) (h : Hand) (held : Held) (known : List ℕ) (log : List Entry) (takes freed : ℕ) (r : Kept w hs) → get_elem? hs id ≡ some h → h.writes ≡ false → h.stage ≡ Rest → (h.task ≡ None → held ≡ No)
      → (held ≢ No → (known ≡ take size w.guarded) × (log ≡ r.log)) → (0 < total alone_of (set hs id (reheld h held known log takes freed)) → total held_of (set hs id (reheld h held known log takes freed)) ≤ 1) → Kept w (set hs id (reheld h held known log takes freed))
  site-reholds w hs id h held known log takes freed r at quiet rest nameless learns apart = let a = r.each id h at in let b = r.balances in let g : Hand = reheld h held known log takes freed in let P : Hand → Type 0 = HandOk o unavailable size k w.guarded (get_or w.entries w.len 0) r.log r.told in
      let wr = total-same writes_of hs id h g at refl in let owed = total-same owed_of hs id h g at refl in record {
        log = r.log;
        told = r.told;
        laid = r.laid;
        tells = r.tells;
        balances = record {
          apart = apart;
          quiet = λ q. b.quiet (sym wr ∙ q);
          recorded = λ j e there l. b.recorded j e there (omega arith);
          few = let f = b.few in omega arith;
          named = λ u l. one-stays (named_of u) hs id h g _ at refl (b.named u l);
          sent = λ u l. sum-stays (sent_of u) hs id h g _ _ at refl (b.sent u l);
          consumed = λ u l. sum-stays (consumed_of u) hs id h g _ _ at refl (b.consumed u l);
          pending = b.pending;
        };
        heard = each-set (HeardOk w.lines) (HeardOk w.lines) hs id g (r.heard id h at) (λ j v _ _ p. p) r.heard;
        each = each-set P P hs id g record {
          plan = a.plan;
          known = learns;
          writer = λ yes_it. not-both h.writes quiet yes_it;
          seen = a.seen;
          entered = λ e is. rest-entered e (sym rest ∙ is);
          logged = λ e is. rest-logged e (sym rest ∙ is);
          mine = a.mine;
          nameless = λ eq. let n = a.nameless eq in (nameless eq, n.1, n.2);
          knows = a.knows;
          saw = a.saw;
          signals = a.signals;
        } (λ j v _ _ ok. ok) r.each;
      }

  -- a pass with a number, which holds nothing, takes the hold: alone where nobody holds, shared where nobody holds alone
  pub site-takes : (w : SiteWords) (hs : List Hand) (id t : ℕ) (h : Hand) (held : Held) (r : Kept w hs) → get_elem? hs id ≡ some h → h.held ≡ No → h.task ≡ Some t → held ≢ No → (0 < alone_weight held → total held_of hs ≡ 0) → total alone_of hs ≡ 0
      → Kept w (set hs id (took h held (take size w.guarded) r.log))
  site-takes w hs id t h held r at free named takes nobody none = let a = r.each id h at in let g : Hand = took h held (take size w.guarded) r.log in
      let was : held_of h ≡ 0 = ap held_weight free in let was' : alone_of h ≡ 0 = ap alone_weight free in let sum = total-set held_of hs id h g at in let sum' = total-set alone_of hs id h g at in let one = most held in
      let quiet : h.writes ≡ false = false-or-true h.writes (λ yes_it. no-alone (sym free ∙ a.writer yes_it)) (λ f. f) in
      site-reholds w hs id h held (take size w.guarded) r.log (h.takes + 1) h.freed r at quiet (free-rests w.guarded (get_or w.entries w.len 0) r.log r.told h a free) (λ eq. none-some t (sym eq ∙ named)) (λ _. (refl, refl)) (λ l. let z = nobody (omega arith) in omega arith)
    where
      most : (x : Held) → held_weight x ≤ 1
      most No = omega arith
      most Shared = omega arith
      most Alone = omega arith

  -- a failed try keeps the word that it saw
  pub site-misses : (w : SiteWords) (hs : List Hand) (id word step : ℕ) (h : Hand) → Kept w hs → get_elem? hs id ≡ some h → word < 4194304 → Kept w (set hs id (missed h word step))
  site-misses w hs id word step h r at small = let a = r.each id h at in site-rehands o unavailable size k w hs id h (record h { saw = Some (record { word = word; step = step }); misses = h.misses + 1 }) r at (inl refl) record { held = refl; writes = refl; owed = refl; task = refl; sent = refl; consumed = refl } record {
    plan = a.plan;
    known = a.known;
    writer = a.writer;
    seen = a.seen;
    entered = a.entered;
    logged = a.logged;
    mine = a.mine;
    nameless = a.nameless;
    knows = a.knows;
    saw = λ x is. let e : record { word = word; step = step } ≡ x = same-some (record { word = word; step = step }) x is in let f = ap (λ (z : Saw). z.word) e in omega (arith, f, small);
    signals = a.signals;
  }

  -- a pass that doesn't write and owes nothing ends its hold, whoever holds beside it, and keeps the word that it leaves
  pub site-frees : (w : SiteWords) (hs : List Hand) (id word : ℕ) (h : Hand) → Kept w hs → get_elem? hs id ≡ some h → h.writes ≡ false → h.stage ≡ Rest → Kept w (set hs id (released h word))
  site-frees w hs id word h r at quiet rest = let g : Hand = released h word in let sum = total-set held_of hs id h g at in let sum' = total-set alone_of hs id h g at in
      site-reholds w hs id h No [] [] h.takes word r at quiet rest (λ _. refl) (λ n. absurd (n refl)) (λ l. let c = r.balances.apart (omega arith) in omega arith)

  -- a pass that holds alone, doesn't write and owes nothing goes on holding beside others
  pub site-downgrades : (w : SiteWords) (hs : List Hand) (id word : ℕ) (h : Hand) → Kept w hs → get_elem? hs id ≡ some h → h.held ≡ Alone → h.writes ≡ false → h.stage ≡ Rest → Kept w (set hs id (downgraded h word))
  site-downgrades w hs id word h r at alone quiet rest = let a = r.each id h at in let b = r.balances in let g : Hand = downgraded h word in
      let was : held_of h ≡ 1 = ap held_weight alone in let was' : alone_of h ≡ 1 = ap alone_weight alone in let sum = total-set held_of hs id h g at in let sum' = total-set alone_of hs id h g at in let mine = total-at alone_of hs id h at in let all = alone-all hs in
      site-reholds w hs id h Shared h.known h.log h.takes word r at quiet rest (λ eq. no-alone (sym (a.nameless eq).0 ∙ alone)) (λ _. a.known (λ none. no-alone (sym none ∙ alone))) (λ l. let c = b.apart (omega arith) in omega arith)
