-- Calls that reply busy, interrupted or sent have their causes.
use Rattle.std.proofs.Common.{◌≡◌, ◌≢◌, ℕ, zero, suc, ◌+◌, ◌*◌, ◌<◌, ◌≤◌, ◌⊎◌, ◌&&◌, ◌==◌, inl, inr, ⊎_elim, Bool, List, [], ◌∷◌, ◌++◌, length, drop, get_or, set, slice_get, Option, Some, None, refl, sym, ap, ◌∙◌, subst, arith, get_or-set_other}
use Rattle.std.proofs.lemmas.List.{get_or-drop}
use mathlib.Core.Option.{some, some-injective, some-ne-none}
use mathlib.Core.Logic.{dite}
use native.Mathlib.Decide.{ℕ_discrete}
use lib.ListN.{get_elem?}
use Rattle.word_bits.specs.declared.TheConstants.{MAX_TASKS}
use Rattle.word_bits.specs.RecWord.{IsRec, rec_word, kind_of, value_of}
use Rattle.word_bits.specs.LockWords.{Unavailable}
use Rattle.word_bits.specs.Objects.{Obj}
use Rattle.word_bits.specs.Histories.{Plan, Records}
use Rattle.word_bits.specs.Legal.{is_intr, signals_to}
use Rattle.lock_core.specs.declared.layout.TheConstants.{LOCK_WORDS, LINES_AT}
use Rattle.lock_core.specs.Causes.{IsStepDuring, FailedTryDuring, RaisedDuring, IsRecordedThen, HasCause, CallsHaveCauses}
use Rattle.lock_core.specs.Layout.{site}
use Rattle.lock_core.specs.Locked.{IsSiteStepWhere, SamePass, IsGone}
use Rattle.lock_core.specs.Orders.{record_in}
use Rattle.lock_core.specs.Pasts.{ChangesOneWord, EachMoment, Paced, Tail}
use Rattle.lock_core.specs.Plans.{start}
use Rattle.lock_core.specs.Records.{bit, row, is_sent, task_recs, rec_words, task_sends, sends, intrs}
use Rattle.lock_core.specs.Regions.{part-at}
use Rattle.lock_core.specs.Sites.{FailsTry, KeepsSaw, SawSince, StoresRecord, taken_at, sent_at, consumed_at}
use Rattle.lock_core.specs.SiteStated.{IsNew, IsSite, IsSiteThen}
use Rattle.lock_core.specs.Totals.{total}
use Rattle.lock_core.specs.Types.{CallWords, Rec, Reply, Good, Num, Refused, MapErr, AccErr, Busy, Intr, Sent, Hand, Saw, Moment}
use Rattle.lock_core.specs.Views.{stranger, is_number, consumed_weight, named_of, sent_of, consumed_of}
use Rattle.lock_core.proofs.Ascending.{start-same, set-at}
use Rattle.lock_core.proofs.Linearizing.{kind-most, one-last, rest-last, plan-or-not, total-moves}
use Rattle.lock_core.proofs.Opening.{zero-at}
use Rattle.lock_core.proofs.Reading.{rec_word-some, recs-next, same-plan}
use Rattle.lock_core.proofs.RowLaws.{none-some, same-some, get-front, get-behind, length-task_recs}
use Rattle.lock_core.proofs.HandLaws.{is_number-here, is_number-else}
use Rattle.lock_core.proofs.Numbering.{next-short}

-- Records of equal words: as many, and as many interrupted and sent ones

intr-kind : (r : Reply) → is_intr r ≡ (kind_of r == 7)
intr-kind Good = refl
intr-kind (Num n) = refl
intr-kind (Refused e) = refl
intr-kind MapErr = refl
intr-kind AccErr = refl
intr-kind (Busy w) = refl
intr-kind Intr = refl
intr-kind Sent = refl

sent-kind : (r : Reply) → is_sent r ≡ (kind_of r == 8)
sent-kind Good = refl
sent-kind (Num n) = refl
sent-kind (Refused e) = refl
sent-kind MapErr = refl
sent-kind AccErr = refl
sent-kind (Busy w) = refl
sent-kind Intr = refl
sent-kind Sent = refl

same-parts : (x y : Rec) → IsRec x → IsRec y → rec_word x ≡ rec_word y → (kind_of x.reply ≡ kind_of y.reply) × (value_of x.reply ≡ value_of y.reply)
same-parts x y f g e = let a = f.place in let b = g.place in let c = f.value in let d = g.value in let m = kind-most x.reply in let n = kind-most y.reply in (omega (arith, a, b, c, d, m, n, e), omega (arith, a, b, c, d, m, n, e))

-- no more records than calls, each in its range
abbrev Fit : List CallWords → List Rec → Type 0
Fit ws rs = (length rs ≤ length ws) × ((i : ℕ) (r : Rec) → slice_get rs i ≡ Some r → IsRec r)

abbrev Alike : List CallWords → List Rec → List Rec → Type 0
Alike ws a b = (length a ≡ length b) × (intrs a ≡ intrs b) × ((t : ℕ) → task_sends t ws a ≡ task_sends t ws b)

alike : (ws : List CallWords) (a b : List Rec) → Fit ws a → Fit ws b → ((c : ℕ) → c < length ws → get_or (task_recs ws a) c 0 ≡ get_or (task_recs ws b) c 0) → Alike ws a b
alike [] [] [] f g e = (refl, refl, λ t. refl)
alike [] (x ∷ a) b f g e = absurd (let l = f.0 in omega (arith, l))
alike [] [] (y ∷ b) f g e = absurd (let l = g.0 in omega (arith, l))
alike (w ∷ ws) [] [] f g e = (refl, refl, λ t. refl)
alike (w ∷ ws) [] (y ∷ b) f g e = absurd (rec_word-some y (sym (e 0 (omega arith))))
alike (w ∷ ws) (x ∷ a) [] f g e = absurd (rec_word-some x (e 0 (omega arith)))
alike (w ∷ ws) (x ∷ a) (y ∷ b) f g e =
    let f0 = f.0 in let g0 = g.0 in
    let r = alike ws a b (omega (arith, f0), λ i r at. f.1 (suc i) r at) (omega (arith, g0), λ i r at. g.1 (suc i) r at) (λ c l. e (suc c) (omega (arith, l))) in
    let kinds = (same-parts x y (f.1 0 x refl) (g.1 0 y refl) (e 0 (omega arith))).0 in
    let intr : is_intr x.reply ≡ is_intr y.reply = intr-kind x.reply ∙ (ap (λ (z : ℕ). z == 7) kinds ∙ sym (intr-kind y.reply)) in
    let sent : is_sent x.reply ≡ is_sent y.reply = sent-kind x.reply ∙ (ap (λ (z : ℕ). z == 8) kinds ∙ sym (sent-kind y.reply)) in
    (ap suc r.0, (λ i. bit (intr i) + r.1 i), λ t i. task_sends_with t w (sent i) (r.2 t i))
  where
    task_sends_with : ℕ → CallWords → Bool → ℕ → ℕ
    task_sends_with t w is n = bit (is && signals_to t w) + n

recs-at : (k : Plan) (told : Records) (t c : ℕ) → c < length (row k t) → get_or (rec_words k told) (start k t + c) 0 ≡ get_or (task_recs (row k t) (row told t)) c 0
recs-at [] told t c l = absurd (omega (arith, l))
recs-at (ws ∷ wss) [] zero c l = let place : 0 + c ≡ c = omega arith in ap (λ (z : ℕ). get_or (task_recs ws [] ++ rec_words wss []) z 0) place ∙ get-front (task_recs ws []) (rec_words wss []) c (omega (arith, length-task_recs ws [], l))
recs-at (ws ∷ wss) (rs ∷ rss) zero c l = let place : 0 + c ≡ c = omega arith in ap (λ (z : ℕ). get_or (task_recs ws rs ++ rec_words wss rss) z 0) place ∙ get-front (task_recs ws rs) (rec_words wss rss) c (omega (arith, length-task_recs ws rs, l))
recs-at (ws ∷ wss) [] (suc t) c l =
    let place : length ws + start wss t + c ≡ length ws + (start wss t + c) = omega arith in
    ap (λ (z : ℕ). get_or (task_recs ws [] ++ rec_words wss []) z 0) place ∙ (get-behind (task_recs ws []) (rec_words wss []) (length ws) (start wss t + c) (length-task_recs ws []) ∙ recs-at wss [] t c l)
recs-at (ws ∷ wss) (rs ∷ rss) (suc t) c l =
    let place : length ws + start wss t + c ≡ length ws + (start wss t + c) = omega arith in
    ap (λ (z : ℕ). get_or (task_recs ws rs ++ rec_words wss rss) z 0) place ∙ (get-behind (task_recs ws rs) (rec_words wss rss) (length ws) (start wss t + c) (length-task_recs ws rs) ∙ recs-at wss rss t c l)

sends-none : (t : ℕ) (k : Plan) → sends t k [] ≡ 0
sends-none t [] = refl
sends-none t (ws ∷ wss) = refl

task_sends-none : (t : ℕ) (ws : List CallWords) → task_sends t ws [] ≡ 0
task_sends-none t [] = refl
task_sends-none t (w ∷ ws) = refl

sends-alike : (t : ℕ) (k : Plan) (a b : Records) → ((u : ℕ) → task_sends t (row k u) (row a u) ≡ task_sends t (row k u) (row b u)) → sends t k a ≡ sends t k b
sends-alike t [] a b same = refl
sends-alike t (ws ∷ wss) [] [] same = refl
sends-alike t (ws ∷ wss) [] (q ∷ b) same = let x = same 0 in let y = sends-alike t wss [] b (λ u. same (suc u)) in let z = sends-none t wss in let e = task_sends-none t ws in omega (arith, x, y, z, e)
sends-alike t (ws ∷ wss) (p ∷ a) [] same = let x = same 0 in let y = sends-alike t wss a [] (λ u. same (suc u)) in let z = sends-none t wss in let e = task_sends-none t ws in omega (arith, x, y, z, e)
sends-alike t (ws ∷ wss) (p ∷ a) (q ∷ b) same = let x = same 0 in let y = sends-alike t wss a b (λ u. same (suc u)) in omega (arith, x, y)

-- Numbers and signals of a pass

consumed-own : (t n : ℕ) → consumed_weight t (Some t) n ≡ n
consumed-own t zero = refl
consumed-own t (suc n) = let a = consumed-own t n in let b = is_number-here t in omega (arith, a, b)

inside : {X : Type 0} (xs : List X) (j : ℕ) → ((x : X) × (get_elem? xs j ≡ some x)) ⊎ (length xs ≤ j)
inside [] j = inr (omega arith)
inside (x ∷ xs) zero = inl (x, refl)
inside (x ∷ xs) (suc j) = ⊎_elim (λ t. inl t) (λ l. inr (omega (arith, l))) (inside xs j)

has-number : (t : ℕ) (x : Option ℕ) {P : Type 0} → (x ≡ None → P) → (x ≡ Some t → P) → ((u : ℕ) → u ≢ t → x ≡ Some u → P) → P
has-number t None none mine other = none refl
has-number t (Some u) none mine other = dite (ℕ_discrete u t) (λ is. mine (ap Some is)) (λ not_it. other u not_it refl)

-- Steps

lines-at : (k : Plan) (ws : List ℕ) (i : ℕ) → i < 8 * MAX_TASKS → get_or (site k ws).lines i 0 ≡ get_or ws (LOCK_WORDS + (LINES_AT + i)) 0
lines-at k ws i l = part-at (drop LOCK_WORDS ws) LINES_AT (8 * MAX_TASKS) i l ∙ get_or-drop LOCK_WORDS ws (LINES_AT + i) 0

-- where one of the lines' words changes, no other does
one-line : (k : Plan) (ws us : List ℕ) (i j : ℕ) → ChangesOneWord ws us → i < 8 * MAX_TASKS → j < 8 * MAX_TASKS → i ≢ j → get_or (site k us).lines i 0 ≢ get_or (site k ws).lines i 0 → get_or (site k us).lines j 0 ≡ get_or (site k ws).lines j 0
one-line k ws us i j (at, n, is) li lj other changed = dite (ℕ_discrete (LOCK_WORDS + (LINES_AT + j)) at)
    (λ here. absurd (changed (stays i li (λ e. other (omega (arith, e, here))))))
    (λ else_where. stays j lj else_where)
  where
    stays : (i : ℕ) → i < 8 * MAX_TASKS → LOCK_WORDS + (LINES_AT + i) ≢ at → get_or (site k us).lines i 0 ≡ get_or (site k ws).lines i 0
    stays i l not_it = lines-at k us i l ∙ (ap (λ (z : List ℕ). get_or z (LOCK_WORDS + (LINES_AT + i)) 0) is ∙ (get_or-set_other ws at (LOCK_WORDS + (LINES_AT + i)) n 0 not_it ∙ sym (lines-at k ws i l)))

module _ {Call : Type 0} (o : Obj Call) (unavailable : Unavailable) (size word_at : ℕ) (unheld : Bool) (k : Plan) (few : length k ≤ MAX_TASKS) where
  abbrev Holds : Moment → Type 0
  Holds m = IsSite o unavailable size k (site k m.words) m.hands

  abbrev Goes : Moment → Moment → Type 0
  Goes x y = IsSiteStepWhere unheld k word_at x y

  fit : (m : Moment) (r : Holds m) (t : ℕ) → Fit (row k t) (row r.told t)
  fit m r t = (next-short o unavailable k r.log t 0 0 (row k t) (row r.told t) (r.legal t), λ i x at. recs-next o unavailable size k r.log t 0 0 (row k t) (row r.told t) (r.legal t) i x at)

  module _ (x y : Moment) (rx : Holds x) (ry : Holds y) where
    -- where no record is stored, those of each task stay
    rows-stay : (site k y.words).recs ≡ (site k x.words).recs → (t : ℕ) → Alike (row k t) (row ry.told t) (row rx.told t)
    rows-stay same t = alike (row k t) (row ry.told t) (row rx.told t) (fit y ry t) (fit x rx t) (λ c l.
        sym (recs-at k ry.told t c l) ∙ (ap (λ (z : List ℕ). get_or z (start k t + c) 0) (sym ry.records ∙ (same ∙ rx.records)) ∙ recs-at k rx.told t c l))

    module _ (s : Goes x y) where
      -- a pass is the one that moves, or as it was, or new or gone
      came : (j : ℕ) (g : Hand) {P : Type 0} → get_elem? y.hands j ≡ some g → (j ≡ s.id → g ≡ s.after → P) → (get_elem? x.hands j ≡ some g → get_elem? y.steps j ≡ get_elem? x.steps j → P)
          → ((p : Option Plan) (seen : _) → g ≡ stranger p seen → P) → P
      came j g {P} at mine kept fresh = dite (ℕ_discrete j s.id)
          (λ is. mine is (some-injective g s.after (sym at ∙ (ap (get_elem? y.hands) is ∙ s.at'))))
          (λ other. ⊎_elim
          (λ (t : (h : Hand) × (get_elem? x.hands j ≡ some h)). plan-or-not g.plan
          (λ none. ⊎_elim as_before (λ (q : IsGone j t.0 x y). fresh None [] (some-injective g (stranger None []) (sym at ∙ q.hand))) (s.spends j t.0 g other t.1 at none))
          (λ live. as_before (s.others j t.0 g other t.1 at live)))
          (λ beyond. let b = s.born j g beyond at in fresh s.before.plan s.before.seen (some-injective g (stranger s.before.plan s.before.seen) (sym at ∙ b.hand)))
          (inside x.hands j))
        where
          as_before : SamePass j x y → P
          as_before q = kept (sym q.hand ∙ at) q.steps

      -- a sum over the hands changes by what the pass weighs that moves
      moved : (f : Hand → ℕ) → ((p : Option Plan) (seen : _) → f (stranger p seen) ≡ 0) → ((h : Hand) → h.task ≡ None → h.sent ≡ None → h.consumed ≡ 0 → f h ≡ 0) → total f y.hands + f s.before ≡ total f x.hands + f s.after
      moved f idle nameless = total-moves f x.hands y.hands s.id s.before s.after s.at s.at' s.lasts
          (λ j h g other at at'. plan-or-not g.plan
          (λ none. ⊎_elim (as_was j h g at at')
          (λ (q : IsGone j h x y). let a : f g ≡ 0 = ap f (some-injective g (stranger None []) (sym at' ∙ q.hand)) ∙ idle None [] in let n = rx.nameless j h at q.nameless in let b = nameless h q.nameless n.1 n.2 in a ∙ sym b)
          (s.spends j h g other at at' none))
          (λ live. as_was j h g at at' (s.others j h g other at at' live)))
          (λ j g beyond at. let b = s.born j g beyond at in ap f (some-injective g (stranger s.before.plan s.before.seen) (sym at ∙ b.hand)) ∙ idle s.before.plan s.before.seen)
        where
          as_was : (j : ℕ) (h g : Hand) → get_elem? x.hands j ≡ some h → get_elem? y.hands j ≡ some g → SamePass j x y → f g ≡ f h
          as_was j h g at at' q = ap f (some-injective g h (sym at' ∙ (q.hand ∙ at)))

      named-moved : (t : ℕ) → total (named_of t) y.hands + named_of t s.before ≡ total (named_of t) x.hands + named_of t s.after
      named-moved t = moved (named_of t) (λ p seen. refl) (λ h none sent consumed. ap (is_number t) none)

      line-of : (t : ℕ) → t < length k → taken_at t < 8 * MAX_TASKS
      line-of t l = omega (arith, l, few)

      -- who has a number had it before, or had none and took it at this step, which changes no other word
      numbered : (t : ℕ) {P : Type 0} → s.after.task ≡ Some t → (s.before.task ≡ Some t → P)
          → (s.before.task ≡ None → ((j : ℕ) → j < 8 * MAX_TASKS → taken_at t ≢ j → get_or (site k y.words).lines j 0 ≡ get_or (site k x.words).lines j 0) → P) → P
      numbered t {P} named had took = has-number t s.before.task
          (λ none. took none (λ j l other. one-line k x.words y.words (taken_at t) j s.one_word (line-of t below) l other (rises (ap (is_number t) none))))
          had
          (λ u other is. let low = rx.tasks s.id s.before s.at u is in
          let rose = rises (ap (is_number t) is ∙ is_number-else t u other) in
          let same = one-line k x.words y.words (taken_at t) (taken_at u) s.one_word (line-of t below) (line-of u low) (λ e. other (omega (arith, e))) rose in
          let a = named-moved u in let one : named_of u s.before ≡ 1 = ap (is_number u) is ∙ is_number-here u in
          let zero_it : named_of u s.after ≡ 0 = ap (is_number u) named ∙ is_number-else u t (λ e. other (sym e)) in
          let n = rx.numbers u (omega (arith, low, few)) in let m = ry.numbers u (omega (arith, low, few)) in
          let n0 = n.0 in let n1 = n.1 in let m0 = m.0 in absurd (omega (arith, same, a, one, zero_it, n0, n1, m0)))
        where
          below : t < length k
          below = ry.tasks s.id s.after s.at' t named

          rises : named_of t s.before ≡ 0 → get_or (site k y.words).lines (taken_at t) 0 ≢ get_or (site k x.words).lines (taken_at t) 0
          rises zero_it e = let a = named-moved t in let one : named_of t s.after ≡ 1 = ap (is_number t) named ∙ is_number-here t in
              let n = rx.numbers t (omega (arith, below, few)) in let m = ry.numbers t (omega (arith, below, few)) in
              let n0 = n.0 in let m0 = m.0 in let m1 = m.1 in omega (arith, e, a, one, zero_it, n0, m0, m1)

  -- one step more behind
  later-step : (y : Moment) (past : List Moment) (task call : ℕ) (a b : Moment) (h g : Hand) → IsStepDuring past task call a b h g → IsStepDuring (y ∷ past) task call a b h g
  later-step y past task call a b h g s = record { rest = s.rest; is = (suc s.is.0, s.is.1); pass = s.pass; before = s.before; after = s.after; had = s.had; had_steps = s.had_steps; has_steps = s.has_steps; named = s.named; done = s.done }

  later-try : (y : Moment) (past : List Moment) (task call word : ℕ) → FailedTryDuring word_at past task call word → FailedTryDuring word_at (y ∷ past) task call word
  later-try y past task call word q = (q.0, q.1, q.2, q.3, later-step y past task call q.0 q.1 q.2 q.3 q.4, q.5, q.6, q.7)

  later-rise : (y : Moment) (past : List Moment) (task call place : ℕ) → RaisedDuring k past task call place → RaisedDuring k (y ∷ past) task call place
  later-rise y past task call place q = (q.0, q.1, q.2, q.3, later-step y past task call q.0 q.1 q.2 q.3 q.4, q.5)

  -- What a pass keeps of a failed try is of one that it made; if it recorded nothing since, it made it during its task's next call.
  abbrev KeepsTry : Moment → List Moment → Type 0
  KeepsTry m past = (j n t : ℕ) (g : Hand) (saw : Saw) → get_elem? m.hands j ≡ some g → get_elem? m.steps j ≡ some n → g.task ≡ Some t → g.saw ≡ Some saw
      → (saw.step ≤ n) × (g.last < saw.step → FailedTryDuring word_at past t g.done saw.word)

  -- A signal that a pass consumed and hasn't recorded, and one that it sent, is of its task's next call.
  abbrev KeepsConsumed : Moment → List Moment → Type 0
  KeepsConsumed m past = (j t : ℕ) (g : Hand) → get_elem? m.hands j ≡ some g → g.task ≡ Some t → 0 < g.consumed → RaisedDuring k past t g.done (consumed_at t)

  abbrev KeepsSent : Moment → List Moment → Type 0
  KeepsSent m past = (j t target : ℕ) (g : Hand) → get_elem? m.hands j ≡ some g → g.task ≡ Some t → g.sent ≡ Some target → target < MAX_TASKS → RaisedDuring k past t g.done (sent_at target)

  abbrev HaveCauses : Moment → List Moment → Type 0
  HaveCauses m past = (t c : ℕ) (r : Rec) → IsRecordedThen k m t c r → HasCause k word_at past t c r.reply

  module _ (x y : Moment) (rx : Holds x) (ry : Holds y) (s : Goes x y) (past : List Moment) where
    own-step : (t : ℕ) → s.before.task ≡ Some t → (call : ℕ) → s.before.done ≡ call → IsStepDuring (y ∷ x ∷ past) t call x y s.before s.after
    own-step t named call done = record { rest = past; is = (0, refl); pass = s.id; before = s.at; after = s.at'; had = s.had; had_steps = s.had_steps; has_steps = s.has_steps; named = named; done = done }

    -- a step that stores no record leaves the number of calls that are done
    done-stays : (t : ℕ) → s.before.task ≡ Some t → s.after.task ≡ Some t → (site k y.words).recs ≡ (site k x.words).recs → s.before.done ≡ s.after.done
    done-stays t was is same = rx.done s.id s.before s.at t was ∙ (sym (rows-stay x y rx ry same t).0 ∙ sym (ry.done s.id s.after s.at' t is))

    abbrev Stored : Type 0
    Stored = StoresRecord unheld (s.had + 1) (site k x.words) (site k y.words) s.before s.after

    -- the step stores a record or none
    stores : {P : Type 0} → ((site k y.words).recs ≡ (site k x.words).recs → s.after.last ≡ s.before.last → P) → (Stored → P) → P
    stores none one = ⊎_elim (λ same. none same.0 same.1) one s.steps.records

    try-step : KeepsTry x (x ∷ past) → KeepsTry y (y ∷ x ∷ past)
    try-step before j n t g saw at steps named seen = came x y rx ry s j g at mine
        (λ kept same. let b = before j n t g saw kept (sym same ∙ steps) named seen in (b.0, λ l. later-try y (x ∷ past) t g.done saw.word (b.1 l)))
        (λ p old is. none-some saw (sym (ap (λ (z : Hand). z.saw) is) ∙ seen))
      where
        Mine : Type 0
        Mine = (saw.step ≤ n) × (g.last < saw.step → FailedTryDuring word_at (y ∷ x ∷ past) t g.done saw.word)

        mine : j ≡ s.id → g ≡ s.after → Mine
        mine here is = ⊎_elim keeps fails s.tries
          where
            counted : n ≡ s.had + 1
            counted = some-injective n (s.had + 1) (sym steps ∙ (ap (get_elem? y.steps) here ∙ s.has_steps))

            now : s.after.saw ≡ Some saw
            now = sym (ap (λ (z : Hand). z.saw) is) ∙ seen

            its : s.after.task ≡ Some t
            its = sym (ap (λ (z : Hand). z.task) is) ∙ named

            keeps : KeepsSaw s.before s.after → Mine
            keeps q = ⊎_elim
                (λ (same : (s.after.saw ≡ s.before.saw) × (s.after.task ≡ s.before.task)).
                let was = sym same.1 ∙ its in
                let b = before s.id s.had t s.before saw s.at s.had_steps was (sym same.0 ∙ now) in let low = b.0 in (
                  omega (arith, low, counted),
                  λ l. stores
                      (λ recs last. let d = done-stays t was its recs ∙ sym (ap (λ (z : Hand). z.done) is) in
                      subst (λ (z : ℕ). FailedTryDuring word_at (y ∷ x ∷ past) t z saw.word) d
                      (later-try y (x ∷ past) t s.before.done saw.word (b.1 (let e = ap (λ (z : Hand). z.last) is in omega (arith, l, e, last)))))
                      (λ q. let e = ap (λ (z : Hand). z.last) is in let last = q.last in absurd (omega (arith, l, e, last, low))),
                ))
                (λ gone. none-some saw (sym gone ∙ now)) q.1

            fails : FailsTry (s.had + 1) (get_or x.words word_at 0) s.before s.after → Mine
            fails q = let found = same-some (record { word = get_or x.words word_at 0; step = s.had + 1 }) saw (sym q.saw ∙ now) in
                let at_step = ap (λ (z : Saw). z.step) found in let was = sym q.task ∙ its in (
                  omega (arith, at_step, counted),
                  λ l. stores
                      (λ recs last. let d = done-stays t was its recs ∙ sym (ap (λ (z : Hand). z.done) is) in
                      (x, y, s.before, s.after, own-step t was g.done d, q.out, q.counts, ap (λ (z : Saw). z.word) found))
                      (λ q. let e = ap (λ (z : Hand). z.last) is in let last = q.last in absurd (omega (arith, l, e, last, at_step))),
                )

    consumed-step : KeepsConsumed x (x ∷ past) → KeepsConsumed y (y ∷ x ∷ past)
    consumed-step before j t g at named some_one = came x y rx ry s j g at mine
        (λ kept same. later-rise y (x ∷ past) t g.done (consumed_at t) (before j t g kept named some_one))
        (λ p old is. let e = ap (λ (z : Hand). z.consumed) is in absurd (omega (arith, some_one, e)))
      where
        Mine : Type 0
        Mine = RaisedDuring k (y ∷ x ∷ past) t g.done (consumed_at t)

        mine : j ≡ s.id → g ≡ s.after → Mine
        mine here is = stores
            (λ recs last. numbered x y rx ry s t its
            (λ was. let d = done-stays t was its recs ∙ sym (ap (λ (z : Hand). z.done) is) in dite (ℕ_discrete s.before.consumed 0)
            (λ none. (x, y, s.before, s.after, own-step t was g.done d, rises recs (ap (consumed_weight t s.before.task) none)))
            (λ more. subst (λ (z : ℕ). RaisedDuring k (y ∷ x ∷ past) t z (consumed_at t)) d (later-rise y (x ∷ past) t s.before.done (consumed_at t) (before s.id t s.before s.at was (omega (arith, more))))))
            (λ none stay. let nothing = (rx.nameless s.id s.before s.at none).2 in
            let same = stay (consumed_at t) (omega (arith, below, few)) (λ e. omega (arith, e)) in let up = rises recs (ap (consumed_weight t s.before.task) nothing) in absurd (omega (arith, same, up))))
            (λ q. let c = q.settled.1 in let e = ap (λ (z : Hand). z.consumed) is in absurd (omega (arith, some_one, c, e)))
          where
            its : s.after.task ≡ Some t
            its = sym (ap (λ (z : Hand). z.task) is) ∙ named

            below : t < length k
            below = ry.tasks s.id s.after s.at' t its

            rises : (site k y.words).recs ≡ (site k x.words).recs → consumed_of t s.before ≡ 0 → get_or (site k x.words).lines (consumed_at t) 0 < get_or (site k y.words).lines (consumed_at t) 0
            rises recs none =
                let a = moved x y rx ry s (consumed_of t) (λ p seen. refl) (λ h nameless sent consumed. ap (consumed_weight t h.task) consumed) in
                let b : consumed_of t s.after ≡ s.after.consumed = ap (λ (z : Option ℕ). consumed_weight t z s.after.consumed) its ∙ consumed-own t s.after.consumed in
                let c = ap (λ (z : Hand). z.consumed) is in let n = rx.consumed t (omega (arith, below, few)) in let m = ry.consumed t (omega (arith, below, few)) in
                let e = (rows-stay x y rx ry recs t).1 in omega (arith, a, b, c, n, m, e, none, some_one)

    sent-step : KeepsSent x (x ∷ past) → KeepsSent y (y ∷ x ∷ past)
    sent-step before j t target g at named sends_it inside_it = came x y rx ry s j g at mine
        (λ kept same. later-rise y (x ∷ past) t g.done (sent_at target) (before j t target g kept named sends_it inside_it))
        (λ p old is. none-some target (sym (ap (λ (z : Hand). z.sent) is) ∙ sends_it))
      where
        Mine : Type 0
        Mine = RaisedDuring k (y ∷ x ∷ past) t g.done (sent_at target)

        mine : j ≡ s.id → g ≡ s.after → Mine
        mine here is = stores
            (λ recs last. numbered x y rx ry s t its
            (λ was. let d = done-stays t was its recs ∙ sym (ap (λ (z : Hand). z.done) is) in has-number target s.before.sent
            (λ none. (x, y, s.before, s.after, own-step t was g.done d, rises recs (ap (is_number target) none)))
            (λ same. subst (λ (z : ℕ). RaisedDuring k (y ∷ x ∷ past) t z (sent_at target)) d (later-rise y (x ∷ past) t s.before.done (sent_at target) (before s.id t target s.before s.at was same inside_it)))
            (λ u other to. (x, y, s.before, s.after, own-step t was g.done d, rises recs (ap (is_number target) to ∙ is_number-else target u other))))
            (λ none stay. let nothing = (rx.nameless s.id s.before s.at none).1 in
            let same = stay (sent_at target) (omega (arith, inside_it)) (λ e. omega (arith, e)) in let up = rises recs (ap (is_number target) nothing) in absurd (omega (arith, same, up))))
            (λ q. none-some target (sym q.settled.0 ∙ now))
          where
            its : s.after.task ≡ Some t
            its = sym (ap (λ (z : Hand). z.task) is) ∙ named

            now : s.after.sent ≡ Some target
            now = sym (ap (λ (z : Hand). z.sent) is) ∙ sends_it

            rises : (site k y.words).recs ≡ (site k x.words).recs → sent_of target s.before ≡ 0 → get_or (site k x.words).lines (sent_at target) 0 < get_or (site k y.words).lines (sent_at target) 0
            rises recs none =
                let a = moved x y rx ry s (sent_of target) (λ p seen. refl) (λ h nameless sent consumed. ap (is_number target) sent) in
                let b : sent_of target s.after ≡ 1 = ap (is_number target) now ∙ is_number-here target in
                let n = rx.sent target inside_it in let m = ry.sent target inside_it in
                let e = sends-alike target k ry.told rx.told (λ u. (rows-stay x y rx ry recs u).2 target) in omega (arith, a, b, n, m, e, none)

    cause-step : KeepsTry x (x ∷ past) → KeepsConsumed x (x ∷ past) → KeepsSent x (x ∷ past) → HaveCauses x (x ∷ past) → HaveCauses y (y ∷ x ∷ past)
    cause-step tries consumes sends_it before t c r is = record {
      busy = λ word reply. found t c r is
          (λ old. later-try y (x ∷ past) t c word ((before t c r old).busy word reply))
          (λ q named done kind value. let same = busy-is q.rec.reply word (sym kind ∙ ap kind_of reply) (sym value ∙ ap value_of reply) in tried-then t c word named done (q.busy word same));
      interrupted = λ reply. found t c r is
          (λ old. later-rise y (x ∷ past) t c (consumed_at t) ((before t c r old).interrupted reply))
          (λ q named done kind value. let w = q.interrupted (intr-is q.rec.reply (sym kind ∙ ap kind_of reply)) in let one = w.0 in
          later-rise y (x ∷ past) t c (consumed_at t) (subst (λ (z : ℕ). RaisedDuring k (x ∷ past) t z (consumed_at t)) done (consumes s.id t s.before s.at named (omega (arith, one)))));
      tried = λ reply. found t c r is
          (λ old. let q = (before t c r old).tried reply in (q.0, later-try y (x ∷ past) t c q.0 q.1))
          (λ q named done kind value. let w = q.interrupted (intr-is q.rec.reply (sym kind ∙ ap kind_of reply)) in (w.1.0, tried-then t c w.1.0 named done w.1.1));
      sent = λ reply. found t c r is
          (λ old. let q = (before t c r old).sent reply in (q.0, q.1, q.2, q.3, λ l. later-rise y (x ∷ past) t c (sent_at q.1) (q.4 l)))
          (λ q named done kind value. let w = q.sent (sent-is q.rec.reply (sym kind ∙ ap kind_of reply)) in
          let task = same-some q.task t (sym q.named ∙ named) in
          let plan : q.plan ≡ k = same-plan o unavailable size k s.before q.plan (rx.plans s.id s.before s.at) q.planned in
          (w.0, w.1, (λ i. slice_get (row (sym plan i) (sym task i)) (sym done i)) ∙ w.2, w.3, λ l. later-rise y (x ∷ past) t c (sent_at w.1) (subst (λ (z : ℕ). RaisedDuring k (x ∷ past) t z (sent_at w.1)) done (sends_it s.id t w.1 s.before s.at named w.4 l))));
    }
      where
        busy-is : (reply : Reply) (word : ℕ) → kind_of reply ≡ 6 → value_of reply ≡ word → reply ≡ Busy word
        busy-is Good word e f = absurd (omega (arith, e))
        busy-is (Num n) word e f = absurd (omega (arith, e))
        busy-is (Refused n) word e f = absurd (omega (arith, e))
        busy-is MapErr word e f = absurd (omega (arith, e))
        busy-is AccErr word e f = absurd (omega (arith, e))
        busy-is (Busy w) word e f = ap Busy f
        busy-is Intr word e f = absurd (omega (arith, e))
        busy-is Sent word e f = absurd (omega (arith, e))

        intr-is : (reply : Reply) → kind_of reply ≡ 7 → reply ≡ Intr
        intr-is Good e = absurd (omega (arith, e))
        intr-is (Num n) e = absurd (omega (arith, e))
        intr-is (Refused n) e = absurd (omega (arith, e))
        intr-is MapErr e = absurd (omega (arith, e))
        intr-is AccErr e = absurd (omega (arith, e))
        intr-is (Busy w) e = absurd (omega (arith, e))
        intr-is Intr e = refl
        intr-is Sent e = absurd (omega (arith, e))

        sent-is : (reply : Reply) → kind_of reply ≡ 8 → reply ≡ Sent
        sent-is Good e = absurd (omega (arith, e))
        sent-is (Num n) e = absurd (omega (arith, e))
        sent-is (Refused n) e = absurd (omega (arith, e))
        sent-is MapErr e = absurd (omega (arith, e))
        sent-is AccErr e = absurd (omega (arith, e))
        sent-is (Busy w) e = absurd (omega (arith, e))
        sent-is Intr e = absurd (omega (arith, e))
        sent-is Sent e = refl

        -- the record was there before, or is the one that this step stores
        found : (t c : ℕ) (r : Rec) {P : Type 0} → IsRecordedThen k y t c r → (IsRecordedThen k x t c r → P)
            → ((q : Stored) → s.before.task ≡ Some t → s.before.done ≡ c → kind_of r.reply ≡ kind_of q.rec.reply → value_of r.reply ≡ value_of q.rec.reply → P) → P
        found t c r {P} is old new = stores
            (λ recs last. old (record { planned = is.planned; fits = is.fits; recorded = ap (λ (z : List ℕ). get_or z (start k t + c) 0) (sym recs) ∙ is.recorded }))
            (λ q. one q (same-plan o unavailable size k s.before q.plan (rx.plans s.id s.before s.at) q.planned))
          where
            one : (q : Stored) → q.plan ≡ k → P
            one q plan =
                let place : q.task ≡ q.task = refl in
                let stored : (site k y.words).recs ≡ set (site k x.words).recs (start k q.task + s.before.done) (rec_word q.rec) = q.stored ∙ ap (λ (z : Plan). set (site k x.words).recs (start z q.task + s.before.done) (rec_word q.rec)) plan in
                let room : s.before.done < length (row k q.task) = subst (λ (z : Plan). s.before.done < length (row z q.task)) plan q.next in
                let now : get_or (set (site k x.words).recs (start k q.task + s.before.done) (rec_word q.rec)) (start k t + c) 0 ≡ rec_word r = ap (λ (z : List ℕ). get_or z (start k t + c) 0) (sym stored) ∙ is.recorded in
                ⊎_elim
                (λ (mine : (start k t + c ≡ start k q.task + s.before.done) × (get_or (set (site k x.words).recs (start k q.task + s.before.done) (rec_word q.rec)) (start k t + c) 0 ≡ rec_word q.rec)).
                let own = start-same k t q.task c s.before.done is.planned room mine.0 in let parts = same-parts r q.rec is.fits q.fits (sym now ∙ mine.1) in
                new q (q.named ∙ ap Some (sym own.0)) (sym own.1) parts.0 parts.1)
                (λ (other : (start k t + c ≢ start k q.task + s.before.done) × (get_or (set (site k x.words).recs (start k q.task + s.before.done) (rec_word q.rec)) (start k t + c) 0 ≡ get_or (site k x.words).recs (start k t + c) 0)).
                old (record { planned = is.planned; fits = is.fits; recorded = sym other.1 ∙ now }))
                (set-at (site k x.words).recs (start k q.task + s.before.done) (start k t + c) (rec_word q.rec) (λ e. rec_word-some r (sym now ∙ e)))

        tried-then : (t c word : ℕ) → s.before.task ≡ Some t → s.before.done ≡ c → SawSince s.before word → FailedTryDuring word_at (y ∷ x ∷ past) t c word
        tried-then t c word named done q =
            let b = tries s.id s.had t s.before q.0 s.at s.had_steps named q.1 in
            later-try y (x ∷ past) t c word (subst (λ (z : ℕ × ℕ). FailedTryDuring word_at (x ∷ past) t z.0 z.1) (λ i. (done i, q.2 i)) (b.1 q.3))

  module _ (new : Moment) (is_new : IsNew o size k new) where
    abbrev All : Moment → List Moment → Type 0
    All m past = KeepsTry m past × KeepsConsumed m past × KeepsSent m past × HaveCauses m past

    -- the one pass of a new table has seen nothing
    at-first : (m : Moment) (j : ℕ) (g : Hand) {P : Type 0} → m ≡ new → get_elem? m.hands j ≡ some g → (g ≡ stranger (Some k) [] → P) → P
    at-first m j g {P} is at first = one j (sym (ap (λ (z : Moment). get_elem? z.hands j) is ∙ ap (λ (z : List Hand). get_elem? z j) is_new.hands) ∙ at)
      where
        one : (j : ℕ) → get_elem? (stranger (Some k) [] ∷ []) j ≡ some g → P
        one zero e = first (sym (some-injective (stranger (Some k) []) g e))
        one (suc j) e = absurd (some-ne-none g (sym e))

    opened : (m : Moment) → m ≡ new → All m (m ∷ [])
    opened m is = (
      λ j n t g saw at steps named seen. at-first m j g is at (λ e. none-some saw (sym (ap (λ (z : Hand). z.saw) e) ∙ seen)),
      λ j t g at named some_one. at-first m j g is at (λ e. let c = ap (λ (z : Hand). z.consumed) e in absurd (omega (arith, some_one, c))),
      λ j t target g at named sends_it inside_it. at-first m j g is at (λ e. none-some target (sym (ap (λ (z : Hand). z.sent) e) ∙ sends_it)),
      λ t c r recorded. nothing t c r recorded,
    )
      where
        nothing : (t c : ℕ) (r : Rec) {P : Type 0} → IsRecordedThen k m t c r → P
        nothing t c r recorded = absurd (rec_word-some r (sym recorded.recorded ∙ (ap (λ (z : Moment). record_in k z t c) is ∙ (ap (λ (z : List ℕ). get_or z (start k t + c) 0) is_new.recorded ∙ zero-at _ (start k t + c)))))

    walk : (m : Moment) (past : List Moment) → EachMoment (IsSiteThen o unavailable size k) (m ∷ past) → Paced Goes (m ∷ past) → Tail (new ∷ []) (m ∷ past) → All m (m ∷ past)
    walk m [] always paced began = opened m (one-last new m began)
    walk y (x ∷ past) always paced began =
        let q = walk x past always.1 paced.1 (rest-last new y x past began) in
        let rx = always.1.0 in let ry = always.0 in
        (try-step x y rx ry paced.0 past q.0, consumed-step x y rx ry paced.0 past q.1, sent-step x y rx ry paced.0 past q.2, cause-step x y rx ry paced.0 past q.0 q.1 q.2 q.3)

pub calls_have_causes : {Call : Type 0} (o : Obj Call) (unavailable : Unavailable) (size word_at : ℕ) → CallsHaveCauses o unavailable size word_at
calls_have_causes o unavailable size word_at unheld k new now before few always paced is_new began =
    (walk o unavailable size word_at unheld k few new is_new now before always paced began).3
