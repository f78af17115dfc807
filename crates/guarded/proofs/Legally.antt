-- A snapshot of an object whose calls are all done is a legal history.
use Rattle.std.proofs.Common.{◌≡◌, ℕ, zero, suc, ◌+◌, ◌<◌, ◌≤◌, inl, inr, Bool, true, false, List, [], ◌∷◌, ◌++◌, length, map, slice_get, Some, refl, sym, ap, ◌∙◌, subst, arith, add-zero}
use Rattle.std.specs.Prelude.{count_by, flat_map}
use Rattle.std.specs.List.{AllByRecursion}
use Rattle.word_bits.specs.EntryWord.{IsEntry}
use Rattle.word_bits.specs.RecWord.{IsRec, rec_word}
use Rattle.word_bits.specs.Snapshots.{Words}
use Rattle.guarded.proofs.Once.{logged-once}
use Rattle.std.proofs.lemmas.Grind.{common_steps}
use Rattle.word_bits.specs.LockWords.{Unavailable}
use Rattle.word_bits.specs.Objects.{Obj}
use Rattle.word_bits.specs.Histories.{Plan, Records, logs}
use Rattle.word_bits.specs.Legal.{IsLegal, IsRecord, IsUnheldReply, AreTaskRecords, AreRecords, seen_after, is_intr}
use Rattle.lock_core.specs.Records.{row, bit, intrs, AreNext}
use Rattle.lock_core.proofs.RowLaws.{none-some, same-some, some-inside, row-task}
use Rattle.lock_core.proofs.Recording.{entry-fits}
use Rattle.lock_core.specs.Plans.{IsSmall}
use Rattle.guarded.specs.Gathering.{AreExact, IsGathered}
use Rattle.lock_core.specs.Shown.{Shown}
use Rattle.lock_core.specs.Chronicles.{Chronicles}
use Rattle.guarded.specs.ObjectCopying.{Copies, AreRecWords, GatheredIsHistory, joined}
use Rattle.guarded.specs.Types.{CallWords, Entry, Rec, Hand, Moment}

module _ {Call : Type 0} (o : Obj Call) (unavailable : Unavailable) (k : Plan) (log : List Entry) where
  exact-record : (e : Entry) (seen : ℕ) (w : CallWords) (r : Rec) → IsRecord o unavailable k log r.k e w r → (IsUnheldReply o unavailable w r.reply → r.k ≡ seen) → IsRecord o unavailable k log seen e w r
  exact-record e seen w r (inl t) exact = inl t
  exact-record e seen w r (inr (inl t)) exact = inr (inl t)
  exact-record e seen w r (inr (inr t)) exact = inr (inr record { reply = t.reply; place = exact t.reply; within = t.within })

  -- what the rule says of a task's records, and that those of calls that never held are exact
  pub task-records : (t c seen : ℕ) (ws : List CallWords) (rs : List Rec) → AreNext o unavailable k log t c seen ws rs → AreExact o unavailable seen ws rs → length rs ≡ length ws → AreTaskRecords o unavailable k log t c seen ws rs
  task-records t c seen [] [] next exact many = tt
  task-records t c seen [] (r ∷ rs) next exact many = absurd next
  task-records t c seen (w ∷ ws) [] next exact many = absurd (omega (arith, many))
  task-records t c seen (w ∷ ws) (r ∷ rs) next exact many =
      (exact-record (record { task = t; call = c }) seen w r next.0.means exact.0, next.0.after, task-records t (c + 1) (seen_after (logs o w r.reply) r) ws rs next.1 exact.1 (omega (arith, many)))

  pub all-records : (t : ℕ) (wss : Plan) (rss : Records) → length rss ≡ length wss → ((u : ℕ) → u < length wss → AreTaskRecords o unavailable k log (t + u) 0 0 (row wss u) (row rss u)) → AreRecords o unavailable k log t wss rss
  all-records t [] [] many each = tt
  all-records t [] (rs ∷ rss) many each = absurd (omega (arith, many))
  all-records t (ws ∷ wss) [] many each = absurd (omega (arith, many))
  all-records t (ws ∷ wss) (rs ∷ rss) many each = (
    subst (λ n. AreTaskRecords o unavailable k log n 0 0 ws rs) (add-zero t) (each 0 (omega arith)),
    all-records (t + 1) wss rss (omega (arith, many)) (λ u l. subst (λ n. AreTaskRecords o unavailable k log n 0 0 (row wss u) (row rss u)) (let e : t + suc u ≡ t + 1 + u = omega arith in e) (each (suc u) (omega (arith, l)))),
  )

-- two lists of records with the same members at each place
same-list : (xs ys : List Rec) → length xs ≡ length ys → ((i : ℕ) (x : Rec) → slice_get xs i ≡ Some x → slice_get ys i ≡ Some x) → xs ≡ ys
same-list [] [] many each = refl
same-list [] (y ∷ ys) many each = absurd (omega (arith, many))
same-list (x ∷ xs) [] many each = absurd (omega (arith, many))
same-list (x ∷ xs) (y ∷ ys) many each = let here = same-some y x (each 0 x refl) in let rest = same-list xs ys (omega (arith, many)) (λ i z at. each (suc i) z at) in λ i. sym here i ∷ rest i

next-short : {Call : Type 0} (o : Obj Call) (unavailable : Unavailable) (k : Plan) (log : List Entry) (t c seen : ℕ) (ws : List CallWords) (rs : List Rec) → AreNext o unavailable k log t c seen ws rs → length rs ≤ length ws
next-short o unavailable k log t c seen ws [] next = omega arith
next-short o unavailable k log t c seen [] (r ∷ rs) next = absurd next
next-short o unavailable k log t c seen (w ∷ ws) (r ∷ rs) next = let l = next-short o unavailable k log t (c + 1) (seen_after (logs o w r.reply) r) ws rs next.1 in omega (arith, l)

some-of : (xs : List Rec) (i : ℕ) (x : Rec) → slice_get xs i ≡ Some x → i < length xs
some-of [] i x at = none-some x at
some-of (y ∷ xs) zero x at = omega arith
some-of (y ∷ xs) (suc i) x at = let l = some-of xs i x at in omega (arith, l)

all-there : (xs ys : List Rec) → ((i : ℕ) (x : Rec) → slice_get xs i ≡ Some x → slice_get ys i ≡ Some x) → length xs ≤ length ys
all-there [] ys each = omega arith
all-there (x ∷ xs) [] each = none-some x (each 0 x refl)
all-there (x ∷ xs) (y ∷ ys) each = let l = all-there xs ys (λ i z at. each (suc i) z at) in omega (arith, l)

module _ {Call : Type 0} (o : Obj Call) (unavailable : Unavailable) (k : Plan) (h : Hand) (log : List Entry) (chronicle : Chronicles o unavailable k h.records log) (gathered : IsGathered o unavailable k h) where
  -- the records that there are are those that the tasks made
  pub told-is : (t : ℕ) → t < length k → row gathered.made t ≡ row chronicle.told t
  told-is t l =
      let in-place = λ (c : ℕ) (r : Rec) (at : slice_get (row gathered.made t) c ≡ Some r). let known = (gathered.done t l).known c r at in chronicle.knows known.0 (record { entry = record { task = t; call = c }; rec = r }) known.1 in
      let fewer = all-there (row gathered.made t) (row chronicle.told t) in-place in
      let short = next-short o unavailable k log t 0 0 (row k t) (row chronicle.told t) (chronicle.legal t) in
      let all = gathered.all t in
      same-list (row gathered.made t) (row chronicle.told t) (omega (arith, fewer, short, all)) in-place

  -- each call has exactly one record, which says what it replied; those that never held stand at what their task had seen
  pub recorded : AreRecords o unavailable k log 0 k chronicle.told
  recorded = all-records o unavailable k log 0 k chronicle.told chronicle.tasks (λ t l. subst (λ n. AreTaskRecords o unavailable k log n 0 0 (row k t) (row chronicle.told t)) (let e : t ≡ 0 + t = omega arith in e)
      (task-records o unavailable k log t 0 0 (row k t) (row chronicle.told t) (chronicle.legal t) (subst (λ rs. AreExact o unavailable 0 (row k t) rs) (told-is t l) (gathered.done t l).exact) (let e = ap length (told-is t l) in let all = gathered.all t in omega (arith, e, all))))

intrs-count : (rs : List Rec) → count_by (λ r. is_intr r.reply) rs ≡ intrs rs
intrs-count [] = refl
intrs-count (r ∷ rs) = let e = intrs-count rs in go (is_intr r.reply) refl e
  where
    go : (b : Bool) → is_intr r.reply ≡ b → count_by (λ r. is_intr r.reply) rs ≡ intrs rs → count_by (λ r. is_intr r.reply) (r ∷ rs) ≡ bit (is_intr r.reply) + intrs rs
    go true e f = grind (arith, common_steps)
    go false e f = grind (arith, common_steps)

same-words : (ws : List ℕ) (rs : List Rec) → length ws ≡ length rs → ((c : ℕ) (r : Rec) → slice_get rs c ≡ Some r → slice_get ws c ≡ Some (rec_word r)) → ws ≡ map rec_word rs
same-words [] [] many each = refl
same-words [] (r ∷ rs) many each = absurd (omega (arith, many))
same-words (w ∷ ws) [] many each = absurd (omega (arith, many))
same-words (w ∷ ws) (r ∷ rs) many each = let here = same-some w (rec_word r) (each 0 r refl) in let rest = same-words ws rs (omega (arith, many)) (λ c x at. each (suc c) x at) in λ i. here i ∷ rest i

rows-are : (rows : List (List ℕ)) (told : Records) → length rows ≡ length told → ((t : ℕ) → t < length told → row rows t ≡ map rec_word (row told t)) → joined rows ≡ flat_map (map rec_word) told
rows-are [] [] many each = refl
rows-are [] (rs ∷ told) many each = absurd (omega (arith, many))
rows-are (ws ∷ rows) [] many each = absurd (omega (arith, many))
rows-are (ws ∷ rows) (rs ∷ told) many each = let here = each 0 (omega arith) in let rest = rows-are rows told (omega (arith, many)) (λ t l. each (suc t) (omega (arith, l))) in λ i. here i ++ rest i

get-row : {X : Type 0} (xss : List (List X)) (t : ℕ) (xs : List X) → slice_get xss t ≡ Some xs → row xss t ≡ xs
get-row [] t xs at = none-some xs at
get-row (ys ∷ xss) zero xs at = same-some ys xs at
get-row (ys ∷ xss) (suc t) xs at = get-row xss t xs at

module _ {Call : Type 0} (o : Obj Call) (unavailable : Unavailable) (k : Plan) (v u : Shown) (w : Words) (copies : Copies o unavailable k v u w) (gathered : IsGathered o unavailable k v.hand) where
  -- a copy that was made when all calls were done is a legal history
  pub is-legal : IsLegal o unavailable k copies.chronicle.told copies.entries w.state
  is-legal = let c = copies.chronicle in record {
    recorded = recorded o unavailable k v.hand copies.entries c gathered;
    logged = logged-once o unavailable k copies.entries c.told c.legal c.logged;
    interrupted = λ t rs at. let few = c.interrupted t in let same = ap intrs (get-row c.told t rs at) in let count = intrs-count rs in omega (arith, few, same, count);
    stored = copies.state_is;
  }

  pub recs-are : w.recs ≡ flat_map (map rec_word) copies.chronicle.told
  recs-are = let c = copies.chronicle in copies.recs_are ∙ rows-are copies.rows c.told (copies.words.many ∙ sym c.tasks) (λ t l.
      let many = c.tasks in let inside : t < length k = omega (arith, l, many) in
      let task = copies.words.each t inside in
      same-words (row copies.rows t) (row gathered.made t) (task.many ∙ sym (gathered.all t)) (λ n r at. task.known n r (let short = some-of (row gathered.made t) n r at in let all = gathered.all t in omega (arith, short, all)) ((gathered.done t inside).known n r at))
      ∙ ap (map rec_word) (told-is o unavailable k v.hand copies.entries c gathered t inside))

-- the records of a task fit into words
all-fit : {Call : Type 0} (o : Obj Call) (unavailable : Unavailable) (k : Plan) (log : List Entry) (t c seen : ℕ) (ws : List CallWords) (rs : List Rec) → AreNext o unavailable k log t c seen ws rs → AllByRecursion IsRec rs
all-fit o unavailable k log t c seen ws [] next = tt
all-fit o unavailable k log t c seen [] (r ∷ rs) next = absurd next
all-fit o unavailable k log t c seen (w ∷ ws) (r ∷ rs) next = (next.0.fits, all-fit o unavailable k log t (c + 1) (seen_after (logs o w r.reply) r) ws rs next.1)

each-row : {X : Type 0} (P : List X → Type 0) (xss : List (List X)) → ((t : ℕ) → t < length xss → P (row xss t)) → AllByRecursion P xss
each-row P [] each = tt
each-row P (xs ∷ xss) each = (each 0 (omega arith), each-row P xss (λ t l. each (suc t) (omega (arith, l))))

each-there : {X : Type 0} (P : X → Type 0) (xs : List X) → ((i : ℕ) (x : X) → slice_get xs i ≡ Some x → P x) → AllByRecursion P xs
each-there P [] each = tt
each-there P (x ∷ xs) each = (each 0 x refl, each-there P xs (λ i y at. each (suc i) y at))

-- the same words for a pass that knows the same records
pub words-same : (k : Plan) (h g : Hand) (old new : List Moment) (count : ℕ) (rows : List (List ℕ)) → g.records ≡ h.records → AreRecWords k h old new count rows → AreRecWords k g old new count rows
words-same k h g old new count rows same are = record {
  many = are.many;
  each = λ t l. let task = are.each t l in record {
    many = task.many;
    known = λ c r inside knows. task.known c r inside (knows.0, ap (λ xs. slice_get xs knows.0) (sym same) ∙ knows.1);
    made = task.made;
    found = task.found;
  };
}

-- so the copy has the words of a legal history, whose records the pass knows
pub is-history : {Call : Type 0} (o : Obj Call) (unavailable : Unavailable) (k : Plan) (v u : Shown) (w : Words) → IsSmall k → Copies o unavailable k v u w → GatheredIsHistory o unavailable k v.hand w
is-history o unavailable k v u w small copies gathered = let c = copies.chronicle in (
  c.told,
  copies.entries,
  record {
    recs = recs-are o unavailable k v u w copies gathered;
    fit = each-row (AllByRecursion IsRec) c.told (λ t l. all-fit o unavailable k copies.entries t 0 0 (row k t) (row c.told t) (c.legal t));
    log = copies.log_is;
    entered = each-there IsEntry copies.entries (λ j e at. let l = c.logged j e at in entry-fits k e.task e.call small (some-inside (row k e.task) e.call l.words l.planned));
  },
  is-legal o unavailable k v u w copies gathered,
  λ t n r at.
      let task = row-task c.told t n (some-inside (row c.told t) n r at) in
      let many = c.tasks in
      let inside : t < length k = omega (arith, task, many) in
      (gathered.done t inside).known n r (subst (λ rs. slice_get rs n ≡ Some r) (sym (told-is o unavailable k v.hand copies.entries c gathered t inside)) at),
)
