-- Objects and passes that are opened one after the other.
use Rattle.std.proofs.Common.{cond, ◌≡◌, ℕ, zero, suc, ◌+◌, ◌<◌, Bool, List, [], ◌∷◌, ◌++◌, length, map, get_or, slice_get, Some, refl, sym, ap, ◌∙◌, subst, arith, length-append, add-zero, zero-add}
use Rattle.std.specs.Prelude.{◌==◌, All, count_by, slice_index_or}
use Rattle.std.proofs.lemmas.List.{length-map, get_or_default}
use Rattle.std.proofs.lemmas.List.Sums.{length-filter, sum_by-cons}
use Rattle.word_bits.specs.Histories.{Plan}
use Rattle.lock_core.specs.Records.{row}
use Rattle.lock_core.specs.Plans.{calls_in}
use Rattle.lock_core.proofs.RowLaws.{none-some, same-some, get-there, some-inside}
use Rattle.word_bits.specs.Snapshots.{Words, no_words}
use Rattle.mm_report.specs.Results.{calls_on, empty_from, empty_results, words_of_kind}
use Rattle.task_script.specs.Scripts.{Declared, Listing, is_on, kinds_of, plan_of}
use Rattle.mm_serve.specs.declared.worker.Worker.{Worker}
use Rattle.mm_serve.specs.MachineCopying.{AreBlank}
use Rattle.std.proofs.Math.Seq.{get_or-append_seam}
use Rattle.task_script.specs.Sound.{IsSound}
use Rattle.mm_serve.specs.MachineHistories.{IsPlanOn}
use Rattle.mm_serve.specs.Machines.{AreSitesOf, staffed}
use Rattle.mm_serve.specs.ObjectsOpening.{ArePlansOf}
use Rattle.mm_serve.specs.Types.{Line}
use Rattle.mm_serve.specs.Workers.{EachOf, AreNumbered, calls_to}
use Rattle.mm_serve.proofs.Filling.{calls_of, staffed-row}
use Rattle.mm_serve.proofs.Planned.{planned_on}
use Rattle.mm_serve.proofs.Staffed.{count-calls}

-- what is so at each place, and of one more behind the last
pub at-more : {X : Type 0} (P : ℕ → X → Type 0) (xs : List X) (x : X) → ((k : ℕ) (d : X) → k < length xs → P k (get_or xs k d)) → P (length xs) x → (k : ℕ) (d : X) → k < length xs + 1 → P k (get_or (xs ++ x ∷ []) k d)
at-more P [] x each last zero d lt = last
at-more P [] x each last (suc k) d lt = absurd (omega (arith, lt))
at-more P (y ∷ ys) x each last zero d lt = each 0 d (omega arith)
at-more P (y ∷ ys) x each last (suc k) d lt = at-more (λ n. P (suc n)) ys x (λ n e l. each (suc n) e (omega (arith, l))) last k d (omega (arith, lt))

module _ {S P : Type 0} (R : ℕ → S → P → Type 0) where
  -- there is a pass of each object so far
  pub each-more : (sites : List S) (passes : List P) (s : S) (p : P) → EachOf R sites passes → R (length sites) s p → EachOf R (sites ++ s ∷ []) (passes ++ p ∷ [])
  each-more sites passes s p each here =
      let a = length-append sites (s ∷ []) in
      let b = length-append passes (p ∷ []) in
      let many = each.0 in (
        omega (arith, a, b, many),
        λ k d e lt. at-more (λ n x. R n x (get_or (passes ++ p ∷ []) n e)) sites s
            (λ n x l. at-more (λ m q. m < length sites → R m (get_or sites m x) q) passes p (λ m q lm ls. each.1 m x q ls) (λ ls. absurd (omega (arith, ls, many))) n e (omega (arith, l, many)) l)
            (subst (λ (m : ℕ). R m s (get_or (passes ++ p ∷ []) m e)) many (at-last (λ (q : P). R (length passes) s q) passes p e (subst (λ (m : ℕ). R m s p) (sym many) here)))
            k d (omega (arith, lt, a)),
      )
    where
      at-last : {X : Type 0} (Q : X → Type 0) (xs : List X) (x e : X) → Q x → Q (get_or (xs ++ x ∷ []) (length xs) e)
      at-last Q [] x e here = here
      at-last Q (y ∷ xs) x e here = at-last Q xs x e here

  -- so many objects have a pass
  pub record FilledTo (n : ℕ) (sites : List S) (passes : List P) : Type 0 where
    pub many : length passes ≡ n
    pub each : (k : ℕ) (s : S) (p : P) → k < n → R k (get_or sites k s) (get_or passes k p)

  pub none-filled : (sites : List S) → FilledTo 0 sites []
  none-filled sites = record { many = refl; each = λ k s p l. absurd (omega (arith, l)) }

  pub filled-more : (n : ℕ) (sites : List S) (passes : List P) (s : S) (p : P) → FilledTo n sites passes → n < length sites → s ≡ get_or sites n s → R n s p → FilledTo (n + 1) sites (passes ++ p ∷ [])
  filled-more n sites passes s p filled inside is here =
      let many = filled.many in
      let long = length-append passes (p ∷ []) in record {
        many = omega (arith, long, many);
        each = λ k t q lt. at-more (λ m x. R m (get_or sites m t) x) passes p (λ m x l. filled.each m t x (omega (arith, l, many)))
            (subst (λ (m : ℕ). R m (get_or sites m t) p) (sym many) (subst (λ (x : S). R n x p) (is ∙ get_or_default sites n s t inside) here))
            k q (omega (arith, lt, many));
      }

  pub all-filled : (n : ℕ) (sites : List S) (passes : List P) → length sites ≡ n → FilledTo n sites passes → EachOf R sites passes
  all-filled n sites passes all filled = (filled.many ∙ sym all, λ k s p lt. filled.each k s p (omega (arith, lt, all)))

kind-of : (ds : List Declared) (k : ℕ) (d : Declared) → slice_get ds k ≡ Some d → slice_get (map (λ e. e.is_space) ds) k ≡ Some d.is_space
kind-of [] k d at = none-some d at
kind-of (e ∷ ds) zero d at = ap (λ (x : Declared). Some x.is_space) (same-some e d at)
kind-of (e ∷ ds) (suc k) d at = kind-of ds k d at

module _ {S : Type 0} (is_space : S → Bool) (plan_on : S → Plan) (script : Listing) where
  -- these are the first objects of the script
  pub record OpenedTo (n : ℕ) (sites : List S) : Type 0 where
    pub many : length sites ≡ n
    pub plans : (k : ℕ) (s : S) → slice_get sites k ≡ Some s → plan_on s ≡ staffed (plan_of script k)
    pub kinds : (k : ℕ) (s : S) (b : Bool) → slice_get sites k ≡ Some s → slice_get (kinds_of script) k ≡ Some b → is_space s ≡ b

  pub none-opened : OpenedTo 0 []
  none-opened = record { many = refl; plans = λ k s at. none-some s at; kinds = λ k s b at is. none-some s at }

  last-of : (sites : List S) (s : S) (P : ℕ → S → Type 0) → ((k : ℕ) (x : S) → slice_get sites k ≡ Some x → P k x) → P (length sites) s → (k : ℕ) (x : S) → slice_get (sites ++ s ∷ []) k ≡ Some x → P k x
  last-of [] s P each last zero x at = subst (P 0) (same-some s x at) last
  last-of [] s P each last (suc k) x at = none-some x at
  last-of (t ∷ sites) s P each last zero x at = each 0 x at
  last-of (t ∷ sites) s P each last (suc k) x at = last-of sites s (λ n. P (suc n)) (λ n y a. each (suc n) y a) last k x at

  pub opened-more : (n : ℕ) (sites : List S) (s : S) (b : Bool) → OpenedTo n sites → plan_on s ≡ staffed (plan_of script n) → slice_get (kinds_of script) n ≡ Some b → is_space s ≡ b → OpenedTo (n + 1) (sites ++ s ∷ [])
  opened-more n sites s b opened plan kind is =
      let many = opened.many in
      let long = length-append sites (s ∷ []) in record {
        many = omega (arith, long, many);
        plans = last-of sites s (λ k x. plan_on x ≡ staffed (plan_of script k)) opened.plans (plan ∙ ap (λ k. staffed (plan_of script k)) (sym many));
        kinds = λ k x c at has. last-of sites s (λ m y. slice_get (kinds_of script) m ≡ Some c → is_space y ≡ c) (λ m y a h. opened.kinds m y c a h) (λ h. is ∙ same-some b c (sym kind ∙ (ap (slice_get (kinds_of script)) (sym many) ∙ h))) k x at has;
      }

  pub all-opened : (n : ℕ) (sites : List S) → n ≡ length script.objects → OpenedTo n sites → AreSitesOf is_space plan_on script sites
  all-opened n sites all opened = record {
    many = opened.many ∙ all;
    plans = opened.plans;
    kinds = λ k s d at is. opened.kinds k s d.is_space at (kind-of script.objects k d is);
  }

-- the workers so far are numbered
pub numbered-more : {P Q : Type 0} (workers : List (Worker P Q)) (w : Worker P Q) → AreNumbered workers → w.task ≡ length workers → AreNumbered (workers ++ w ∷ [])
numbered-more workers w numbered is = λ i d lt. at-more (λ n x. x.task ≡ n) workers w numbered is i d (let long = length-append workers (w ∷ []) in omega (arith, lt, long))

-- how many calls of a task are on the object, by its lines and by its object's numbers
lines-on : (k : ℕ) (lines : List Line) → length (calls_of k lines) ≡ calls_to k (map (λ line. line.object) lines)
lines-on k lines = (let a : length (calls_of k lines) ≡ count_by (is_on k) lines = simp (length-map, length-filter) in a) ∙ go lines
  where
    go : (lines : List Line) → count_by (is_on k) lines ≡ calls_to k (map (λ line. line.object) lines)
    go [] = refl
    go (l ∷ lines) =
        sum_by-cons (λ line. cond (is_on k line) 1 0) l lines
        ∙ (ap (λ n. cond (is_on k l) 1 0 + n) (go lines) ∙ sym (sum_by-cons (λ object. cond (object == k) 1 0) l.object (map (λ line. line.object) lines)))

pub calls-planned : {S : Type 0} (is_space : S → Bool) (plan_on : S → Plan) (script : Listing) (sites : List S) (task : ℕ) (objects : List ℕ) → AreSitesOf is_space plan_on script sites → objects ≡ map (λ line. line.object) (slice_index_or script.tasks task []) → (k : ℕ) (s : S) → slice_get sites k ≡ Some s → length (row (plan_on s) task) ≡ calls_to k objects
calls-planned is_space plan_on script sites task objects are is k s at =
    ap (λ (p : Plan). length (row p task)) (are.plans k s at) ∙ (ap length (staffed-row script k task) ∙ (lines-on k (slice_index_or script.tasks task []) ∙ ap (calls_to k) (sym is)))

pub objects-inside : (n m : ℕ) (lines : List Line) (objects : List ℕ) → n ≡ m → All (λ line. line.object < m) lines → objects ≡ map (λ line. line.object) lines → All (λ object. object < n) objects
objects-inside n m lines objects same inside is = subst (λ (xs : List ℕ). All (λ object. object < n) xs) (sym is) (each lines inside)
  where
    each : (lines : List Line) → All (λ line. line.object < m) lines → All (λ object. object < n) (map (λ line. line.object) lines)
    each [] inside k d lt = absurd (omega (arith, lt))
    each (l ∷ lines) inside zero d lt = let here : l.object < m = inside 0 l (omega arith) in omega (arith, here, same)
    each (l ∷ lines) inside (suc k) d lt = each lines (λ i e li. inside (suc i) e (omega (arith, li))) k d (omega (arith, lt))

empty-at : (s : Listing) (object : ℕ) (ds : List Declared) (i : ℕ) (d : Declared) (w : Words) → slice_get ds i ≡ Some d → get_or (empty_from s object ds) i w ≡ no_words (calls_on s (object + i)) (calls_on s (object + i)) (words_of_kind d.is_space)
empty-at s object [] i d w at = none-some d at
empty-at s object (e ∷ ds) zero d w at =
    let n = add-zero object in
    (λ i. no_words (calls_on s (sym n i)) (calls_on s (sym n i)) (words_of_kind (same-some e d at i).is_space))
empty-at s object (e ∷ ds) (suc i) d w at =
    let n : object + 1 + i ≡ object + suc i = omega arith in
    empty-at s (object + 1) ds i d w at ∙ ap (λ m. no_words (calls_on s m) (calls_on s m) (words_of_kind d.is_space)) n

empty-many : (s : Listing) (object : ℕ) (ds : List Declared) → length (empty_from s object ds) ≡ length ds
empty-many s object [] = refl
empty-many s object (d ∷ ds) = ap suc (empty-many s (object + 1) ds)

same-calls : (plan : Plan) → calls_in (staffed plan) ≡ calls_in plan
same-calls [] = refl
same-calls (ws ∷ plan) = refl

-- the empty results of a script are blank for its objects
pub blank-results : {S : Type 0} (is_space : S → Bool) (plan_on : S → Plan) (script : Listing) (sites : List S) → AreSitesOf is_space plan_on script sites → AreBlank is_space plan_on sites (empty_results script)
blank-results is_space plan_on script sites are = (
  empty-many script 0 script.objects ∙ sym are.many,
  λ k s w at.
      let inside = some-inside sites k s at in
      let many = are.many in
      let there = get-there script.objects k (omega (arith, inside, many)) in
      let calls : calls_on script (0 + k) ≡ calls_in (plan_on s) = ap (calls_on script) (zero-add k) ∙ (sym (count-calls script k) ∙ (sym (same-calls (plan_of script k)) ∙ ap (λ (p : Plan). calls_in p) (sym (are.plans k s at)))) in
      let kind : there.0.is_space ≡ is_space s = sym (are.kinds k s there.0 at there.1) in
      empty-at script 0 script.objects k there.0 w there.1 ∙ (λ i. no_words (calls i) (calls i) (words_of_kind (kind i))),
)

-- the next plan is that of the next object
pub next-plan : (script : Listing) (plans yielded rest left : List Plan) (plan : Plan) → ArePlansOf script plans → yielded ++ rest ≡ plans → rest ≡ plan ∷ left → (plan ≡ staffed (plan_of script (length yielded))) × (length yielded < length script.objects)
next-plan script plans yielded rest left plan are whole is =
    let all : yielded ++ plan ∷ left ≡ plans = ap (λ xs. yielded ++ xs) (sym is) ∙ whole in
    let long = sym (length-append yielded (plan ∷ left)) ∙ ap length all in
    let below : length yielded < length plans = omega (arith, long) in (
      sym (get_or-append_seam yielded plan left plan) ∙ (ap (λ xs. get_or xs (length yielded) plan) all ∙ are.1 (length yielded) plan below),
      (let many = are.0 in omega (arith, below, many)),
    )

pub one-less : {X : Type 0} (plans yielded rest left : List X) (plan : X) → yielded ++ rest ≡ plans → rest ≡ plan ∷ left → (yielded ++ plan ∷ []) ++ left ≡ plans
one-less {X} plans yielded rest left plan whole is = go yielded ∙ (ap (λ xs. yielded ++ xs) (sym is) ∙ whole)
  where
    go : (xs : List X) → (xs ++ plan ∷ []) ++ left ≡ xs ++ plan ∷ left
    go [] = refl
    go (x ∷ xs) = λ i. x ∷ go xs i

pub plan-for : (script : Listing) (n : ℕ) (b : Bool) (plan : Plan) → IsSound script → n < length script.objects → slice_get (kinds_of script) n ≡ Some b → plan ≡ staffed (plan_of script n) → IsPlanOn b plan
plan-for script n b plan sound inside kind is =
    let there = get-there script.objects n inside in
    let same : there.0.is_space ≡ b = same-some there.0.is_space b (sym (kind-of script.objects n there.0 there.1) ∙ kind) in
    subst (λ (k : Plan). IsPlanOn b k) (sym is) (subst (λ (c : Bool). IsPlanOn c (staffed (plan_of script n))) same (planned_on script n there.0 sound there.1))
