-- Plans that are filled line by line.
use Rattle.std.proofs.Common.{◌≡◌, ◌≢◌, ℕ, zero, suc, ◌+◌, ◌-◌, ◌<◌, ◌≤◌, Bool, true, false, cond, List, [], ◌∷◌, ◌++◌, length, map, take, get_or, set, slice_get, Some, refl, sym, ap, ◌∙◌, subst, arith, append-nil}
use Rattle.std.specs.Prelude.{filter, fold, max, replicate, slice_index_or}
use Rattle.std.proofs.lemmas.List.{length-map, get_or-set_same, get_or-set_other, get_or_default}
use Rattle.std.proofs.lemmas.List.Sums.{fold_more}
use Rattle.std.proofs.Math.ListN.{length-set}
use mathlib.Core.Logic.{dite}
use native.Mathlib.Decide.{ℕ_discrete}
use Rattle.word_bits.specs.Histories.{Plan}
use Rattle.lock_core.specs.Plans.{appended, calls_in}
use Rattle.lock_core.specs.Records.{row}
use Rattle.lock_core.proofs.RowLaws.{none-some, same-some, row-appended, row-beside, length-appended, calls_in-appended}
use Rattle.task_script.specs.Scripts.{Listing, call_words, is_on, plan_of}
use Rattle.mm_serve.specs.Machines.{staffed}
use Rattle.mm_serve.specs.ObjectsOpening.{AddsLines, HaveRoom, HaveTask, with_line}
use Rattle.mm_serve.specs.Types.{CallWords, Line}
use Rattle.mm_serve.proofs.Turns.{is-on, is-off}

-- the calls of the lines that are on the object
abbrev pub calls_of : ℕ → List Line → List CallWords
calls_of k lines = map call_words (filter (is_on k) lines)

on-object : (k task : ℕ) (p : Plan) (l : Line) → l.object ≡ k → with_line k task p l ≡ appended p task (call_words l)
on-object k task p l same = ap (λ b. cond b (appended p task (call_words l)) p) (is-on k l.object same)

off-object : (k task : ℕ) (p : Plan) (l : Line) → k ≢ l.object → with_line k task p l ≡ p
off-object k task p l other = ap (λ b. cond b (appended p task (call_words l)) p) (is-off k l.object other)

-- one line more: the plan of its object has one call more, and the others are as they were
module _ (task i room left : ℕ) (lines : List Line) (d : Line) (olds plans : List Plan) (p new : Plan) (inside : i < length lines) (below : (get_or lines i d).object < length plans) (is : p ≡ get_or plans (get_or lines i d).object p) (now : new ≡ appended p task (call_words (get_or lines i d))) where
  pub adds-more : AddsLines task (take i lines) olds plans → AddsLines task (take (i + 1) lines) olds (set plans (get_or lines i d).object new)
  adds-more adds =
      let l = get_or lines i d in (
        length-set plans l.object new ∙ adds.0,
        λ k e lt. let more = fold_more (with_line k task) (get_or olds k e) lines i d inside in
            dite (ℕ_discrete k l.object)
            (λ (same : k ≡ l.object).
            let at : get_or (set plans l.object new) k e ≡ new = ap (λ n. get_or (set plans l.object new) n e) same ∙ get_or-set_same plans l.object new e below in
            let was : get_or plans k e ≡ p = ap (λ n. get_or plans n e) same ∙ (get_or_default plans l.object e p below ∙ sym is) in
            at ∙ (now ∙ (ap (λ q. appended q task (call_words l)) (sym was ∙ adds.1 k e lt) ∙ (sym (on-object k task (fold (with_line k task) (get_or olds k e) (take i lines)) l (sym same)) ∙ sym more))))
            (λ other. get_or-set_other plans l.object k new e other ∙ (adds.1 k e lt ∙ (sym (off-object k task (fold (with_line k task) (get_or olds k e) (take i lines)) l other) ∙ sym more))),
      )

  pub still-room : task < length p → left + 1 ≡ room → HaveRoom room plans → HaveRoom left (set plans (get_or lines i d).object new)
  still-room there less rooms =
      let l = get_or lines i d in
      λ k e lt. let long = length-set plans l.object new in
      let lt' : k < length plans = omega (arith, lt, long) in
      dite (ℕ_discrete k l.object)
      (λ (same : k ≡ l.object).
      let at : get_or (set plans l.object new) k e ≡ new = ap (λ n. get_or (set plans l.object new) n e) same ∙ get_or-set_same plans l.object new e below in
      let was : get_or plans k e ≡ p = ap (λ n. get_or plans n e) same ∙ (get_or_default plans l.object e p below ∙ sym is) in
      let more = ap calls_in now ∙ calls_in-appended p task (call_words l) there in
      let had = subst (λ (q : Plan). calls_in q + room ≤ 131072) was (rooms k e lt') in
      subst (λ (q : Plan). calls_in q + left ≤ 131072) (sym at) (omega (arith, more, had, less)))
      (λ other. let had = rooms k e lt' in subst (λ (q : Plan). calls_in q + left ≤ 131072) (sym (get_or-set_other plans l.object k new e other)) (omega (arith, had, less)))

  pub still-task : task < length p → HaveTask task plans → HaveTask task (set plans (get_or lines i d).object new)
  still-task there tasks =
      let l = get_or lines i d in
      λ k e lt. let long = length-set plans l.object new in
      let lt' : k < length plans = omega (arith, lt, long) in
      dite (ℕ_discrete k l.object)
      (λ (same : k ≡ l.object).
      let at : get_or (set plans l.object new) k e ≡ new = ap (λ n. get_or (set plans l.object new) n e) same ∙ get_or-set_same plans l.object new e below in
      let many = ap length now ∙ length-appended p task (call_words l) in
      subst (λ (q : Plan). task < length q) (sym at) (omega (arith, many, there)))
      (λ other. subst (λ (q : Plan). task < length q) (sym (get_or-set_other plans l.object k new e other)) (tasks k e lt'))

-- what the lines of a task make of a plan, row by row
module _ (k task : ℕ) where
  pub same-tasks : (p : Plan) (lines : List Line) → length (fold (with_line k task) p lines) ≡ length p
  same-tasks p [] = refl
  same-tasks p (l ∷ lines) = same-tasks (with_line k task p l) lines ∙ go (is_on k l)
    where
      go : (b : Bool) → length (cond b (appended p task (call_words l)) p) ≡ length p
      go true = length-appended p task (call_words l)
      go false = refl

  pub other-rows : (p : Plan) (lines : List Line) (u : ℕ) → u ≢ task → row (fold (with_line k task) p lines) u ≡ row p u
  other-rows p [] u other = refl
  other-rows p (l ∷ lines) u other = other-rows (with_line k task p l) lines u other ∙ go (is_on k l)
    where
      go : (b : Bool) → row (cond b (appended p task (call_words l)) p) u ≡ row p u
      go true = row-beside p task u (call_words l) other
      go false = refl

  pub own-row : (p : Plan) (lines : List Line) → task < length p → row (fold (with_line k task) p lines) task ≡ row p task ++ calls_of k lines
  own-row p [] there = sym (append-nil (row p task))
  own-row p (l ∷ lines) there =
      own-row (with_line k task p l) lines (subst (λ n. task < n) (sym (same-tasks p (l ∷ []))) there) ∙ go (is_on k l)
    where
      behind : (xs ys : List CallWords) (x : CallWords) → (xs ++ x ∷ []) ++ ys ≡ xs ++ x ∷ ys
      behind [] ys x = refl
      behind (z ∷ xs) ys x = λ i. z ∷ behind xs ys x i

      go : (b : Bool) → row (cond b (appended p task (call_words l)) p) task ++ calls_of k lines ≡ row p task ++ map call_words (cond b (l ∷ filter (is_on k) lines) (filter (is_on k) lines))
      go true = ap (λ ws. ws ++ calls_of k lines) (row-appended p task (call_words l) there) ∙ behind (row p task) (calls_of k lines) (call_words l)
      go false = refl

-- the plan has the calls of all tasks before this one, and none of the others
pub record PlannedTo (script : Listing) (k t : ℕ) (p : Plan) : Type 0 where
  pub tasks : length p ≡ max (length script.tasks) 1
  pub before : (u : ℕ) → u < t → row p u ≡ calls_of k (slice_index_or script.tasks u [])
  pub behind : (u : ℕ) → t ≤ u → row p u ≡ []

abbrev pub ArePlannedTo : Listing → ℕ → List Plan → Type 0
ArePlannedTo script t plans = (length plans ≡ length script.objects) × ((k : ℕ) (d : Plan) → k < length plans → PlannedTo script k t (slice_index_or plans k d))

no-rows : {X : Type 0} (n u : ℕ) → row {X = X} (replicate n []) u ≡ []
no-rows zero u = refl
no-rows (suc n) zero = refl
no-rows (suc n) (suc u) = no-rows n u

pub none-planned : (script : Listing) (k : ℕ) (p : Plan) → p ≡ replicate (max (length script.tasks) 1) [] → PlannedTo script k 0 p
none-planned script k p is = record {
  tasks = ap length is ∙ many [] (max (length script.tasks) 1);
  before = λ u l. absurd (omega (arith, l));
  behind = λ u l. ap (λ (q : Plan). row q u) is ∙ no-rows (max (length script.tasks) 1) u;
}
  where
    many : {X : Type 0} (x : X) (n : ℕ) → length (replicate n x) ≡ n
    many x zero = refl
    many x (suc n) = ap suc (many x n)

none-in : (X : Type 0) (n : ℕ) → calls_in {X = X} (replicate n []) ≡ 0
none-in X zero = refl
none-in X (suc n) = let rest = none-in X n in omega (arith, rest)

pub room-at-first : (n : ℕ) (plans : List Plan) → ((k : ℕ) (d : Plan) → k < length plans → slice_index_or plans k d ≡ replicate n []) → HaveRoom 131072 plans
room-at-first n plans empty = λ k d lt. let none = ap (λ (p : Plan). calls_in p) (empty k d lt) ∙ none-in CallWords n in omega (arith, none)

pub planned-more : (script : Listing) (t : ℕ) (lines : List Line) (olds news : List Plan) → t < length script.tasks → slice_get script.tasks t ≡ Some lines → ArePlannedTo script t olds → AddsLines t lines olds news → ArePlannedTo script (t + 1) news
planned-more script t lines olds news inside at planned adds = (
  adds.0 ∙ planned.0,
  λ k d lt.
      let lt' : k < length olds = omega (arith, lt, adds.0) in
      let had = planned.1 k d lt' in
      let p = get_or olds k d in
      let many = had.tasks in
      let there : t < length p = omega (arith, inside, many) in
      subst (λ (q : Plan). PlannedTo script k (t + 1) q) (sym (adds.1 k d lt')) (record {
        tasks = same-tasks k t p lines ∙ had.tasks;
        before = λ u l. dite (ℕ_discrete u t)
            (λ (e : u ≡ t). ap (row (fold (with_line k t) p lines)) e ∙ (own-row k t p lines there ∙ (ap (λ ws. ws ++ calls_of k lines) (had.behind t (omega arith)) ∙ ap (calls_of k) (sym (ap (λ n. slice_index_or script.tasks n []) e ∙ get-lines script.tasks t lines at)))))
            (λ ne. other-rows k t p lines u ne ∙ had.before u (omega (arith, l, ne)));
        behind = λ u l. other-rows k t p lines u (λ e. absurd (omega (arith, l, e))) ∙ had.behind u (omega (arith, l));
      }),
)
  where
    get-lines : (tasks : List (List Line)) (t : ℕ) (lines : List Line) → slice_get tasks t ≡ Some lines → get_or tasks t [] ≡ lines
    get-lines [] t lines at = none-some lines at
    get-lines (ls ∷ tasks) zero lines at = same-some ls lines at
    get-lines (ls ∷ tasks) (suc t) lines at = get-lines tasks t lines at

same-rows : {X : Type 0} (xss yss : List (List X)) → length xss ≡ length yss → ((u : ℕ) → row xss u ≡ row yss u) → xss ≡ yss
same-rows [] [] many each = refl
same-rows [] (ys ∷ yss) many each = absurd (omega (arith, many))
same-rows (xs ∷ xss) [] many each = absurd (omega (arith, many))
same-rows (xs ∷ xss) (ys ∷ yss) many each = let here = each 0 in let rest = same-rows xss yss (omega (arith, many)) (λ u. each (suc u)) in λ i. here i ∷ rest i

pub row-of : (k : ℕ) (tasks : List (List Line)) (u : ℕ) → row (map (calls_of k) tasks) u ≡ calls_of k (slice_index_or tasks u [])
row-of k [] u = refl
row-of k (ls ∷ tasks) zero = refl
row-of k (ls ∷ tasks) (suc u) = row-of k tasks u

-- the plan of one task without calls, or of all tasks
pub staffed-row : (script : Listing) (k u : ℕ) → row (staffed (plan_of script k)) u ≡ calls_of k (slice_index_or script.tasks u [])
staffed-row script k u = go script.tasks
  where
    go : (tasks : List (List Line)) → row (staffed (map (calls_of k) tasks)) u ≡ calls_of k (slice_index_or tasks u [])
    go [] = one u
      where
        one : (u : ℕ) → row {X = CallWords} ([] ∷ []) u ≡ []
        one zero = refl
        one (suc u) = refl
    go (ls ∷ tasks) = row-of k (ls ∷ tasks) u

pub staffed-tasks : (script : Listing) (k : ℕ) → length (staffed (plan_of script k)) ≡ max (length script.tasks) 1
staffed-tasks script k = go script.tasks
  where
    go : (tasks : List (List Line)) → length (staffed (map (calls_of k) tasks)) ≡ max (length tasks) 1
    go [] = refl
    go (ls ∷ tasks) = let many : length (map (calls_of k) tasks) ≡ length tasks = simp length-map in omega (arith, many)

pub all-planned : (script : Listing) (k t : ℕ) (p : Plan) → length script.tasks ≤ t → PlannedTo script k t p → p ≡ staffed (plan_of script k)
all-planned script k t p end planned = same-rows p (staffed (plan_of script k)) (planned.tasks ∙ sym (staffed-tasks script k)) (λ u. dite (ℕ_discrete (u - t) 0)
    (λ (e : u - t ≡ 0). each u e)
    (λ ne. planned.behind u (omega (arith, ne)) ∙ sym (staffed-row script k u ∙ ap (calls_of k) (beyond script.tasks u (omega (arith, ne, end))))))
  where
    beyond : (tasks : List (List Line)) (u : ℕ) → length tasks ≤ u → get_or tasks u [] ≡ []
    beyond [] u l = refl
    beyond (ls ∷ tasks) zero l = absurd (omega (arith, l))
    beyond (ls ∷ tasks) (suc u) l = beyond tasks u (omega (arith, l))

    each : (u : ℕ) → u - t ≡ 0 → row p u ≡ row (staffed (plan_of script k)) u
    each u e = dite (ℕ_discrete u t)
        (λ (same : u ≡ t). planned.behind u (omega (arith, same)) ∙ sym (staffed-row script k u ∙ ap (calls_of k) (beyond script.tasks u (omega (arith, same, end)))))
        (λ ne. planned.before u (omega (arith, e, ne)) ∙ sym (staffed-row script k u))
