-- The laws of the rule of a semaphore: its steps on words of the site, of the spin lock, on the count, the marks and the grant words, and those of seats.
use Rattle.std.proofs.Common.{◌≡◌, ◌≢◌, ℕ, zero, suc, ◌+◌, ◌*◌, ◌<◌, ◌≤◌, ◌⊎◌, inl, inr, List, [], ◌∷◌, ◌++◌, length, map, get_or, set, Option, Some, None, sym, refl, ap, ◌∙◌, subst, arith, ⊎_elim}
use Rattle.std.proofs.Common.{length-set, get_or-set_other}
use Rattle.std.proofs.lemmas.List.{drop-set-lt}
use mathlib.Core.Option.{some, some-injective, some-ne-none}
use lib.ListN.{get_elem?}
use Rattle.atomic_table.proofs.Lists.{at_map, set_again, set_else}
use Rattle.word_bits.specs.declared.TheConstants.{MAX_TASKS}
use Rattle.word_bits.specs.LockWords.{IsLawfulCount, counted}
use Rattle.word_bits.specs.Objects.{Obj}
use Rattle.word_bits.specs.Histories.{Plan}
use Rattle.lock_core.specs.declared.layout.TheConstants.{LOCK_WORDS, SPIN_WORDS}
use Rattle.lock_core.specs.Stores.{HasWord}
use Rattle.lock_core.specs.Layout.{SiteWords, fresh, site, lay, width}
use Rattle.lock_core.specs.Views.{SpinHolds, SpinStays, hand_of, spin_part, part_with, no_part, handed, seated, ticked, first, split_off, merged, spent, named_of, is_number, number_weight, HoldsNothing}
use Rattle.lock_core.specs.Sites.{KeepsSaw, SiteKept}
use Rattle.lock_core.specs.Moves.{Goes, KeepsHold, SiteMove, TriesWhere}
use Rattle.lock_core.specs.Laws.Move.{hand-stays, saw-stays, set-moves, hold-moved, spin-moved, tries-go}
use Rattle.lock_core.specs.SpinFrames.{holds_at, holds_of}
use Rattle.lock_core.specs.Spins.{SpinKept, SpinGoes, SpinFrees, SpinMoves, spun, holds_in, frame_of}
use Rattle.lock_core.specs.Laws.Spin.{spin-same, spin-renames, spin-comes, spin-ends, spin-opens}
use Rattle.lock_core.specs.Totals.{total, total-at, total-snoc}
use Rattle.lock_core.specs.ViewParts.{Each, each-set, each-snoc, keep_part, set_part, set-there, snoc_part}
use Rattle.lock_core.specs.Regions.{part-in, part-above, part-below, part-at, wide-part}
use Rattle.lock_core.proofs.HandLaws.{number-or-not}
use Rattle.wait_list.specs.declared.words.TheConstants.{LIST_WORDS}
use Rattle.wait_list.specs.Lists.{Part, ListKept, MadeBy, Allowed, changed, list_part, takes_of}
use Rattle.wait_list.specs.Laws.List.{holds-or-not, list-spins, list-keeps, list-leaves, list-strangers, list-opens}
use Rattle.rwsem_count.specs.Counts.{HandStep}
use Rattle.rwsem_count.specs.Laws.Numbers.{few-numbers}
use Rattle.rwsem_wake.specs.SemParts.{SemPart, apart_hand, busy_of, busy_weight, nobody, transit_of, transit_weight}
use Rattle.rwsem_wake.specs.GrantSemaphores.{SemKept, batch_weight, number_of}
use Rattle.rwsem_wake.specs.Handoffs.{KeepsHandoff, reads_as}
use Rattle.rwsem_wake.specs.Grants.{with_changes}
use Rattle.rwsem_wake.specs.Duties.{WakeGoes}
use Rattle.rwsem_wake.proofs.DutySteps.{duty-goes-on}
use Rattle.wake_duty.specs.DutyWakes.{WAKE_WORDS}
use Rattle.rwsem_wake.specs.SemDuties.{DutyKept}
use Rattle.rwsem_wake.specs.Laws.SemDuty.{duty-opens, duty-snoc}
use Rattle.rwsem_slow.specs.WakesGo.{WakesGo, wake_stands}
use Rattle.rwsem_slow.specs.Laws.WakesGo.{kind-goes, still-goes}
use Rattle.rwsem_slow.specs.Laws.DutyRule.{Duties, duties-end, duties-rename, duties-stay, quiet-apart, staged-goes, staged-rest}
use Rattle.rwsem_wake.proofs.HandoffSteps.{hands-none, hands-step, hands-still, unasked-same}
use Rattle.rwsem_wake.proofs.Lines.{lines-else, lines-zero}
use Rattle.rwsem_wake.proofs.SeatLaws.{sem-opens, sem-renumbers, sem-strangers}
use Rattle.rwsem_wake.proofs.Stating.{count-least}
use Rattle.rwsem_wake.specs.RwSemViews.{with_wake, V, list_of, with_sem, seen, count_at, hint_at, list_at}
use Rattle.rwsem_slow.specs.RwSems.{IsStaged, duty_seen, wake_words, wakes_at, MayMiss, idle, marks_at, grants_at, spin_words, count_in, list_words, marks_in, grants_in, IsLocked, RwSemKept}
use Rattle.rwsem_slow.specs.RwSems.{Kept as IsKept, entered, IsMadeBy, KeepsCount, RwSemMoves, may_free, rests}
use Rattle.rwsem_slow.specs.Types.{Hand, SpinHand, No, Waiter, Change, Stay, SemHand, Rest, SemWake}

pub spin-inside : 0 + SPIN_WORDS ≤ LOCK_WORDS
spin-inside = omega arith

pub count-inside : count_at < LOCK_WORDS
count-inside = omega arith

pub list-inside : list_at + LIST_WORDS ≤ LOCK_WORDS
list-inside = omega arith

pub count-there : (tasks : ℕ) → HasWord tasks count_at
count-there tasks = record {
  spin = λ _. omega arith;
  first = λ m. absurd (omega (arith, m));
  second = λ m. absurd (omega (arith, m));
  third = λ m. absurd (omega (arith, m));
  fourth =
      λ m. absurd (omega (arith, m));
}

pub list-room : (SPIN_WORDS ≤ list_at) × (list_at + 8 ≤ SPIN_WORDS + 64)
list-room = (omega arith, omega arith)

pub sem-places : (count_at < marks_at) × (marks_at + 8 * MAX_TASKS ≤ grants_at) × (grants_at + 8 * MAX_TASKS ≤ LOCK_WORDS)
sem-places = (omega arith, omega arith, omega arith)

abbrev parted : V → Part
parted v = list_part list_of v

-- the count, the marks and the grant words
abbrev pub SemWords : Type 0
SemWords = ℕ × List ℕ × List ℕ

abbrev pub sem_words : List ℕ → SemWords
sem_words ws = (count_in ws, marks_in ws, grants_in ws)

-- a word that is none of them
abbrev IsElsewhere : ℕ → Type 0
IsElsewhere j = (j ≢ count_at) × (j < marks_at) ⊎ (grants_at + 8 * MAX_TASKS ≤ j)

pub sem-else : (ws : List ℕ) (j x : ℕ) → IsElsewhere j → sem_words (set ws j x) ≡ sem_words ws
sem-else ws j x other = let count = get_or-set_other ws j count_at x 0 (λ e. elim other [ inl a ↦ a.0 (sym e) | inr far ↦ omega (arith, far, e) ]) in
    let marks = lines-else marks_at ws j x (λ t l e. elim other [ inl a ↦ (let near = a.1 in omega (arith, near, e)) | inr far ↦ omega (arith, far, e, l) ]) in
    let grants = lines-else grants_at ws j x (λ t l e. elim other [ inl a ↦ (let near = a.1 in omega (arith, near, e)) | inr far ↦ omega (arith, far, e, l) ]) in
    λ i. (count i, marks i, grants i)

-- who waits for nothing and doesn't hold is no reader, whatever its number
nothing-reads : (grants : List ℕ) (t : ℕ) (v : SemPart) (task : Option ℕ) → v.sem ≡ apart_hand → v.held ≡ No → reads_as grants t (record v { task = task }) ≡ 0
nothing-reads grants t v task none out = (λ i. reads_as grants t (record { task = task; held = out i; sem = none i })) ∙ go task
  where
    go : (x : Option ℕ) → reads_as grants t (record { task = x; held = No; sem = apart_hand }) ≡ 0
    go None = refl
    go (Some u) = refl

-- a place of a list stays where one stands behind it
still-there : (vs : List V) (x v : V) (j : ℕ) → get_elem? vs j ≡ some v → get_elem? (vs ++ x ∷ []) j ≡ some v
still-there [] x v j at = absurd (some-ne-none v (sym at))
still-there (y ∷ vs) x v zero at = at
still-there (y ∷ vs) x v (suc j) at = still-there vs x v j at

-- where one of a list weighs all that may weigh, no other does
only-one : (f g : V → ℕ) (vs : List V) (id : ℕ) (v : V) → Each (λ x. f x ≤ g x) vs → get_elem? vs id ≡ some v → g v ≡ 1 → total g vs ≤ 1 → total f vs ≡ f v
only-one f g [] id v less at one most = absurd (some-ne-none v (sym at))
only-one f g (x ∷ vs) zero v less at one most = let is = some-injective x v at in let a : g x ≡ 1 = ap g is ∙ one in let b = none vs (λ j w e. less (suc j) w e) (omega (arith, a, most)) in
    let c = ap f is in omega (arith, b, c)
  where
    none : (xs : List V) → Each (λ x. f x ≤ g x) xs → total g xs ≡ 0 → total f xs ≡ 0
    none [] less z = refl
    none (y ∷ ys) less z = let a = less zero y refl in let b = none ys (λ j w e. less (suc j) w e) (omega (arith, z)) in omega (arith, a, b, z)
only-one f g (x ∷ vs) (suc id) v less at one most = let a = total-at g vs id v at in let b = less zero x refl in
    let c = only-one f g vs id v (λ j w e. less (suc j) w e) at one (omega (arith, most)) in omega (arith, a, b, c, one, most)

module _ {Call : Type 0} (o : Obj Call) (size : ℕ) where
  abbrev Queue : Plan → List ℕ → List V → List Waiter → Type 0
  Queue = RwSemKept o size

  abbrev Kept : Plan → List ℕ → List V → Type 0
  Kept = IsKept o size

  abbrev Site : Plan → List ℕ → List Hand → Type 0
  Site k ws hs = SiteKept o counted size k (site k ws) hs

  abbrev pub Go : Plan → ℕ → List ℕ → List V → List ℕ → List V → Type 0
  Go k = Goes (Kept k) (RwSemMoves k)

  abbrev pub Sem : SemWords → List Waiter → List SemPart → Type 0
  Sem w q ps = SemKept w.0 q w.1 w.2 ps

  -- the step keeps to a handoff, from these words to those
  abbrev pub Hands : ℕ → SemWords → List Waiter → List SemPart → SemWords → List SemPart → Type 0
  Hands id w q ps u ps' = KeepsHandoff id w.0 q w.1 w.2 ps u.0 u.1 u.2 ps'

  pub sem-site : (k : Plan) (ws : List ℕ) (vs : List V) → Kept k ws vs → Site k ws (map hand_of vs)
  sem-site k ws vs r = r.1.site_holds

  pub sem-spin : (k : Plan) (ws : List ℕ) (vs : List V) → Kept k ws vs → SpinKept (spin_words ws) (map spin_part vs)
  sem-spin k ws vs r = r.1.spin

  takes-total : (vs : List V) → total takes_of (map parted vs) ≡ total holds_of (map frame_of (map spin_part vs))
  takes-total [] = refl
  takes-total (v ∷ vs) = ap (λ (z : ℕ). holds_in v.spin + z) (takes-total vs)

  module _ (k : Plan) (ws : List ℕ) (vs : List V) (q : List Waiter) (r : Queue k ws vs q) where
    pub one-takes : total takes_of (map parted vs) ≤ 1
    one-takes = let b = r.spin.1.lock.balanced.comes in let t = takes-total vs in omega (arith, b, t)

    -- at most as many passes have a number as there are tasks
    pub few-named : total number_of (map seen vs) ≤ MAX_TASKS
    few-named = let n = numbers in let e = same vs in omega (arith, n, e)
      where
        same : (xs : List V) → total number_of (map seen xs) ≡ total (λ (v : V). number_weight v.hand.task) xs
        same [] = refl
        same (x ∷ xs) = let e = same xs in omega (arith, e)

        same-names : (t : ℕ) (xs : List V) → total (named_of t) (map hand_of xs) ≡ total (λ (v : V). is_number t v.hand.task) xs
        same-names t [] = refl
        same-names t (x ∷ xs) = let e = same-names t xs in omega (arith, e)

        numbers : total (λ (v : V). number_weight v.hand.task) vs ≤ MAX_TASKS
        numbers = few-numbers (λ (v : V). v.hand.task) vs (λ t l. let a = (r.site_holds.balances.named t l).1 in let e = same-names t vs in omega (arith, a, e))
            (λ j v at t has. let m = (r.site_holds.each j v.hand (at_map hand_of vs j v at)).mine t has in let l = m.0 in let s = r.site_holds.laid.small.tasks in omega (arith, l, s))

    pub sem-lawful : IsLawfulCount (count_in ws)
    sem-lawful = let l = count-least (count_in ws) q (marks_in ws) (grants_in ws) (map seen vs) r.sem few-named in (r.sem.count.low, omega (arith, l))

    -- a pass without a number is about nothing
    pub nameless : (id : ℕ) (v : V) → get_elem? vs id ≡ some v → v.hand.task ≡ None → (v.ext.sem ≡ apart_hand) × (v.hand.held ≡ No)
    nameless id v at none = let ok = r.sem.each id (seen v) (at_map seen vs id v at) in let p = ok.numbered none in let rest = ok.rest (ap batch_weight p.2) in
        (λ x. record { wait = p.0 x; bias = p.1 x; stage = p.2 x; rest = rest x }, ((r.site_holds.each id v.hand (at_map hand_of vs id v at)).nameless none).0)

    module _ (id : ℕ) (v : V) (at : get_elem? vs id ≡ some v) where
      -- who has the wait lock is the only one at a stage
      pub sem-only-in : holds_in v.spin ≡ 1 → total busy_of (map seen vs) ≡ busy_weight v.ext.sem.stage
      sem-only-in one_in = maps vs ∙ only-one (λ (x : V). busy_weight x.ext.sem.stage)
          (λ (x : V). holds_in x.spin) vs id v r.locked at one_in (let m = spins vs in let one = one-takes in omega (arith, m, one))
        where
          maps : (xs : List V) → total busy_of (map seen xs) ≡ total (λ (x : V). busy_weight x.ext.sem.stage) xs
          maps [] = refl
          maps (x ∷ xs) = let e = maps xs in omega (arith, e)

          spins : (xs : List V) → total takes_of (map parted xs) ≡ total (λ (x : V). holds_in x.spin) xs
          spins [] = refl
          spins (x ∷ xs) = let e = spins xs in omega (arith, e)

      pub sem-only : SpinHolds v.spin → total busy_of (map seen vs) ≡ busy_weight v.ext.sem.stage
      sem-only has = sem-only-in (ap holds_at has)

      -- what a step to these words and this view makes of wakes
      abbrev pub Wakes : List ℕ → Change → V → Type 0
      Wakes us c u = WakesGo (count_in ws) (count_in us) q c (grants_in ws) (wake_words ws) (wake_words us) (holds_in v.spin) (seen v) (seen u) (wake_stands v.ext.wake) (wake_stands u.ext.wake)

      -- it leaves all of that
      pub stays-awake : (u : V) → u.hand.held ≡ v.hand.held → u.ext.sem ≡ v.ext.sem → u.ext.wake ≡ v.ext.wake → Wakes ws Stay u
      stays-awake u held sem same = subst (λ (z : SemWake). WakesGo (count_in ws) (count_in ws) q Stay (grants_in ws) (wake_words ws) (wake_words ws) (holds_in v.spin) (seen v) (seen u)
          (wake_stands v.ext.wake) (wake_stands z)) (sym same) (still-goes (count_in ws) (count_in ws) q (grants_in ws) (wake_words ws) (holds_in v.spin) (seen v) (seen u) v.ext.wake
          (inr (inr (held, (let e : transit_of (seen u) ≡ transit_of (seen v) = ap (λ (s : SemHand). transit_weight s.bias) sem in omega (arith, e))))))

      -- a step, and all that it leaves
      pub goes : (us : List ℕ) (vs' : List V) (c : Change) → length us ≡ width k → Site k us (map hand_of vs') → SiteMove id (count_in ws) (site k ws) vs (site k us) vs' → (u : V)
          → get_elem? vs' id ≡ some u → SpinMoves id (spin_words ws) (map spin_part vs) (spin_words us) (map spin_part vs') → ListKept (list_words us) (changed c q) (map parted vs')
          → Sem (sem_words us) (changed c q) (map seen vs') → Each IsLocked vs' → Duties (wake_words us) (grants_in us) (changed c q) vs' → Allowed c q → MadeBy c id (map parted vs)
          → IsMadeBy id vs u.ext.sem.rest c q → Hands id (sem_words ws) q (map seen vs) (sem_words us) (map seen vs') → KeepsCount v.hand u.hand (count_in us)
          → busy_weight u.ext.sem.stage ≤ holds_in v.spin → u.ext.appends ≡ v.ext.appends + entered c → (u.hand.misses ≢ v.hand.misses → MayMiss v) → Wakes us c u → Go k id ws vs us vs'
      goes us vs' c wide there move u at' spin list sem locked duties may made mine hands freed lock counts missed wakes =
          let before : v ≡ move.before = some-injective v move.before (sym at ∙ move.at) in let after : u ≡ move.after = some-injective u move.after (sym at' ∙ move.at') in (
            (changed c q, record { wide = wide; site_holds = there; spin = (spin.queues', spin.new); list = list; sem = sem; locked = locked; duty = duties.0; staged = duties.1 }),
            record {
              site = move;
              spin = spin;
              list = record { list = q; list' = changed c q; old = r.list; new = list; change = c; allowed = may; made = made; is = refl };
              made = subst (λ (x : V). IsMadeBy id vs x.ext.sem.rest c q) after mine;
              hands = hands;
              freed = subst (λ (x : V × V). KeepsCount x.0.hand x.1.hand (count_in us)) (λ i. (before i, after i)) freed;
              locked = subst (λ (x : V × V). busy_weight x.1.ext.sem.stage ≤ holds_in x.0.spin) (λ i. (before i, after i)) lock;
              appends = subst (λ (x : V × V). x.1.ext.appends ≡ x.0.ext.appends + entered c) (λ i. (before i, after i)) counts;
              missed = subst (λ (x : V × V). x.1.hand.misses ≢ x.0.hand.misses → MayMiss x.0) (λ i. (before i, after i)) missed;
              wakes = subst (λ (x : V × V). WakesGo (count_in ws) (count_in us) q c (grants_in ws) (wake_words ws) (wake_words us) (holds_in x.0.spin) (seen x.0) (seen x.1) (wake_stands x.0.ext.wake)
                  (wake_stands x.1.ext.wake)) (λ i. (before i, after i)) wakes;
            },
          )

      -- the same of a step that leaves the list, and changes this word alone of the count, the marks and the grant words
      pub goes-on : (us : List ℕ) (vs' : List V) → length us ≡ width k → Site k us (map hand_of vs') → SiteMove id (count_in ws) (site k ws) vs (site k us) vs' → (u : V) → get_elem? vs' id ≡ some u
          → SpinMoves id (spin_words ws) (map spin_part vs) (spin_words us) (map spin_part vs') → ListKept (list_words us) q (map parted vs')
          → sem_words us ≡ sem_words ws → wake_words us ≡ wake_words ws → Sem (sem_words ws) q (map seen vs') → Each IsLocked vs' → Duties (wake_words ws) (grants_in ws) q vs'
          → Hands id (sem_words ws) q (map seen vs) (sem_words ws) (map seen vs') → u.hand.held ≡ v.hand.held → u.ext.sem ≡ v.ext.sem → u.ext.appends ≡ v.ext.appends
          → (u.hand.misses ≢ v.hand.misses → MayMiss v) → Wakes ws Stay u → Go k id ws vs us vs'
      goes-on us vs' wide there move u at' spin list words waking sem locked duties hands held same counts missed wakes =
          goes us vs' Stay wide there move u at' spin list (subst (λ (z : SemWords). Sem z q (map seen vs')) (sym words) sem) locked
          (subst (λ (z : List ℕ × List ℕ). Duties z.0 z.1 q vs') (λ i. (sym waking i, (sym words i).2)) duties) tt tt tt
          (subst (λ (z : SemWords). Hands id (sem_words ws) q (map seen vs) z (map seen vs')) (sym words) hands)
          (λ out other. absurd (other held)) (let l = r.locked id v at in let e : busy_weight u.ext.sem.stage ≡ busy_weight v.ext.sem.stage = ap (λ (s : SemHand). busy_weight s.stage) same in
          omega (arith, l, e)) (omega (arith, counts)) missed
          (subst (λ (z : ℕ × List ℕ). WakesGo (count_in ws) z.0 q Stay (grants_in ws) (wake_words ws) z.1 (holds_in v.spin) (seen v) (seen u) (wake_stands v.ext.wake) (wake_stands u.ext.wake))
          (λ i. ((sym words i).0, sym waking i)) wakes)

      -- a step on a word outside of the site's leaves the site's words
      pub same-site : (j n : ℕ) → j < LOCK_WORDS → site k (set ws j n) ≡ site k ws
      same-site j n l = ap (lay k) (drop-set-lt LOCK_WORDS ws j n l)

      -- nobody is a reader that wasn't
      pub hands-same : (vs' : List V) → map seen vs' ≡ map seen vs → Hands id (sem_words ws) q (map seen vs) (sem_words ws) (map seen vs')
      hands-same vs' same = subst (λ (z : List SemPart). Hands id (sem_words ws) q (map seen vs) (sem_words ws) z) (sym same) (hands-none id (count_in ws) q (marks_in ws) (grants_in ws) (map seen vs))

      -- a pass that is about nothing changes its number
      pub renumbers : (h : Hand) → h.held ≡ v.hand.held → v.ext.sem ≡ apart_hand → v.hand.held ≡ No
          → (let u : SemPart = record { task = h.task; held = h.held; sem = v.ext.sem } in
          Sem (sem_words ws) q (set (map seen vs) id u) × Hands id (sem_words ws) q (map seen vs) (sem_words ws) (set (map seen vs) id u))
      renumbers h held none out = let mine = at_map seen vs id v at in let u : SemPart = record (seen v) { task = h.task } in
          subst (λ (z : SemPart). Sem (sem_words ws) q (set (map seen vs) id z) × Hands id (sem_words ws) q (map seen vs) (sem_words ws) (set (map seen vs) id z))
          (λ x. record { task = h.task; held = sym held x; sem = v.ext.sem }) (
            sem-renumbers (map seen vs) id (seen v) mine (count_in ws) q (marks_in ws) (grants_in ws) r.sem h.task none out,
            hands-step id (count_in ws) q (marks_in ws) (grants_in ws) (map seen vs) (seen v) u mine (count_in ws) (marks_in ws) (omega arith)
                (λ t. let e = nothing-reads (grants_in ws) t (seen v) h.task none out in omega (arith, e)) (unasked-same (count_in ws) (marks_in ws))
                record {
                  ends = λ t less. let e = nothing-reads (grants_in ws) t (seen v) v.hand.task none out in absurd (omega (arith, e, less));
                  batch = inl refl;
                  next = λ e. inl e;
                  to_mark =
                      λ e. inl e;
                  found = inl refl;
                },
          )

      -- a pass keeps its number and how it holds
      pub unchanged : (h : Hand) → h.held ≡ v.hand.held → h.task ≡ v.hand.task
          → (let u : SemPart = record { task = h.task; held = h.held; sem = v.ext.sem } in
          Sem (sem_words ws) q (set (map seen vs) id u) × Hands id (sem_words ws) q (map seen vs) (sem_words ws) (set (map seen vs) id u))
      unchanged h held task = let ps : List SemPart = map seen vs in let n : ℕ = count_in ws in
          subst (λ (z : SemPart). Sem (sem_words ws) q (set ps id z) × Hands id (sem_words ws) q ps (sem_words ws) (set ps id z))
          (λ x. record { task = sym task x; held = sym held x; sem = v.ext.sem })
          (subst (λ (z : List SemPart). Sem (sem_words ws) q z × Hands id (sem_words ws) q ps (sem_words ws) z) (sym (set_again ps id (seen v) (at_map seen vs id v at)))
          (r.sem, hands-none id n q (marks_in ws) (grants_in ws) ps))

  pub sem-sites : (k : Plan) (ws : List ℕ) (vs : List V) (id i n : ℕ) (v : V) (h : Hand) (s : SpinHand) → Kept k ws vs → get_elem? vs id ≡ some v → KeepsHold rests v h → SpinStays v.spin s
      → Site k (set ws (LOCK_WORDS + i) n) (set (map hand_of vs) id h)
      → SiteMove id (count_in ws) (site k ws) vs (site k (set ws (LOCK_WORDS + i) n)) (set vs id (seated v h s)) → Go k id ws vs (set ws (LOCK_WORDS + i) n) (set vs id (seated v h s))
  sem-sites k ws vs id i n v h s (q, r) at same stays there move = let w : V = seated v h s in let j : ℕ = LOCK_WORDS + i in let us : List ℕ = set ws j n in
      let both = elim same.1 as (λ _. let u : SemPart = record { task = h.task; held = h.held; sem = v.ext.sem } in
      Sem (sem_words ws) q (set (map seen vs) id u) × Hands id (sem_words ws) q (map seen vs) (sem_words ws) (set (map seen vs) id u)) [
        | inl e ↦ unchanged k ws vs q r id v at h same.0 e
        | inr x ↦ elim x [
          | inl none ↦ let z = nameless k ws vs q r id v at none in renumbers k ws vs q r id v at h same.0 z.0 z.1
          | inr p ↦ renumbers k ws vs q r id v at h same.0 p.1.0 p.0.0
        ]
      ] in
      goes-on k ws vs q r id v at us (set vs id w) (length-set ws j n ∙ r.wide) (set_part hand_of (Site k us) vs id w there) move w (set-there vs id v w at)
      (subst (λ (z : List ℕ). SpinMoves id (spin_words ws) (map spin_part vs) z (map spin_part (set vs id w))) (sym (part-below ws 0 SPIN_WORDS j n (omega arith)))
      (set_part spin_part (SpinMoves id (spin_words ws) (map spin_part vs) (spin_words ws)) vs id w
      (spin-renames id (spin_words ws) (map spin_part vs) (spin_part v) h.task s r.spin (at_map spin_part vs id v at) stays
      (⊎_elim (λ a. inl a) (λ b. ⊎_elim (λ c. inr (inl c)) (λ t. inr (inr t.0.1)) b) same.1))))
      (subst (λ (z : List ℕ). ListKept z q (map parted (set vs id w))) (sym (part-below ws list_at LIST_WORDS j n (omega arith)))
      (set_part parted (ListKept (list_words ws) q) vs id w (list-keeps (list_words ws) q (map parted vs) id (parted v) r.list (at_map parted vs id v at) s
      (⊎_elim (λ e. ap (λ (z : SpinHand). z.entries) e) (λ e. ap (λ (z : SpinHand). z.entries) e) stays)
      (⊎_elim (λ e. ap (λ (z : SpinHand). z.frame) e) (λ e. ap (λ (z : SpinHand). z.frame) e) stays))))
      (sem-else ws j n (inr (omega arith))) (part-below ws wakes_at WAKE_WORDS j n (omega arith))
      (set_part seen (Sem (sem_words ws) q) vs id w both.0)
      (each-set IsLocked IsLocked vs id w (lock s stays (r.locked id v at)) (λ j x _ _ p. p) r.locked)
      (elim same.1 [
        | inl e ↦ duties-stay (wake_words ws) (grants_in ws) q vs id v (r.duty, r.staged) at w e same.0 refl refl
        | inr x ↦ elim x [
          | inl none ↦ duties-rename (wake_words ws) (grants_in ws) q vs id v (r.duty, r.staged) at w same.0 refl refl (nameless k ws vs q r id v at none).0
              ((r.duty.each id (duty_seen (grants_in ws) v) (at_map (duty_seen (grants_in ws)) vs id v at)).unnamed none)
          | inr p ↦ duties-rename (wake_words ws) (grants_in ws) q vs id v (r.duty, r.staged) at w same.0 refl refl p.1.0
              (quiet-apart (wake_words ws) (grants_in ws) q vs id v (r.duty, r.staged) at v p.1.0 p.1.1)
        ]
      ])
      (set_part seen (Hands id (sem_words ws) q (map seen vs) (sem_words ws)) vs id w both.1) same.0 refl refl (λ other. absurd (other same.2.0)) (stays-awake k ws vs q r id v at w same.0 refl refl)
    where
      lock : (s : SpinHand) → SpinStays v.spin s → busy_weight v.ext.sem.stage ≤ holds_in v.spin → busy_weight v.ext.sem.stage ≤ holds_in s
      lock s stays l = let e : holds_in s ≡ holds_in v.spin = ⊎_elim (λ e. ap holds_in e) (λ e. ap holds_in e) stays in omega (arith, e, l)

  spins-first : (k : Plan) (ws : List ℕ) (vs : List V) (id i n : ℕ) (v : V) (s : SpinHand) → Kept k ws vs → get_elem? vs id ≡ some v → i < SPIN_WORDS → SpinGoes (v.steps + 1) 0 v.spin s
      → (SpinFrees 0 v.spin s → may_free v)
      → SpinMoves id (spin_words ws) (map spin_part vs) (set (spin_words ws) i n) (set (map spin_part vs) id (part_with v s)) → Go k id ws vs (set ws (0 + i) n) (set vs id (spun v s))
  spins-first k ws vs id i n v s (q, r) at within turn may spin = let w : V = spun v s in let us : List ℕ = set ws (0 + i) n in
      let same = same-site k ws vs q r id v at (0 + i) n (omega (arith, within)) in
      goes-on k ws vs q r id v at us (set vs id w) (length-set ws (0 + i) n ∙ r.wide)
      (subst (λ (z : SiteWords). SiteKept o counted size k z (map hand_of (set vs id w))) (sym same) (keep_part hand_of (Site k ws) vs id v w at refl r.site_holds))
      (subst (λ (z : SiteWords). SiteMove id (count_in ws) (site k ws) vs z (set vs id w)) (sym same) (set-moves id (site k ws) (site k ws) vs v w at (spin-moved (site k ws) v 0 s turn))) w
      (set-there vs id v w at)
      (subst (λ (z : List ℕ). SpinMoves id (spin_words ws) (map spin_part vs) z (map spin_part (set vs id w))) (sym (part-in ws 0 SPIN_WORDS i n within))
      (set_part spin_part (SpinMoves id (spin_words ws) (map spin_part vs) (set (spin_words ws) i n)) vs id w spin))
      (subst (λ (z : List ℕ). ListKept z q (map parted (set vs id w))) (sym (part-above ws list_at LIST_WORDS (0 + i) n (omega (arith, within))))
      (set_part parted (ListKept (list_words ws) q) vs id w (list-spins (list_words ws) q (map parted vs) id (parted v) r.list (at_map parted vs id v at) s turn.entries (λ frees. (may frees).1))))
      (sem-else ws (0 + i) n (inl (λ e. omega (arith, e, within), omega (arith, within)))) (part-above ws wakes_at WAKE_WORDS (0 + i) n (omega (arith, within)))
      (keep_part seen (Sem (sem_words ws) q) vs id v w at refl r.sem)
      (each-set IsLocked IsLocked vs id w (lock (r.locked id v at)) (λ j x _ _ p. p) r.locked)
      (duties-stay (wake_words ws) (grants_in ws) q vs id v (r.duty, r.staged) at w refl refl refl refl)
      (hands-same k ws vs q r id v at (set vs id w) (keep_part seen (λ z. z ≡ map seen vs) vs id v w at refl refl)) refl refl refl
      (λ other. absurd (other refl)) (stays-awake k ws vs q r id v at w refl refl refl)
    where
      lock : busy_weight v.ext.sem.stage ≤ holds_in v.spin → busy_weight v.ext.sem.stage ≤ holds_in s
      lock l = holds-or-not v.spin
          (λ had. holds-or-not s (λ has. omega (arith, l, had, has)) (λ out. let a : busy_weight v.ext.sem.stage ≡ 0 = ap busy_weight (may (had, out)).0 in omega (arith, a)))
          (λ out. omega (arith, out, l))

  -- it is the only one
  pub sem-spins : (k : Plan) (ws : List ℕ) (vs : List V) (id l i n : ℕ) (v : V) (s : SpinHand) → Kept k ws vs → get_elem? vs id ≡ some v → l < 1 → i < SPIN_WORDS → SpinGoes (v.steps + 1) l v.spin s
      → (SpinFrees l v.spin s → may_free v)
      → SpinMoves id (spin_words ws) (map spin_part vs) (set (spin_words ws) i n) (set (map spin_part vs) id (part_with v s)) → Go k id ws vs (set ws (0 + i) n) (set vs id (spun v s))
  sem-spins k ws vs id zero i n v s r at one within turn may spin = spins-first k ws vs id i n v s r at within turn may spin
  sem-spins k ws vs id (suc l) i n v s r at one within turn may spin = absurd (omega (arith, one))

  -- what a step keeps of failed tries
  abbrev pub Tries : List ℕ → V → Hand → Type 0
  Tries ws v h = TriesWhere MayMiss (count_in ws) v h

  miss-of : {word : ℕ} (v : V) (h : Hand) → TriesWhere MayMiss word v h → h.misses ≢ v.hand.misses → MayMiss v
  miss-of {word} v h tries other = elim tries [ inl kept ↦ absurd (other kept.0) | inr failed ↦ failed.1 ]

  -- whatever keeps the facts of the count, the marks, the grant words and wakes, and to a handoff
  pub sem-turns : (k : Plan) (ws : List ℕ) (vs : List V) (q : List Waiter) (id i n : ℕ) (v : V) (h : Hand) (s : SemHand) (b : SemWake) → Queue k ws vs q → get_elem? vs id ≡ some v → count_at ≤ i
      → i < grants_at + 8 * MAX_TASKS → (count_at < i → marks_at ≤ i) → busy_weight s.stage ≤ holds_in v.spin → HandStep v.hand h (count_in (set ws i n)) → Tries ws v h
      → (let u : SemPart = record { task = h.task; held = h.held; sem = s } in Sem (sem_words (set ws i n)) q (set (map seen vs) id u))
      → (let u : SemPart = record { task = h.task; held = h.held; sem = s } in Hands id (sem_words ws) q (map seen vs) (sem_words (set ws i n)) (set (map seen vs) id u))
      → Duties (wake_words ws) (grants_in (set ws i n)) q (set vs id (with_changes with_sem with_wake v h s b))
      → (let u : SemPart = record { task = h.task; held = h.held; sem = s } in
      WakesGo (count_in ws) (count_in (set ws i n)) q Stay (grants_in ws) (wake_words ws) (wake_words ws) (holds_in v.spin) (seen v) u (wake_stands v.ext.wake) (wake_stands b))
      → Site k ws (set (map hand_of vs) id h) → Go k id ws vs (set ws i n) (set vs id (with_changes with_sem with_wake v h s b))
  sem-turns k ws vs q id i n v h s b r at above inside beyond lock step tries sem hands duties wakes there = let w : V = with_changes with_sem with_wake v h s b in let us : List ℕ = set ws i n in
      let same = same-site k ws vs q r id v at i n (omega (arith, inside)) in
      goes k ws vs q r id v at us (set vs id w) Stay (length-set ws i n ∙ r.wide)
      (subst (λ (z : SiteWords). SiteKept o counted size k z (map hand_of (set vs id w))) (sym same) (set_part hand_of (Site k ws) vs id w there))
      (subst (λ (z : SiteWords). SiteMove id (count_in ws) (site k ws) vs z (set vs id w)) (sym same)
      (set-moves id (site k ws) (site k ws) vs v w at (hold-moved (site k ws) v h w.ext step.goes (tries-go MayMiss v h tries)))) w (set-there vs id v w at)
      (subst (λ (z : List ℕ). SpinMoves id (spin_words ws) (map spin_part vs) z (map spin_part (set vs id w))) (sym (part-below ws 0 SPIN_WORDS i n (omega (arith, above))))
      (keep_part spin_part (SpinMoves id (spin_words ws) (map spin_part vs) (spin_words ws)) vs id v w at
      (λ x. record { task = step.task x; spin = v.spin }) (spin-same id (spin_words ws) (map spin_part vs) r.spin)))
      (subst (λ (z : List ℕ). ListKept z q (map parted (set vs id w))) (sym list-same) (keep_part parted (ListKept (list_words ws) q) vs id v w at refl r.list))
      (set_part seen (Sem (sem_words us) q) vs id w sem) (each-set IsLocked IsLocked vs id w lock (λ j x _ _ p. p) r.locked)
      (subst (λ (z : List ℕ). Duties z (grants_in us) q (set vs id w)) (sym (part-above ws wakes_at WAKE_WORDS i n (omega (arith, inside)))) duties) tt tt tt
      (set_part seen (Hands id (sem_words ws) q (map seen vs) (sem_words us)) vs id w hands) step.left lock (omega arith) (miss-of v h tries)
      (subst (λ (z : List ℕ). WakesGo (count_in ws) (count_in us) q Stay (grants_in ws) (wake_words ws) z (holds_in v.spin) (seen v) (seen w) (wake_stands v.ext.wake) (wake_stands b))
      (sym (part-above ws wakes_at WAKE_WORDS i n (omega (arith, inside)))) wakes)
    where
      list-same : list_words (set ws i n) ≡ list_words ws
      list-same = elim (native.Mathlib.Decide.dec_le (count_at + 1) i)
          [ yes far ↦ (let l = beyond (omega (arith, far)) in part-below ws list_at LIST_WORDS i n (omega (arith, l))) | no near ↦ part-above ws list_at LIST_WORDS i n (omega (arith, near, above)) ]

  -- the same of a step of a kind that keeps wakes, and counts no failed try
  pub sem-sems : (k : Plan) (ws : List ℕ) (vs : List V) (q : List Waiter) (id i n : ℕ) (v : V) (h : Hand) (s : SemHand) (b : SemWake) → Queue k ws vs q → get_elem? vs id ≡ some v → count_at ≤ i
      → i < grants_at + 8 * MAX_TASKS → (count_at < i → marks_at ≤ i) → busy_weight s.stage ≤ holds_in v.spin → HandStep v.hand h (count_in (set ws i n)) → KeepsSaw v.hand h
      → (let u : SemPart = record { task = h.task; held = h.held; sem = s } in Sem (sem_words (set ws i n)) q (set (map seen vs) id u))
      → (let u : SemPart = record { task = h.task; held = h.held; sem = s } in Hands id (sem_words ws) q (map seen vs) (sem_words (set ws i n)) (set (map seen vs) id u))
      → (let u : SemPart = record { task = h.task; held = h.held; sem = s } in
      WakeGoes (count_in ws) q (grants_in ws) (map seen vs) (count_in (set ws i n)) (grants_in (set ws i n)) (seen v) u v.ext.wake b)
      → Site k ws (set (map hand_of vs) id h) → Go k id ws vs (set ws i n) (set vs id (with_changes with_sem with_wake v h s b))
  sem-sems k ws vs q id i n v h s b r at above inside beyond lock step keeps sem hands kind there = let us : List ℕ = set ws i n in let w : V = with_changes with_sem with_wake v h s b in
      sem-turns k ws vs q id i n v h s b r at above inside beyond lock step (inl keeps) sem hands (number-or-not v.hand.task (λ out. absurd (step.numbered out)) (λ own has. (
        set_part (duty_seen (grants_in us)) (DutyKept (wake_words ws) q) vs id w
            (duty-goes-on seen (λ (x : V). x.ext.wake) (wake_words ws) (count_in ws) (count_in us) q (marks_in ws) (marks_in us) (grants_in ws) (grants_in us) vs id v (seen w) b r.sem sem at own has
            step.task r.duty kind),
        each-set IsStaged IsStaged vs id w (staged-goes (count_in ws) (count_in us) q (grants_in ws) (grants_in us) (map seen vs) (seen v) (seen w) v.ext.wake b (r.staged id v at) kind)
            (λ j x _ _ p. p) r.staged,
      )))
      (kind-goes (count_in ws) (count_in us) q (grants_in ws) (wake_words ws) (holds_in v.spin) (seen v) (seen w) v.ext.wake (map seen vs) b (r.locked id v at) lock
      (holds-or-not v.spin (λ one. omega (arith, one)) (λ out. omega (arith, out))) kind) there

  -- a step that leaves these words, and changes the hand alone
  pub sem-looks : (k : Plan) (ws : List ℕ) (vs : List V) (id n : ℕ) (v : V) (h : Hand) → Kept k ws vs → get_elem? vs id ≡ some v → HandStep v.hand h n → Tries ws v h → h.held ≡ v.hand.held
      → Site k ws (set (map hand_of vs) id h) → Go k id ws vs ws (set vs id (handed v h))
  sem-looks k ws vs id n v h (q, r) at step tries held there = let w : V = handed v h in let both = unchanged k ws vs q r id v at h held step.task in
      goes-on k ws vs q r id v at ws (set vs id w) r.wide (set_part hand_of (Site k ws) vs id w there)
      (set-moves id (site k ws) (site k ws) vs v w at (hold-moved (site k ws) v h v.ext step.goes (tries-go MayMiss v h tries))) w (set-there vs id v w at)
      (keep_part spin_part (SpinMoves id (spin_words ws) (map spin_part vs) (spin_words ws)) vs id v w at
      (λ x. record { task = step.task x; spin = v.spin }) (spin-same id (spin_words ws) (map spin_part vs) r.spin))
      (keep_part parted (ListKept (list_words ws) q) vs id v w at refl r.list)
      refl refl
      (set_part seen (Sem (sem_words ws) q) vs id w both.0)
      (each-set IsLocked IsLocked vs id w (r.locked id v at) (λ j x _ _ p. p) r.locked)
      (duties-stay (wake_words ws) (grants_in ws) q vs id v (r.duty, r.staged) at w step.task held refl refl)
      (set_part seen (Hands id (sem_words ws) q (map seen vs) (sem_words ws)) vs id w both.1) held refl refl (miss-of v h tries) (stays-awake k ws vs q r id v at w held refl refl)

  -- a store of the owner hint, of which no fact speaks
  pub sem-hints : (k : Plan) (ws : List ℕ) (vs : List V) (id n : ℕ) (v : V) → Kept k ws vs → get_elem? vs id ≡ some v → Go k id ws vs (set ws hint_at n) (set vs id (ticked v))
  sem-hints k ws vs id n v (q, r) at = let w : V = ticked v in let j : ℕ = hint_at in let us : List ℕ = set ws j n in let same = same-site k ws vs q r id v at j n (omega arith) in
      goes-on k ws vs q r id v at us (set vs id w) (length-set ws j n ∙ r.wide)
      (subst (λ (z : SiteWords). SiteKept o counted size k z (map hand_of (set vs id w))) (sym same) (keep_part hand_of (Site k ws) vs id v w at refl r.site_holds))
      (subst (λ (z : SiteWords). SiteMove id (count_in ws) (site k ws) vs z (set vs id w)) (sym same)
      (set-moves id (site k ws) (site k ws) vs v w at (hold-moved (site k ws) v v.hand v.ext (hand-stays v.hand) (inl (saw-stays v.hand))))) w (set-there vs id v w at)
      (subst (λ (z : List ℕ). SpinMoves id (spin_words ws) (map spin_part vs) z (map spin_part (set vs id w))) (sym (part-below ws 0 SPIN_WORDS j n (omega arith)))
      (keep_part spin_part (SpinMoves id (spin_words ws) (map spin_part vs) (spin_words ws)) vs id v w at refl (spin-same id (spin_words ws) (map spin_part vs) r.spin)))
      (subst (λ (z : List ℕ). ListKept z q (map parted (set vs id w))) (sym (part-above ws list_at LIST_WORDS j n (omega arith)))
      (keep_part parted (ListKept (list_words ws) q) vs id v w at refl r.list))
      (sem-else ws j n (inl (λ e. omega (arith, e), omega arith))) (part-above ws wakes_at WAKE_WORDS j n (omega arith))
      (keep_part seen (Sem (sem_words ws) q) vs id v w at refl r.sem)
      (each-set IsLocked IsLocked vs id w (r.locked id v at) (λ j x _ _ p. p) r.locked)
      (duties-stay (wake_words ws) (grants_in ws) q vs id v (r.duty, r.staged) at w refl refl refl refl)
      (hands-same k ws vs q r id v at (set vs id w) (keep_part seen (λ z. z ≡ map seen vs) vs id v w at refl refl)) refl refl refl
      (λ other. absurd (other refl)) (stays-awake k ws vs q r id v at w refl refl refl)

  pub sem-opens-rule : (k : Plan) → length (fresh k) ≡ width k → ((i : ℕ) → i < LOCK_WORDS → get_or (fresh k) i 0 ≡ 0) → Site k (fresh k) (map hand_of (first k idle ∷ []))
      → Kept k (fresh k) (first k idle ∷ [])
  sem-opens-rule k wide zeros there = let v : V = first k idle in let ws : List ℕ = list_words (fresh k) in (
    [],
    record {
      wide = wide;
      site_holds = there;
      spin = spin-opens (spin_words (fresh k)) (wide-part (fresh k) 0 SPIN_WORDS (omega (arith, wide))) (part-at (fresh k) 0 SPIN_WORDS 0 (omega arith) ∙ zeros 0 (omega arith));
      list = list-opens ws (wide-part (fresh k) list_at LIST_WORDS (omega (arith, wide))) (λ i few. part-at (fresh k) list_at LIST_WORDS i few ∙ zeros (list_at + i) (omega (arith, few)));
      sem = subst (λ (z : ℕ). SemKept z [] (marks_in (fresh k)) (grants_in (fresh k)) (nobody ∷ [])) (sym (zeros count_at (omega arith)))
          (sem-opens (marks_in (fresh k)) (grants_in (fresh k)) (lines-zero marks_at (fresh k) (λ t l. zeros (marks_at + 8 * t) (omega (arith, l)))));
      locked = each-snoc IsLocked [] v (omega arith) (λ j w e. absurd (some-ne-none w (sym e)));
      duty = duty-opens (wake_words (fresh k)) (duty_seen (grants_in (fresh k)) v) (wide-part (fresh k) wakes_at WAKE_WORDS (omega (arith, wide)))
          (λ i few. part-at (fresh k) wakes_at WAKE_WORDS i few ∙ zeros (wakes_at + i) (omega (arith, few))) (record { clear = refl; none = refl; absent = refl; out = refl }) refl refl;
      staged = each-snoc IsStaged [] v (staged-rest (seen v) v.ext.wake Rest refl refl (inl refl)) (λ j w e. absurd (some-ne-none w (sym e)));
    },
  )

  pub sem-splits : (k : Plan) (ws : List ℕ) (vs : List V) (id : ℕ) (v : V) → Kept k ws vs → get_elem? vs id ≡ some v → Site k ws (map hand_of (set vs id (ticked v) ++ split_off idle v ∷ []))
      → SiteMove id (count_in ws) (site k ws) vs (site k ws) (set vs id (ticked v) ++ split_off idle v ∷ []) → Go k id ws vs ws (set vs id (ticked v) ++ split_off idle v ∷ [])
  sem-splits k ws vs id v (q, r) at there move = let us : List V = set vs id (ticked v) in let w : V = split_off idle v in let n : ℕ = count_in ws in
      goes-on k ws vs q r id v at ws (us ++ w ∷ []) r.wide there move (ticked v) (still-there us w (ticked v) id (set-there vs id v (ticked v) at))
      (snoc_part spin_part (SpinMoves id (spin_words ws) (map spin_part vs) (spin_words ws)) us w
      (keep_part spin_part (λ ps. SpinMoves id (spin_words ws) (map spin_part vs) (spin_words ws) (ps ++ no_part ∷ [])) vs id v (ticked v) at refl
      (spin-comes id (spin_words ws) (map spin_part vs) r.spin)))
      (snoc_part parted (ListKept (list_words ws) q) us w (list-strangers (list_words ws) q (map parted us) (keep_part parted (ListKept (list_words ws) q) vs id v (ticked v) at refl r.list)))
      refl refl
      (snoc_part seen (Sem (sem_words ws) q) us w (sem-strangers (map seen us) n q (marks_in ws) (grants_in ws) (keep_part seen (Sem (sem_words ws) q) vs id v (ticked v) at refl r.sem)))
      (each-snoc IsLocked us w (omega arith) (each-set IsLocked IsLocked vs id (ticked v) (r.locked id v at) (λ j x _ _ p. p) r.locked)) (
        snoc_part (duty_seen (grants_in ws)) (DutyKept (wake_words ws) q) us w
            (duty-snoc (wake_words ws) q (map (duty_seen (grants_in ws)) us) (duty_seen (grants_in ws) w)
            (keep_part (duty_seen (grants_in ws)) (DutyKept (wake_words ws) q) vs id v (ticked v) at refl r.duty) (record { clear = refl; none = refl; absent = refl; out = refl }) refl refl),
        each-snoc IsStaged us w (staged-rest (seen w) w.ext.wake Rest refl refl (inl refl)) (each-set IsStaged IsStaged vs id (ticked v) (r.staged id v at) (λ j x _ _ p. p) r.staged),
      )
      (snoc_part seen (Hands id (sem_words ws) q (map seen vs) (sem_words ws)) us w
      (keep_part seen (λ (z : List SemPart). Hands id (sem_words ws) q (map seen vs) (sem_words ws) (z ++ nobody ∷ [])) vs id v (ticked v) at refl
      (hands-still id n q (marks_in ws) (grants_in ws) (map seen vs) n (marks_in ws) (grants_in ws) (map seen vs ++ nobody ∷ []) (omega arith)
      (λ t. let a = total-snoc (reads_as (grants_in ws) t) (map seen vs) nobody in omega (arith, a)) (unasked-same n (marks_in ws)) (λ t more none. absurd (omega (arith, more, none)))
      (λ x y at at'. inl (ap (λ (z : SemPart). z.sem.rest) (still-it x y at at'))) (λ x y at at' e. inl (ap (λ (z : SemPart). z.sem.stage) (still-it x y at at') ∙ e))
      (λ x y at at' e. inl (ap (λ (z : SemPart). z.sem.stage) (sym (still-it x y at at')) ∙ e)) (λ x y at at'. inl (ap (λ (z : SemPart). z.sem.bias) (still-it x y at at')))))) refl refl refl
      (λ other. absurd (other refl)) (stays-awake k ws vs q r id v at (ticked v) refl refl refl)
    where
      beside : (ps : List SemPart) (x : SemPart) (j : ℕ) → get_elem? ps j ≡ some x → get_elem? (ps ++ nobody ∷ []) j ≡ some x
      beside [] x j at = absurd (some-ne-none x (sym at))
      beside (p ∷ ps) x zero at = at
      beside (p ∷ ps) x (suc j) at = beside ps x j at

      still-it : (x y : SemPart) → get_elem? (map seen vs) id ≡ some x → get_elem? (map seen vs ++ nobody ∷ []) id ≡ some y → y ≡ x
      still-it x y at at' = some-injective y x (sym at' ∙ beside (map seen vs) x id at)

  pub sem-joins-rule : (k : Plan) (ws : List ℕ) (vs : List V) (id other : ℕ) (v w : V) → Kept k ws vs → get_elem? vs id ≡ some v → other ≢ id → get_elem? vs other ≡ some w → HoldsNothing w × rests w
      × (w.hand.task ≡ None)
      → Site k ws (map hand_of (set (set vs id (merged v w)) other (spent idle))) → SiteMove id (count_in ws) (site k ws) vs (site k ws) (set (set vs id (merged v w)) other (spent idle))
      → Go k id ws vs ws (set (set vs id (merged v w)) other (spent idle))
  sem-joins-rule k ws vs id other v w (q, r) at apart at' (free, out, none) there move = let u : V = merged v w in let us : List V = set vs id u in let x : V = spent idle in
      let there' : get_elem? us other ≡ some w = set_else vs id other u apart ∙ at' in let same : seen x ≡ seen w = λ i. record { task = sym none i; held = sym free.0 i; sem = sym out.0 i } in
      goes-on k ws vs q r id v at ws (set us other x) r.wide there move u (set_else us other id x (λ e. apart (sym e)) ∙ set-there vs id v u at)
      (set_part spin_part (SpinMoves id (spin_words ws) (map spin_part vs) (spin_words ws)) us other x
      (keep_part spin_part (λ ps. SpinMoves id (spin_words ws) (map spin_part vs) (spin_words ws) (set ps other no_part)) vs id v u at refl
      (spin-ends id (spin_words ws) (map spin_part vs) other (spin_part w) r.spin (at_map spin_part vs other w at') none free.1)))
      (set_part parted (ListKept (list_words ws) q) us other x (list-leaves (list_words ws) q (map parted us) other (parted w) (keep_part parted (ListKept (list_words ws) q) vs id v u at refl r.list)
      (at_map parted us other w there') (ap holds_at free.1)))
      refl refl
      (keep_part seen (Sem (sem_words ws) q) us other w x there' same (keep_part seen (Sem (sem_words ws) q) vs id v u at refl r.sem))
      (each-set IsLocked IsLocked us other x (omega arith) (λ j y _ _ p. p) (each-set IsLocked IsLocked vs id u (r.locked id v at) (λ j y _ _ p. p) r.locked))
      (let before : Duties (wake_words ws) (grants_in ws) q us = duties-stay (wake_words ws) (grants_in ws) q vs id v (r.duty, r.staged) at u refl refl refl refl in
      duties-end (wake_words ws) (grants_in ws) q us other w before there' x (sym same) out.0 out.1 (record { clear = refl; none = refl; absent = refl }))
      (hands-same k ws vs q r id v at (set us other x) (keep_part seen
      (λ (z : List SemPart). z ≡ map seen vs) us other w x there' same (keep_part seen (λ (z : List SemPart). z ≡ map seen vs) vs id v u at refl refl))) refl refl refl
      (λ other. absurd (other refl)) (stays-awake k ws vs q r id v at u refl refl refl)
