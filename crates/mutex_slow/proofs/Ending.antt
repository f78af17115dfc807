-- How a release ends a hold, from one step of it to the whole call.
use Rattle.std.proofs.Common.{◌≡◌, ◌∙◌, ℕ, ◌+◌, ◌/◌, ◌%◌, ◌<◌, ◌≤◌, List, Option, Some, None, refl, sym, ap, subst, arith}
use Rattle.word_bits.specs.OwnerWord.{task_code}
use Rattle.lock_core.specs.Pasts.{FoundAt, FoundSince, GoesOn, IsOwnStep}
use Rattle.lock_core.specs.Shown.{Shown, PastGoesOn, shown}
use Rattle.lock_core.specs.Laws.SiteRun.{step-by}
use Rattle.lock_core.specs.Spins.{holds_in}
use Rattle.lock_core.specs.Views.{ticked}
use Rattle.mutex_word.specs.Holders.{ReleasesOwner, own_word}
use Rattle.mutex_word.specs.OwnerTries.{FindsUnasked, IsMine, LeavesFlags, ReleasedTo, FindsAsked as AsksThere}
use Rattle.wait_list.specs.Lists.{waiter_code}
use Rattle.mutex_slow.specs.Mutexes.{V, list_at, owner_at, turned}
use Rattle.mutex_slow.specs.MutexPlaces.{task_of, wakes_after, DecidesAt, EndsUnasked, FindsAsked, FindsOwnCode, Names, NamesFirst, line_of}
use Rattle.mutex_slow.specs.Types.{Moment, Held, No, Alone, Waiter}
use Rattle.lock_core.proofs.Within.{found-within}

-- the pass's last step found its own code, with these flags
pub decides : (v u : V) (p q : List Moment) (n flags : ℕ) (held : Held) → u.hand.task ≡ v.hand.task → u.hand.held ≡ held → v.steps < u.steps → IsOwnStep u q → FoundAt owner_at n q → GoesOn p q → n / 8 ≡ task_code v.hand.task → n % 8 ≡ flags → FindsUnasked v.hand.task owner_at (v.steps + 1) u.steps p q
    → DecidesAt u.steps flags held (shown line_of v.fronts v p) (shown line_of u.fronts u q)
decides v u p q n flags held same holds later own found goes code is unasked = ((n, (later, omega arith, (record { past = q; by = step-by u v.hand.task q same own; found = found; after = goes; goes_on = λ p t. t }, holds), code), is), unasked)

-- the steps behind a look are those behind the call's first step
behind-look : (v w : V) (p r q : List Moment) (task : Option ℕ) (done : ℕ) → task ≡ v.hand.task → w ≡ ticked v → GoesOn p r → FindsUnasked task owner_at w.steps done r q → FindsUnasked v.hand.task owner_at (v.steps + 1) done p q
behind-look v w p r q task done named looked before unasked step later sooner = let steps = ap (λ (x : V). x.steps) looked in let f = unasked step (omega (arith, steps, later)) sooner in (f.0, found-within named before (λ p t. t) f.1, f.2)

-- the exchange of the own code for 0
pub ends-plain : (v u : V) (p q : List Moment) (task : Option ℕ) → task ≡ v.hand.task → ReleasesOwner turned v 0 u → FoundAt owner_at (own_word task) q → IsOwnStep u q → GoesOn p q → EndsUnasked (shown line_of v.fronts v p) (shown line_of u.fronts u q)
ends-plain v u p q task named is found own goes = let same = ap task_code named in let steps = ap (λ (w : V). w.steps) is in let none : u.hand.freed ≡ 0 = ap (λ (w : V). w.hand.freed) is in (
  omega (arith, none),
  (λ _. ap (λ (w : V). w.spin.entries) is),
  (u.steps, (λ _. refl), decides v u p q (own_word task) u.hand.freed No (ap (λ (w : V). w.hand.task) is) (ap (λ (w : V). w.hand.held) is) (omega (arith, steps)) own found goes (omega (arith, same)) (omega (arith, none)) (λ step later sooner. absurd (omega (arith, later, sooner, steps)))),
)

-- the exchange of the word for its flags, after a look
pub ends-flags : (v w u : V) (p r q : List Moment) (task : Option ℕ) (m : ℕ) → task ≡ v.hand.task → w ≡ ticked v → LeavesFlags owner_at task m q → ReleasedTo turned w m u → IsOwnStep u q → GoesOn p r → GoesOn r q → FindsUnasked task owner_at w.steps u.steps r q
    → EndsUnasked (shown line_of v.fronts v p) (shown line_of u.fronts u q)
ends-flags v w u p r q task m named looked flags left own before goes unasked = let same = ap task_code named in let is = left.1.2 in let later = left.1.1 in let few = left.0 in let mine = flags.2.2 in let flag = flags.4 in
    let before_it = ap (λ (x : V). x.steps) looked in let steps = ap (λ (x : V). x.steps) is in let freed : u.hand.freed ≡ m = ap (λ (x : V). x.hand.freed) is in (
      omega (arith, few, freed),
      (λ _. ap (λ (x : V). x.spin.entries) is ∙ ap (λ (x : V). x.spin.entries) looked),
      (u.steps, (λ _. refl), decides v u p q flags.0 u.hand.freed No (ap (λ (x : V). x.hand.task) is ∙ ap (λ (x : V). x.hand.task) looked) (ap (λ (x : V). x.hand.held) is) (omega (arith, before_it, later, steps)) own flags.1 (λ t e. goes t (before t e)) (omega (arith, mine, same)) (omega (arith, flag, freed)) (behind-look v w p r q task u.steps named looked before unasked)),
    )

-- the look that found a handoff asked for
pub looks-asked : (v w u : V) (p r q : List Moment) (task : Option ℕ) (n : ℕ) → task ≡ v.hand.task → v.hand.held ≡ Alone → w ≡ ticked v → AsksThere w n u → FoundAt owner_at n q → IsOwnStep u q → GoesOn p r → GoesOn r q → FindsUnasked task owner_at w.steps u.steps r q
    → FindsAsked u.steps (shown line_of v.fronts v p) (shown line_of u.fronts u q)
looks-asked v w u p r q task n named holds looked asked found own before goes unasked = let is = asked.2.2 in let later = asked.2.1 in let mine = asked.0.2 in let low = asked.0.1 in
    let before_it = ap (λ (x : V). x.steps) looked in let steps = ap (λ (x : V). x.steps) is in let same = ap (λ (x : V). task_code x.hand.task) looked in
    (n % 8, asked.1, low, decides v u p q n (n % 8) Alone (ap (λ (x : V). x.hand.task) is ∙ ap (λ (x : V). x.hand.task) looked) (ap (λ (x : V). x.hand.held) is ∙ (ap (λ (x : V). x.hand.held) looked ∙ holds)) (omega (arith, before_it, later, steps)) own found (λ t e. goes t (before t e)) (omega (arith, mine, same)) refl (behind-look v w p r q task u.steps named looked before unasked))

abbrev own-code-within : (step n : ℕ) (held : Held) (v a b u : Shown) → a.hand.task ≡ v.hand.task → v.steps ≤ a.steps → PastGoesOn v a → FindsOwnCode step n held a b → b.steps ≤ u.steps → PastGoesOn b u → FindsOwnCode step n held v u
own-code-within step n held v a b u same steps before f more after = let later = f.0 in let by_now = f.1 in (omega (arith, later, steps), omega (arith, by_now, more), (found-within same before after f.2.0, f.2.1), f.3 ∙ ap task_code same)

decides-within : (step flags : ℕ) (held : Held) (v b u : Shown) → DecidesAt step flags held v b → b.steps ≤ u.steps → PastGoesOn b u → DecidesAt step flags held v u
decides-within step flags held v b u d more after = let f = d.0 in (
  (f.0, own-code-within step f.0 held v v b u refl (omega arith) (λ p t. t) f.1 more after, f.2),
  λ s later sooner. let e = d.1 s later sooner in (e.0, found-within refl (λ p t. t) after e.1, e.2),
)

-- a call that ended its hold so goes on; where no flag is left it makes no further step
pub unasked-then : (v b u : Shown) → EndsUnasked v b → u.hand.freed ≡ b.hand.freed → (b.hand.freed ≡ 0 → (u.spin.entries ≡ b.spin.entries) × (u.steps ≡ b.steps)) → b.steps ≤ u.steps → PastGoesOn b u → EndsUnasked v u
unasked-then v b u e freed still more after = subst (λ (n : ℕ). (n < 2) × (n ≡ 0 → u.spin.entries ≡ v.spin.entries) × ((step : ℕ) × (n ≡ 0 → u.steps ≡ step) × DecidesAt step n No v u)) (sym freed)
    (e.0, (λ none. (still none).0 ∙ e.1 none), (e.2.0, (λ none. (still none).1 ∙ e.2.1 none), decides-within e.2.0 b.hand.freed No v b u e.2.2 more after))

pub asked-then : (step : ℕ) (v b u : Shown) → FindsAsked step v b → b.steps ≤ u.steps → PastGoesOn b u → FindsAsked step v u
asked-then step v b u f more after = (f.0, f.1, f.2, decides-within step f.0 Alone v b u f.3 more after)

-- the exchange that names the first waiter, or nobody, after a look at the list
pub names-found : (v w u : V) (p r q : List Moment) (task : Option ℕ) (first : Option Waiter) (n : ℕ) → task ≡ v.hand.task → u.hand.task ≡ v.hand.task → u.hand.held ≡ No → v.steps ≤ w.steps → w.steps < u.steps → FoundSince v.hand.task v.steps w.steps list_at (waiter_code first) p r → FoundAt owner_at n q → IsMine task n → IsOwnStep u q → GoesOn p r → GoesOn r q → holds_in u.spin ≡ 1 → Names first u.hand.freed
    → NamesFirst v.steps first (shown line_of v.fronts v p) (shown line_of u.fronts u q)
names-found v w u p r q task first n named same out before_it later looks found mine own before goes lock names = let code = mine.2 in let is = ap task_code named in
    ((u.steps, n, w.steps, (omega (arith, before_it, later), omega arith, (record { past = q; by = step-by u v.hand.task q same own; found = found; after = λ t e. goes t (before t e); goes_on = λ t e. e }, out), code ∙ is), (u.spin, own.spin, lock), later, (looks.0, looks.1, looks.2, found-within refl (λ t e. e) goes looks.3)), names)

pub named-within : (begun : ℕ) (first : Option Waiter) (v a b u : Shown) → a.hand.task ≡ v.hand.task → v.steps ≤ a.steps → begun ≤ a.steps → PastGoesOn v a → NamesFirst a.steps first a b → u.hand.freed ≡ b.hand.freed → b.steps ≤ u.steps → PastGoesOn b u → NamesFirst begun first v u
named-within begun first v a b u same steps since before n freed more after = let f = n.0 in let later = f.6.1 in
    ((f.0, f.1, f.2, own-code-within f.0 f.1 No v a b u same steps before f.3 more after, f.4, f.5, (f.6.0, omega (arith, later, since), f.6.2, found-within same before after f.6.3)), subst (Names first) (sym freed) n.1)

waiter-task : (first : Option Waiter) → waiter_code first ≡ task_code (task_of first)
waiter-task None = refl
waiter-task (Some w) = refl

-- a word without a flag names nobody
pub names-nobody : (first : Option Waiter) (word wakes : ℕ) → Names first word → word ≡ 0 → wakes_after (task_of first) wakes ≡ wakes
names-nobody None word wakes names none = refl
names-nobody (Some w) word wakes names none = let code = names.0 in absurd (omega (arith, code, none))

-- the look by which a call named the first waiter
pub named-looks : (first : Option Waiter) (v u : Shown) → NamesFirst u.spin.took first v u → FoundSince v.hand.task u.spin.took u.steps list_at (task_code (task_of first)) v.past u.past
named-looks first v u n = let f = n.0.6 in let a = f.2 in let b = n.0.5 in let d = n.0.3.1 in subst (λ (z : ℕ). FoundSince v.hand.task u.spin.took u.steps list_at z v.past u.past) (waiter-task first) (f.0, f.1, omega (arith, a, b, d), f.3)

-- a look under the wait lock, from one of the call's parts to the whole call
pub looks-within : (code : ℕ) (v a b u : Shown) → a.hand.task ≡ v.hand.task → PastGoesOn v a → u.spin.took ≤ a.steps → FoundSince a.hand.task a.steps b.steps list_at code a.past b.past → b.steps ≤ u.steps → PastGoesOn b u → FoundSince v.hand.task u.spin.took u.steps list_at code v.past u.past
looks-within code v a b u same before since f more after = let x = f.1 in let y = f.2 in (f.0, omega (arith, x, since), omega (arith, y, more), found-within same before after f.3)
