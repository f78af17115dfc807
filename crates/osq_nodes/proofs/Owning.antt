-- A step of a pass on a word of the queue, which keeps the queue's own rule, keeps the rule of the table.
use mathlib.Core.Bool.{not}
use Rattle.std.proofs.Common.{inl, nat_eq, ◌≡◌, ℕ, zero, suc, ◌+◌, ◌<◌, ◌≤◌, Bool, true, false, if◌then◌else◌, List, length, map, get_or, set, Option, Some, None, IsSome, sym, refl, ap, ◌∙◌, subst, arith, length-set, eq-eqb, ne_eqb}
use Rattle.std.proofs.Math.Seq.{take-set-lt}
use Rattle.std.proofs.lemmas.List.{drop-set-lt, get_or-take, length-take-le}
use mathlib.Core.Option.{some}
use mathlib.Core.Logic.{dite}
use native.Mathlib.Decide.{ℕ_discrete}
use lib.ListN.{get_elem?}
use Rattle.word_bits.specs.declared.TheConstants.{MAX_TASKS}
use Rattle.word_bits.specs.Histories.{Plan}
use Rattle.atomic_table.specs.Table.{Me, keeps}
use Rattle.atomic_table.specs.Seated.{TableId}
use Rattle.atomic_table.proofs.Lists.{at_map}
use Rattle.lock_core.specs.declared.layout.TheConstants.{LOCK_WORDS}
use Rattle.lock_core.specs.Nothings.{never, nothing}
use Rattle.lock_core.specs.Ops.{word_after, told_by}
use Rattle.lock_core.specs.SitePlays.{Turns}
use Rattle.lock_core.specs.Pasts.{FoundAt, FoundAtStep, GoesOn, IsOwnStep}
use Rattle.lock_core.specs.Laws.SiteRun.{found-at-step}
use Rattle.osq_nodes.specs.OsqHandles.{FoundBy, FoundNext, FoundThere, past_of}
use Rattle.lock_core.specs.Layout.{SiteWords, site, lay}
use Rattle.lock_core.specs.Views.{hand_of, named_of}
use Rattle.lock_core.specs.Sites.{SiteKept}
use Rattle.lock_core.specs.Moves.{Goes, Lets, SiteMove, Moved}
use Rattle.lock_core.specs.Laws.Move.{hand-stays, leaves-site, spin-idle, set-moves, saw-stays}
use Rattle.lock_core.specs.Totals.{total, total-at, total-two}
use Rattle.lock_core.specs.ViewParts.{each-set, keep_part, set-there}
use Rattle.lock_core.proofs.HandLaws.{not-both}
use Rattle.osq_nodes.specs.declared.pass.OsqPass.{OsqPass}
use Rattle.osq_nodes.specs.OsqPlaces.{is_swap, is_coming_first, waits_at, takes_at}
use Rattle.osq_nodes.specs.OsqSteps.{placed, swapped, taking_of, IsCodeOrNone}
use Rattle.osq_nodes.specs.OsqKept.{RowKept, with_at}
use Rattle.osq_nodes.specs.Words.{next_at, row_of, tail_in}
use Rattle.osq_nodes.specs.OsqStated.{Changes}
use Rattle.osq_nodes.specs.OsqRuled.{V, Seated, OsqKept, OsqMoves, NodeStep, FindsTail, Local, stepped}
use Rattle.osq_nodes.specs.Laws.OsqRuled.{goes, number-one}
use Rattle.osq_nodes.specs.OsqPasses.{OnQueue}
use Rattle.osq_nodes.specs.Types.{Op, Hand, Moment, Seen, Face, Place, Out, Node}
use Rattle.osq_nodes.proofs.Updating.{with_at-sets}
use Rattle.osq_nodes.proofs.Locals.{relocate}

pub same-number : (x : Option ℕ) (t u : ℕ) → x ≡ Some t → x ≡ Some u → u ≡ t
same-number x t u e f = cc

some-none : (x : Option ℕ) (t : ℕ) {P : Type 0} → x ≡ Some t → x ≡ None → P
some-none x t {P} e f = absurd cc

-- the task's place changes
seat-moves : (place : ℕ → Place) (vs : List V) (id t : ℕ) (v w : V) → Seated place vs → get_elem? vs id ≡ some v → w.hand ≡ v.hand → v.hand.task ≡ Some t → total (named_of t) (map hand_of vs) ≤ 1 → Seated (with_at place t w.ext.place) (set vs id w)
seat-moves place vs id t v w r at same has one = let hs : List Hand = map hand_of vs in let at' = at_map hand_of vs id v at in let sets = with_at-sets place t w.ext.place in let mine : named_of t v.hand ≡ 1 = number-one t v.hand.task has in record {
  mine = each-set (λ (u : V). (t' : ℕ) → u.hand.task ≡ Some t' → place t' ≡ u.ext.place) (λ (u : V). (t' : ℕ) → u.hand.task ≡ Some t' → with_at place t w.ext.place t' ≡ u.ext.place) vs id w
      (λ t' e. ap (with_at place t w.ext.place) (same-number v.hand.task t t' has (sym (ap (λ (h : Hand). h.task) same) ∙ e)) ∙ sets.0)
      (λ j u other at'' p t' e. sets.1 t' (λ is. let two = total-two (named_of t) hs id j v.hand u.hand at' (at_map hand_of vs j u at'') (λ k. other (sym k)) in let b : named_of t u.hand ≡ 1 = number-one t u.hand.task (e ∙ ap Some is) in omega (arith, two, b, mine, one)) ∙ p t' e) r.mine;
  free = λ t' z. let before : total (named_of t') hs ≡ 0 = sym (keep_part hand_of (λ (gs : List Hand). total (named_of t') gs ≡ total (named_of t') hs) vs id v w at same refl) ∙ z in
      sets.1 t' (λ is. let a = total-at (named_of t) hs id v.hand at' in let b : total (named_of t) hs ≡ 0 = subst (λ (u : ℕ). total (named_of u) hs ≡ 0) is before in omega (arith, a, b, mine)) ∙ r.free t' before;
  nameless = each-set (λ (u : V). u.hand.task ≡ None → u.ext.place ≡ Out) (λ (u : V). u.hand.task ≡ None → u.ext.place ≡ Out) vs id w (λ e. some-none v.hand.task t has (sym (ap (λ (h : Hand). h.task) same) ∙ e)) (λ j u _ _ p. p) r.nameless;
}

module _ (k : Plan) where
  -- a task's number is small
  pub its-small : (ws : List ℕ) (vs : List V) (id t : ℕ) (v : V) → OsqKept k ws vs → get_elem? vs id ≡ some v → v.hand.task ≡ Some t → (t < length k) × (length k ≤ MAX_TASKS)
  its-small ws vs id t v r at has = (((r.site_holds.each id v.hand (at_map hand_of vs id v at)).mine t has).0, r.site_holds.laid.small.tasks)

  row-long : (ws : List ℕ) (vs : List V) → OsqKept k ws vs → length (row_of ws) ≡ LOCK_WORDS
  row-long ws vs r = let w = r.wide in length-take-le LOCK_WORDS ws (omega (arith, w))

  -- a count that rises or stays
  no-fewer : (b : Bool) (n : ℕ) → n ≤ (if b then n + 1 else n)
  no-fewer true n = omega arith
  no-fewer false n = omega arith

  found-tail : (b : Bool) (n tail old : ℕ) → FindsTail b n tail → (if b then n else old) ≡ (if b then tail else old)
  found-tail true n tail old is = is
  found-tail false n tail old is = refl

  node-steps : (tail id : ℕ) (vs : List V) (v : V) (p : Place) (told : ℕ) → get_elem? vs id ≡ some v → FindsTail (is_swap v.ext.place p) told tail → NodeStep tail id vs (set vs id (stepped v.ext.place v p told))
  node-steps tail id vs v p told at finds = let from : Place = v.ext.place in record {
    before = v;
    after = stepped from v p told;
    at = at;
    at' = set-there vs id v (stepped from v p told) at;
    node = λ i. record { place = p; swaps = if is_swap from p then v.ext.swaps + 1 else v.ext.swaps; found = found-tail (is_swap from p) told tail v.ext.found finds i };
    fronts = refl;
  }

  own-step : (ws : List ℕ) (vs : List V) (id at n t told : ℕ) (v : V) (p : Place) (q' : List ℕ) (r : OsqKept k ws vs) → get_elem? vs id ≡ some v → v.hand.task ≡ Some t → at < LOCK_WORDS
      → RowKept (length k) (set (row_of ws) at n) (with_at r.place t p) q' → Changes (row_of ws) (set (row_of ws) at n) r.place r.queue q' → FindsTail (is_swap v.ext.place p) told (tail_in (row_of ws))
      → Goes (OsqKept k) (OsqMoves k) id ws vs (set ws at n) (set vs id (stepped v.ext.place v p told))
  own-step ws vs id at n t told v p q' r there has inside kept changes finds = let small = its-small ws vs id t v r there has in let lt = small.0 in let few = small.1 in let wide = r.wide in let w : V = stepped v.ext.place v p told in
      let stays : site k (set ws at n) ≡ site k ws = ap (lay k) (drop-set-lt LOCK_WORDS ws at n inside) in
      let moved : Moved (get_or ws 0 0) (site k ws) (site k ws) v w = record { site = leaves-site (site k ws) v.hand v.hand (hand-stays v.hand); tries = inl (saw-stays v.hand); spin = spin-idle (v.steps + 1) v.spin; fronts = no-fewer (is_coming_first v.ext.place p) v.fronts; counts = refl } in
      goes k id ws (set ws at n) vs (set vs id w) r
      record {
        wide = length-set ws at n ∙ r.wide;
        site_holds = subst (λ (z : SiteWords). SiteKept nothing never 0 k z (map hand_of (set vs id w))) (sym stays) (keep_part hand_of (SiteKept nothing never 0 k (site k ws)) vs id v w there refl r.site_holds);
        place = with_at r.place t p;
        queue = q';
        seated = seat-moves r.place vs id t v w r.seated there refl has ((r.site_holds.balances.named t (omega arith)).1);
        kept = subst (λ (row : List ℕ). RowKept (length k) row (with_at r.place t p) q') (sym (take-set-lt LOCK_WORDS ws at n inside)) kept;
      }
      (subst (λ (z : SiteWords). SiteMove id (get_or ws 0 0) (site k ws) vs z (set vs id w)) (sym stays) (set-moves id (site k ws) (site k ws) vs v w there moved))
      (node-steps (tail_in (row_of ws)) id vs v p told there finds)
      (subst (λ (row : List ℕ). Changes (row_of ws) row r.place r.queue q') (sym (take-set-lt LOCK_WORDS ws at n inside)) changes)

  -- what an operation asks, where it keeps the queue's own rule
  pub lets : (slots id t at : ℕ) (me : Me (Unit {0}) V) (op : Op) (to : ℕ → Place) (tells : ℕ → Type 0) → me.0.hand.task ≡ Some t → at < LOCK_WORDS → Local (length k) t me.0.ext.place at op to tells
      → Lets (OsqKept k) (OsqMoves k) slots id me at op (λ n m'. Turns me (stepped me.0.ext.place me.0 (to (told_by op n)) (told_by op n)) m' × tells (told_by op n))
  lets slots id t at me op to tells has inside local s r _ there _ = let v = me.0 in let row : List ℕ = row_of s.words in let n : ℕ = get_or s.words at 0 in let found : get_or row at 0 ≡ n = get_or-take LOCK_WORDS s.words at 0 inside in
      let small = its-small s.words s.views id t v r there has in
      let l = local row r.place r.queue (row-long s.words s.views r) small.0 small.1 r.kept (r.seated.mine id v there t has) in
      let F : ℕ → Type 0 = λ m. RowKept (length k) (set row at (word_after op m)) (with_at r.place t (to (told_by op m))) l.0 × Changes row (set row at (word_after op m)) r.place r.queue l.0 × FindsTail (is_swap v.ext.place (to (told_by op m))) (told_by op m) (tail_in row) × tells (told_by op m) in
      let kept = subst F found (l.1, l.2, l.3, l.4) in let told : ℕ = told_by op n in
      (stepped v.ext.place v (to told) told, keeps, tt, own-step s.words s.views id at (word_after op n) t told v (to told) l.0 r there has inside kept.0 kept.1 kept.2, refl, ((refl, refl), kept.3))

  -- the same of a pass that has a number
  pub lets-numbered : (slots id at : ℕ) (task : Option ℕ) (me : Me (Unit {0}) V) (op : Op) (to : ℕ → Place) (tells : ℕ → Type 0) → IsSome task → task ≡ me.0.hand.task → at < LOCK_WORDS → ((t : ℕ) → task ≡ Some t → Local (length k) t me.0.ext.place at op to tells)
      → Lets (OsqKept k) (OsqMoves k) slots id me at op (λ n m'. Turns me (stepped me.0.ext.place me.0 (to (told_by op n)) (told_by op n)) m' × tells (told_by op n))
  lets-numbered slots id at None me op to tells numbered same inside local = not-both false refl numbered
  lets-numbered slots id at (Some t) me op to tells numbered same inside local = lets slots id t at me op to tells (sym same) inside (local t refl)

-- a pass's number is that of one of the tasks
pub its-task : (k : Plan) (table seat : TableId) (me : Me (Unit {0}) (Seen Node)) (face : Face) (t : ℕ) → length k ≤ MAX_TASKS → OnQueue k table seat me face → face.task ≡ Some t → t < MAX_TASKS
its-task k table seat me face t few own mine = let l = (own.sits.planned t mine).0 in omega (arith, l, few)

-- what an operation asks of a pass with this number and place
pub moves-by : (size t : ℕ) (task : Option ℕ) (P P' : Place) (at at' : ℕ) (op op' : Op) (to to' : ℕ → Place) (tells : ℕ → Type 0) → task ≡ Some t → P' ≡ P → at' ≡ at → op ≡ op' → to ≡ to' → Local size t P at op to tells → (u : ℕ) → task ≡ Some u → Local size u P' at' op' to' tells
moves-by size t task P P' at at' op op' to to' tells mine here is-at is-op is-to local u e = relocate size t u P P' at at' op op' to to' tells (same-number task u t e mine) (sym here) (sym is-at) is-op is-to local

-- what it leaves of one at this place
pub kept-by : (v w : V) (P : Place) (to : Place → ℕ → Place) (n : ℕ) → w ≡ stepped v.ext.place v (to v.ext.place n) n → v.ext.place ≡ P → w ≡ stepped P v (to P n) n
kept-by v w P to n is here = is ∙ ap (λ (p : Place). stepped p v (to p n) n) here

pub takes-code : (v : V) (prev : Option ℕ) (y : ℕ) → stepped (waits_at prev) v (taking_of (waits_at prev) y) (suc y) ≡ placed v (takes_at prev y)
takes-code v None y = refl
takes-code v (Some p) y = refl

-- a code is at most the size
pub code-small : (n size : ℕ) → IsCodeOrNone size n → n ≤ size
code-small zero size is = omega arith
code-small (suc p) size is = let l = is p refl in omega (arith, l)

pub swap-found : (v : V) (n : ℕ) → (swapped v n).ext.found ≡ n
swap-found v zero = refl
swap-found v (suc p) = refl

-- what a step of the pass found, it found since the call began
pub found-by : (task : Option ℕ) (begun i n : ℕ) (v : V) (old past new : List Moment) → v.hand.task ≡ task → begun < v.steps → IsOwnStep v past → FoundAt i n past → GoesOn old past → GoesOn past new → FoundBy task begun i n old new
found-by task begun i n v old past new named later own found after goes_on = (v.steps, later, found-at-step v task i n old past new named own found after goes_on)

-- and it is still known later
pub since-later : (task : Option ℕ) (begun i n n' : ℕ) (old between new : List Moment) → n' ≡ n → FoundBy task begun i n old between → GoesOn between new → FoundBy task begun i n' old new
since-later task begun i n n' old between new same (step, later, f) on = (step, later, subst (λ (m : ℕ). FoundAtStep task step i m old new) (sym same) (record { past = f.past; by = f.by; found = f.found; after = f.after; goes_on = λ p t. on p (f.goes_on p t) }))

pub found-next : (at n task : ℕ) (pass : OsqPass) → at ≡ next_at task → FoundAt at n (past_of pass) → FoundNext (not (nat_eq n 0)) task pass
found-next at zero task pass same found = subst (λ (i : ℕ). FoundAt i 0 (past_of pass)) same found
found-next at (suc next) task pass same found = subst (λ (b : Bool). FoundNext (not b) task pass) (sym (ne_eqb (suc next) 0 (λ e. omega (arith, e)))) (next, subst (λ (i : ℕ). FoundAt i (suc next) (past_of pass)) same found)

pub found-there : (at at' n m m' : ℕ) (pass : OsqPass) → at ≡ at' → m ≡ m' → FoundAt at n (past_of pass) → FoundThere (nat_eq n m) at' m' pass
found-there at at' n m m' pass same-place same found = let there = subst (λ (i : ℕ). FoundAt i n (past_of pass)) same-place found in
    subst (λ (k : ℕ). FoundThere (nat_eq n m) at' k pass) same (dite (ℕ_discrete n m)
    (λ e. subst (λ (b : Bool). FoundThere b at' m pass) (sym (eq-eqb n m e)) (subst (λ (k : ℕ). FoundAt at' k (past_of pass)) e there))
    (λ ne. subst (λ (b : Bool). FoundThere b at' m pass) (sym (ne_eqb n m ne)) (n, there, ne)))
