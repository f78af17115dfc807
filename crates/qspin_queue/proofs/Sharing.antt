-- Nodes that all locks of a table share: what a store in one leaves of the other locks, and which nodes a pass uses.
use Rattle.std.proofs.Common.{◌≡◌, ◌≢◌, ℕ, suc, ◌+◌, ◌/◌, ◌<◌, ◌≤◌, ◌⊎◌, Bool, true, false, List, map, set, Some, sym, ap, ◌∙◌, subst, inl, ⊎_elim, arith}
use mathlib.Core.Option.{some, some-injective}
use mathlib.Core.Logic.{dite}
use native.Mathlib.Decide.{ℕ_discrete}
use lib.ListN.{get_elem?}
use Rattle.lock_core.specs.ViewParts.{at_unmap}
use Rattle.lock_core.specs.Records.{bit}
use Rattle.lock_core.specs.Totals.{total, total-at}
use Rattle.lock_core.specs.Views.{SpinPart}
use Rattle.lock_core.specs.LockHands.{lock_hand_at, frame_at, point_at, depth_of, with_lock_hand, RestsAt, at-with, at-else, depth-with}
use Rattle.lock_core.specs.SpinFrames.{code_is, uses, uses_as, stands_as}
use Rattle.lock_core.specs.SpinQueues.{LockKept, Queued, PointOk, Put, tail_of, tail_unit}
use Rattle.lock_core.specs.Laws.Spin.{lock-of}
use Rattle.lock_core.specs.Spins.{SpinFacts, IsOwnNode, OwnNodes, frame_on, node_code, word_in, next_in, locked_in, next_at, locked_at}
use Rattle.qspin_word.specs.Allows.{AreNumbered}
use Rattle.qspin_word.proofs.Codes.{some_summand, tail-in, total-below}
use Rattle.qspin_word.proofs.Regions.{codes, put-next, put-locked}
use Rattle.qspin_queue.specs.SpinQueueHandles.{IsTop, codes_of}
use Rattle.qspin_queue.specs.Types.{SpinHand, LockHand, Frame, Point, Linking}
use Rattle.qspin_queue.proofs.Standing.{counted, counts-stands, stands-below, stands-uses, uses-one, relocked, renext}

-- a node that nobody uses at the lock isn't in its queue, and no frame speaks of it
module _ (q : List ℕ) (fs : List Frame) (k : Queued q fs) (c : ℕ) (unused : total (uses_as c) fs ≡ 0) where
  absent : (p y : ℕ) → get_elem? q p ≡ some y → y ≢ c
  absent p y there same = let a = counted q p y there in let m = k.members y in let b = total-below (stands_as y) (uses_as y) (λ f. stands-below f.point (code_is y f.code)) fs in let z : total (uses_as y) fs ≡ total (uses_as c) fs = ap (λ (x : ℕ). total (uses_as x) fs) same in omega (arith, a, m, b, z, unused)

  not_used : (j : ℕ) (v : Frame) → get_elem? fs j ≡ some v → uses v.point ≡ true → v.code ≢ c
  not_used j v at used same = let t = total-at (uses_as c) fs j v at in let o : uses_as c v ≡ 1 = subst (λ (x : ℕ). uses_as x v ≡ 1) same (uses-one v used) in omega (arith, t, o, unused)

pub next-away : (word : ℕ) (next next' locked : ℕ → ℕ) (q : List ℕ) (fs : List Frame) (c x : ℕ) → total (uses_as c) fs ≡ 0 → Put next next' c x → LockKept word next locked q fs → LockKept word next' locked q fs
next-away word next next' locked q fs c x unused put k = record {
  balanced = k.balanced;
  queued = k.queued;
  linked = λ p y there. subst (λ (z : ℕ). (z ≡ 0) ⊎ (get_elem? q (suc p) ≡ some z)) (sym (put.other y (absent q fs k.queued c unused p y there))) (k.linked p y there);
  each = λ j v at. renext next next' locked q v.point v.code v.found v.next (λ e. put.other v.code (not_used q fs k.queued c unused j v at (ap uses e))) (λ e. put.other v.found (behind j v at e)) (λ _ b. put.other v.found (absent q fs k.queued c unused b.0 v.found b.1)) (λ e. inl (put.other v.code (not_used q fs k.queued c unused j v at (stands-uses v.point e)))) (k.each j v at);
}
  where
    behind : (j : ℕ) (v : Frame) → get_elem? fs j ≡ some v → v.point ≡ Linking → v.found ≢ c
    behind j v at e = let o = subst (λ (p : Point). PointOk next locked q p v.code v.found v.next) e (k.each j v at) in absent q fs k.queued c unused o.0.0 v.found o.0.1

pub locked-away : (word : ℕ) (next locked locked' : ℕ → ℕ) (q : List ℕ) (fs : List Frame) (c x : ℕ) → total (uses_as c) fs ≡ 0 → Put locked locked' c x → LockKept word next locked q fs → LockKept word next locked' q fs
locked-away word next locked locked' q fs c x unused put k = record {
  balanced = k.balanced;
  queued = k.queued;
  linked = k.linked;
  each = λ j v at. relocked next locked locked' q v.point v.code v.found v.next (λ used. put.other v.code (not_used q fs k.queued c unused j v at used)) (k.each j v at);
}

-- the codes that the words have are those of tasks' nodes, and no two locks have one
module _ {tasks : ℕ} (n : ℕ) (w : List ℕ) (q : ℕ → List ℕ) (ps : List SpinPart) (k : SpinFacts n w q ps) (named : AreNumbered tasks ps) where
  -- a pass uses the node of this code at this lock
  abbrev pub User : ℕ → ℕ → Type 0
  User l c = (j : ℕ) × (p : SpinPart) × (get_elem? ps j ≡ some p) × (uses (point_at l p.spin) ≡ true) × ((frame_at l p.spin).code ≡ c)

  pub user : (l c : ℕ) → 1 ≤ total (uses_as c) (map (frame_on l) ps) → User l c
  user l c found = let s = some_summand (uses_as c) (map (frame_on l) ps) found in let t = counts-stands (uses s.1.point) c s.1.code s.3 in let r = at_unmap (frame_on l) ps s.0 s.1 s.2 in
      (s.0, r.0, r.1, ap (λ (f : Frame). uses f.point) r.2 ∙ t.0, ap (λ (f : Frame). f.code) r.2 ∙ t.1)

  pub planned-user : (l c : ℕ) → User l c → c < codes_of tasks
  planned-user l c (j, p, at, used, is) = let o = (k.own j p at).node l used in let few = named.few j p at o.task o.named in let e = o.is in let i = o.four in omega (arith, few, e, i, is)

  pub small-user : (l c : ℕ) → User l c → c < codes
  small-user l c u = let s = planned-user l c u in let most = named.most in omega (arith, s, most)

  pub queued-user : (l : ℕ) → l < n → (r x : ℕ) → get_elem? (q l) r ≡ some x → User l x
  queued-user l less r x there = let fs : List Frame = map (frame_on l) ps in let c = counted (q l) r x there in let m = (lock-of n w q ps k l less).queued.members x in let b = total-below (stands_as x) (uses_as x) (λ f. stands-below f.point (code_is x f.code)) fs in user l x (omega (arith, c, m, b))

  pub small-queued : (l : ℕ) → l < n → (r x : ℕ) → get_elem? (q l) r ≡ some x → x < codes_of tasks
  small-queued l less r x there = planned-user l x (queued-user l less r x there)

  pub small-tail : (l : ℕ) → l < n → word_in w l / tail_unit < codes_of tasks
  small-tail l less = let b = (lock-of n w q ps k l less).balanced in ⊎_elim (λ e. let z = ap tail_of e in omega (arith, b.word_is, b.owner, b.comes, z)) (λ t. let s = small-queued l less t.0 (tail_of (q l)) t.1 in omega (arith, b.word_is, b.owner, b.comes, s)) (tail-in (q l))

  pub small-next : (l : ℕ) → l < n → (code : ℕ) → get_elem? (q l) 0 ≡ some code → next_in w code < codes_of tasks
  small-next l less code first = ⊎_elim (λ z. omega (arith, z)) (λ t. small-queued l less 1 (next_in w code) t) ((lock-of n w q ps k l less).linked 0 code first)

  same-pass : (j r : ℕ) (p s : SpinPart) (c : ℕ) → get_elem? ps j ≡ some p → get_elem? ps r ≡ some s → IsOwnNode p c → IsOwnNode s c → (j ≡ r) × (p ≡ s)
  same-pass j r p s c at at' o u = let t : o.task ≡ u.task = (let a = o.is in let b = u.is in let i = o.four in let i' = u.four in omega (arith, a, b, i, i')) in let e : j ≡ r = named.apart j r p s o.task at at' o.named (u.named ∙ ap Some (sym t)) in
      (e, some-injective p s (sym at ∙ (ap (get_elem? ps) e ∙ at')))

  pub same-lock : (l m c : ℕ) → User l c → User m c → l ≡ m
  same-lock l m c (j, p, at, used, is) (r, s, at', used', is') = let o : IsOwnNode p c = subst (IsOwnNode p) is ((k.own j p at).node l used) in let u : IsOwnNode s c = subst (IsOwnNode s) is' ((k.own r s at').node m used') in let same = same-pass j r p s c at at' o u in
      (k.own j p at).apart l m used (subst (λ (z : SpinPart). uses (point_at m z.spin) ≡ true) (sym same.1) used') (is ∙ (sym is' ∙ ap (λ (z : SpinPart). (frame_at m z.spin).code) (sym same.1)))

  -- a node that is used at one lock is used at no other
  pub unused-else : (l m c : ℕ) → m ≢ l → User l c → total (uses_as c) (map (frame_on m) ps) ≡ 0
  unused-else l m c apart u = let t : ℕ = total (uses_as c) (map (frame_on m) ps) in dite (ℕ_discrete t 0) (λ e. e) (λ not. absurd (apart (same-lock m l c (user m c (omega (arith, not))) u)))

  -- and one of a pass, past those that it uses, at none
  pub unused-new : (id : ℕ) (p : SpinPart) (t i : ℕ) → get_elem? ps id ≡ some p → p.task ≡ Some t → i < 4 → depth_of p.spin ≤ i → (m : ℕ) → total (uses_as (node_code t i)) (map (frame_on m) ps) ≡ 0
  unused-new id p t i at task four past m = let c : ℕ = node_code t i in let x : ℕ = total (uses_as c) (map (frame_on m) ps) in dite (ℕ_discrete x 0) (λ e. e)
      (λ not. let u = user m c (omega (arith, not)) in let s = u.1 in let o : IsOwnNode s c = subst (IsOwnNode s) u.4 ((k.own u.0 s u.2).node m u.3) in
      let same : o.task ≡ t = (let a = o.is in let b = o.four in omega (arith, a, b, four)) in let e : u.0 ≡ id = named.apart u.0 id s p t u.2 at (o.named ∙ ap Some same) task in
      let is : s ≡ p = some-injective s p (sym u.2 ∙ (ap (get_elem? ps) e ∙ at)) in let d : depth_of s.spin ≡ depth_of p.spin = ap (λ (z : SpinPart). depth_of z.spin) is in
      let a = o.is in let b = o.below in absurd (omega (arith, a, b, same, d, past)))

  pub away-next : (m c x : ℕ) → m < n → c < codes → total (uses_as c) (map (frame_on m) ps) ≡ 0 → LockKept (word_in w m) (next_in (set w (next_at c) x)) (locked_in w) (q m) (map (frame_on m) ps)
  away-next m c x more small unused = next-away (word_in w m) (next_in w) (next_in (set w (next_at c) x)) (locked_in w) (q m) (map (frame_on m) ps) c x unused (put-next w c x k.wide small) (lock-of n w q ps k m more)

  pub away-locked : (m c x : ℕ) → m < n → c < codes → total (uses_as c) (map (frame_on m) ps) ≡ 0 → LockKept (word_in w m) (next_in w) (locked_in (set w (locked_at c) x)) (q m) (map (frame_on m) ps)
  away-locked m c x more small unused = locked-away (word_in w m) (next_in w) (locked_in w) (locked_in (set w (locked_at c) x)) (q m) (map (frame_on m) ps) c x unused (put-locked w c x k.wide small) (lock-of n w q ps k m more)

used-bit : (b : Bool) → b ≡ true → bit b ≡ 1
used-bit b e = ap bit e

-- a pass begins to use its next node
pub own-enter : (l : ℕ) (p : SpinPart) (b : LockHand) (t i : ℕ) → RestsAt l p.spin → uses b.frame.point ≡ true → p.task ≡ Some t → i ≡ depth_of p.spin → i < 4 → b.frame.code ≡ node_code t i → OwnNodes p → OwnNodes (record p { spin = with_lock_hand l p.spin b })
own-enter l p b t i out used task is four code o = record {
  node = λ m using. dite (ℕ_discrete m l)
      (λ e. record { task = t; index = i; named = task; four = four; below = omega (arith, deeper, is); is = ap (λ (r : ℕ). (frame_at r (with_lock_hand l p.spin b)).code) e ∙ (ap (λ (x : LockHand). x.frame.code) here ∙ code) })
      (λ apart. let n = old m apart using in record { task = n.task; index = n.index; named = n.named; four = n.four; below = (let b = n.below in omega (arith, b, deeper)); is = ap (λ (x : LockHand). x.frame.code) (there m apart) ∙ n.is });
  apart = λ m r using using' same. dite (ℕ_discrete m l)
      (λ e. dite (ℕ_discrete r l) (λ e'. e ∙ sym e') (λ apart. absurd (clash r apart using' (sym same ∙ (ap (λ (z : ℕ). (frame_at z (with_lock_hand l p.spin b)).code) e ∙ (ap (λ (x : LockHand). x.frame.code) here ∙ code))))))
      (λ apart. dite (ℕ_discrete r l) (λ e'. absurd (clash m apart using (same ∙ (ap (λ (z : ℕ). (frame_at z (with_lock_hand l p.spin b)).code) e' ∙ (ap (λ (x : LockHand). x.frame.code) here ∙ code)))))
      (λ apart'. o.apart m r (ap (λ (x : LockHand). uses x.frame.point) (sym (there m apart)) ∙ using) (ap (λ (x : LockHand). uses x.frame.point) (sym (there r apart')) ∙ using') (ap (λ (x : LockHand). x.frame.code) (sym (there m apart)) ∙ (same ∙ ap (λ (x : LockHand). x.frame.code) (there r apart')))));
}
  where
    here : lock_hand_at l (with_lock_hand l p.spin b) ≡ b
    here = at-with l p.spin b

    there : (m : ℕ) → m ≢ l → lock_hand_at m (with_lock_hand l p.spin b) ≡ lock_hand_at m p.spin
    there m apart = at-else l m p.spin b apart

    deeper : depth_of (with_lock_hand l p.spin b) ≡ depth_of p.spin + 1
    deeper = let d = depth-with l p.spin b in let x = used-bit (uses b.frame.point) used in let y : bit (uses (point_at l p.spin)) ≡ 0 = ap (λ (z : Point). bit (uses z)) out in omega (arith, d, x, y)

    old : (m : ℕ) → m ≢ l → uses (point_at m (with_lock_hand l p.spin b)) ≡ true → IsOwnNode p (frame_at m p.spin).code
    old m apart using = o.node m (ap (λ (x : LockHand). uses x.frame.point) (sym (there m apart)) ∙ using)

    clash : (m : ℕ) → m ≢ l → uses (point_at m (with_lock_hand l p.spin b)) ≡ true → (frame_at m (with_lock_hand l p.spin b)).code ≡ node_code t i → ⊥
    clash m apart using same = let n = old m apart using in let e : (frame_at m p.spin).code ≡ node_code t i = ap (λ (x : LockHand). x.frame.code) (sym (there m apart)) ∙ same in let a = n.is in let b = n.four in let c = n.below in
        let u : n.task ≡ t = omega (arith, a, b, e, four) in omega (arith, a, c, e, u, is)

-- a pass gives up the node that it used last
pub own-leave : (l : ℕ) (p : SpinPart) (b : LockHand) → uses (point_at l p.spin) ≡ true → uses b.frame.point ≡ false → IsTop l p → OwnNodes p → OwnNodes (record p { spin = with_lock_hand l p.spin b })
own-leave l p b used free top o = record {
  node = λ m using. let t = else_where m using in let n = t.1 in record { task = n.task; index = n.index; named = n.named; four = n.four; below = lower m t.0 n using; is = ap (λ (x : LockHand). x.frame.code) (there m t.0) ∙ n.is };
  apart = λ m r using using' same. let t = else_where m using in let u = else_where r using' in
      o.apart m r (ap (λ (x : LockHand). uses x.frame.point) (sym (there m t.0)) ∙ using) (ap (λ (x : LockHand). uses x.frame.point) (sym (there r u.0)) ∙ using') (ap (λ (x : LockHand). x.frame.code) (sym (there m t.0)) ∙ (same ∙ ap (λ (x : LockHand). x.frame.code) (there r u.0)));
}
  where
    there : (m : ℕ) → m ≢ l → lock_hand_at m (with_lock_hand l p.spin b) ≡ lock_hand_at m p.spin
    there m apart = at-else l m p.spin b apart

    shallower : depth_of (with_lock_hand l p.spin b) + 1 ≡ depth_of p.spin
    shallower = let d = depth-with l p.spin b in let x : bit (uses b.frame.point) ≡ 0 = ap bit free in let y = used-bit (uses (point_at l p.spin)) used in omega (arith, d, x, y)

    else_where : (m : ℕ) → uses (point_at m (with_lock_hand l p.spin b)) ≡ true → (m ≢ l) × IsOwnNode p (frame_at m p.spin).code
    else_where m using = dite (ℕ_discrete m l)
        (λ e. let no : false ≡ true = sym free ∙ (ap (λ (x : LockHand). uses x.frame.point) (sym (at-with l p.spin b)) ∙ (ap (λ (z : ℕ). uses (point_at z (with_lock_hand l p.spin b))) (sym e) ∙ using)) in absurd cc)
        (λ apart. (apart, o.node m (ap (λ (x : LockHand). uses x.frame.point) (sym (there m apart)) ∙ using)))

    lower : (m : ℕ) → m ≢ l → (n : IsOwnNode p (frame_at m p.spin).code) → uses (point_at m (with_lock_hand l p.spin b)) ≡ true → n.index < depth_of (with_lock_hand l p.spin b)
    lower m apart n using = dite (ℕ_discrete n.index top.index)
        (λ e. let same : (frame_at m p.spin).code ≡ (frame_at l p.spin).code = (let a = n.is in let b = top.is in let t : n.task ≡ top.task = same-task n.task top.task (sym n.named ∙ top.named) in omega (arith, a, b, t, e)) in
        absurd (apart (o.apart m l (ap (λ (x : LockHand). uses x.frame.point) (sym (there m apart)) ∙ using) used same)))
        (λ not. let a = n.below in let b = top.last in omega (arith, not, a, b, shallower))
      where
        same-task : (a b : ℕ) → Some a ≡ Some b → a ≡ b
        same-task a b e = cc

pub own-entries : (p : SpinPart) (s : SpinHand) (e : ℕ) → OwnNodes (record p { spin = s }) → OwnNodes (record p { spin = record s { entries = e } })
own-entries p s e o = record { node = λ m used. let n = o.node m used in record { task = n.task; index = n.index; named = n.named; four = n.four; below = n.below; is = n.is }; apart = o.apart }
