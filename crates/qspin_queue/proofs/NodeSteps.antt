-- The steps on nodes, and those that change the queue.
use Rattle.std.proofs.Common.{◌≡◌, ◌≢◌, ℕ, suc, ◌+◌, ◌*◌, ◌/◌, ◌%◌, ◌<◌, ◌≤◌, ◌⊎◌, Bool, true, false, List, [], ◌∷◌, ◌++◌, length, length-append, set, sym, refl, ap, ◌∙◌, subst, inl, inr, ⊎_elim, arith}
use mathlib.Core.Option.{some, some-injective, some-ne-none}
use mathlib.Core.Logic.{dite}
use native.Mathlib.Decide.{ℕ_discrete}
use lib.ListN.{get_elem?}
use Rattle.atomic_table.proofs.Lists.{at_longer, at_last, at_snoc}
use Rattle.lock_core.specs.ViewParts.{each-set}
use Rattle.lock_core.specs.Totals.{total, total-set, total-same, total-snoc, total-at}
use Rattle.qspin_queue.specs.Types.{Frame, Out, Clearing, Cleared, Linking, Waiting, Head, Ready, Passing, Holding}
use Rattle.lock_core.specs.SpinFrames.{counts, when, code_is, stands, uses, stands_as, uses_as}
use Rattle.lock_core.specs.SpinQueues.{tail_of, tail_unit, Before, Queued, Linked, StandsAtHead, PointOk, FrameOk, LockKept, Put}
use Rattle.qspin_word.proofs.Codes.{code_is-same, code_is-else, one_place, one_behind, tail-snoc, tail-in, no_tail, past_end, alone, some_first}
use Rattle.lock_core.specs.Laws.Spin.{Recount, recount, requeued, rekept}
use Rattle.qspin_queue.proofs.Fronts.{none_ready}
use Rattle.qspin_queue.proofs.Standing.{once, other_code, not_there, stands-uses, stands-one, uses-one, relocked, renext, longer, outside, shifted}
use Rattle.qspin_word.specs.SpinWordHands.{at_point}

module _ (word : ℕ) (next locked : ℕ → ℕ) (q : List ℕ) (fs : List Frame) (id : ℕ) where
  -- the first word of a node that nobody uses is cleared
  pub wipes : (locked' : ℕ → ℕ) (f : Frame) (c : ℕ) → total (uses_as c) fs ≡ 0 → Put locked locked' c 0 → LockKept word next locked q fs → get_elem? fs id ≡ some (at_point f Out) → LockKept word next locked' q (set fs id (record { point = Clearing; code = c; found = 0; next = 0 }))
  wipes locked' f c unused put k at = let b = k.balanced in let old : Frame = at_point f Out in let new : Frame = record { point = Clearing; code = c; found = 0; next = 0 } in let r = recount fs id old new at in record {
    balanced = record { word_is = omega arith; owner = omega arith; comes = omega arith; rivals = omega arith; undone = omega arith; fronts = omega arith };
    queued = record {
      members = λ d. total-same (stands_as d) fs id old new at refl ∙ k.queued.members d;
      used = λ d. let t = total-set (uses_as d) fs id old new at in let u = k.queued.used d in dite (ℕ_discrete c d) (λ e. let z = code_is-same d in let y : total (uses_as d) fs ≡ 0 = subst (λ x. total (uses_as x) fs ≡ 0) e unused in let s : code_is d c ≡ code_is d d = ap (code_is d) e in omega arith) (λ n. let z = code_is-else d c n in omega arith);
      real = k.queued.real;
    };
    linked = k.linked;
    each = each-set (FrameOk next locked q) (FrameOk next locked' q) fs id new put.here (λ j v _ there ok. relocked next locked locked' q v.point v.code v.found v.next (λ uses. put.other v.code (λ e. free j v there uses e)) ok) k.each;
  }
    where
      free : (j : ℕ) (v : Frame) → get_elem? fs j ≡ some v → uses v.point ≡ true → v.code ≡ c → ⊥
      free j v there used same = let t = total-at (uses_as c) fs j v there in let o : uses_as c v ≡ 1 = subst (λ x. uses_as x v ≡ 1) same (uses-one v used) in omega arith

  -- and then its second one
  pub cleans : (next' : ℕ → ℕ) (f : Frame) → Put next next' f.code 0 → LockKept word next locked q fs → get_elem? fs id ≡ some (at_point f Clearing) → LockKept word next' locked q (set fs id (at_point f Cleared))
  cleans next' f put k at = let b = k.balanced in let c = f.code in let old : Frame = at_point f Clearing in let new : Frame = at_point f Cleared in let r = recount fs id old new at in
      let apart = λ (p x : ℕ) (there : get_elem? q p ≡ some x). not_there q fs k.queued id p x old at refl refl there in record {
        balanced = record { word_is = omega arith; owner = omega arith; comes = omega arith; rivals = omega arith; undone = omega arith; fronts = omega arith };
        queued = requeued q fs id old new at (λ d. refl) (λ d. omega arith) k.queued;
        linked = λ p x there. let same = put.other x (apart p x there) in subst (λ n. (n ≡ 0) ⊎ (get_elem? q (suc p) ≡ some n)) (sym same) (k.linked p x there);
        each = each-set (FrameOk next locked q) (FrameOk next' locked q) fs id new (k.each id old at, put.here)
            (λ j v far there ok. let else = λ (used : uses v.point ≡ true). put.other v.code (other_code q fs k.queued id j old v at there far refl used) in
            renext next next' locked q v.point v.code v.found v.next (λ e. else (ap uses e)) (λ e. put.other v.found (behind j v there e ok)) (λ _ b. put.other v.found (apart b.0 v.found b.1)) (λ e. inl (else (stands-uses v.point e))) ok) k.each;
      }
    where
      behind : (j : ℕ) (v : Frame) → get_elem? fs j ≡ some v → v.point ≡ Linking → FrameOk next locked q v → v.found ≢ f.code
      behind j v there e ok = let o = subst (λ p. PointOk next locked q p v.code v.found v.next) e ok in not_there q fs k.queued id o.0.0 v.found (at_point f Clearing) at refl refl o.0.1

  -- it stands behind a tail, and tells the node before it
  pub links : (next' : ℕ → ℕ) (f : Frame) → Put next next' f.found f.code → LockKept word next locked q fs → get_elem? fs id ≡ some (at_point f Linking) → LockKept word next' locked q (set fs id (at_point f Waiting))
  links next' f put k at = let b = k.balanced in let old : Frame = at_point f Linking in let new : Frame = at_point f Waiting in let r = recount fs id old new at in let mine = k.each id old at in record {
    balanced = record { word_is = omega arith; owner = omega arith; comes = omega arith; rivals = omega arith; undone = omega arith; fronts = omega arith };
    queued = requeued q fs id old new at (λ d. refl) (λ d. omega arith) k.queued;
    linked = λ p x there. dite (ℕ_discrete x f.found)
        (λ e. inr (subst (λ n. get_elem? q (suc p) ≡ some n) (sym (ap next' e ∙ put.here)) (subst (λ n. get_elem? q (suc n) ≡ some f.code) (one_place q mine.0.0 p f.found (once q fs k.queued f.found) mine.0.1 (there ∙ ap some e)) mine.0.2)))
        (λ n. subst (λ m. (m ≡ 0) ⊎ (get_elem? q (suc p) ≡ some m)) (sym (put.other x n)) (k.linked p x there));
    each = each-set (FrameOk next locked q) (FrameOk next' locked q) fs id new (inl (mine.0, mine.2, put.here))
        (λ j v far there ok. renext next next' locked q v.point v.code v.found v.next (λ e. put.other v.code (clean j v there e)) (λ e. put.other v.found (behind j v far there e ok)) (λ e b. put.other v.found (after j v far there e b))
        (λ e. dite (ℕ_discrete v.code f.found) (λ s. inr (ap next s ∙ mine.1)) (λ n. inl (put.other v.code n))) ok) k.each;
  }
    where
      clean : (j : ℕ) (v : Frame) → get_elem? fs j ≡ some v → v.point ≡ Cleared → v.code ≢ f.found
      clean j v there e same = let mine = k.each id (at_point f Linking) at in not_there q fs k.queued j mine.0.0 f.found v there (ap uses e) (ap stands e) mine.0.1 (sym same)

      behind : (j : ℕ) (v : Frame) → j ≢ id → get_elem? fs j ≡ some v → v.point ≡ Linking → FrameOk next locked q v → v.found ≢ f.found
      behind j v far there e ok same = let mine = k.each id (at_point f Linking) at in let o = subst (λ p. PointOk next locked q p v.code v.found v.next) e ok in
          other_code q fs k.queued id j (at_point f Linking) v at there far refl (ap uses e) (one_behind q f.found v.code f.code (once q fs k.queued f.found) (subst (λ x. Before q x v.code) same o.0) mine.0)

      after : (j : ℕ) (v : Frame) → j ≢ id → get_elem? fs j ≡ some v → v.point ≡ Waiting → Before q v.found v.code → v.found ≢ f.found
      after j v far there e b same = let mine = k.each id (at_point f Linking) at in
          other_code q fs k.queued id j (at_point f Linking) v at there far refl (ap uses e) (one_behind q f.found v.code f.code (once q fs k.queued f.found) (subst (λ x. Before q x v.code) same b) mine.0)

  -- it sees that it was made the head
  pub fronts : (f : Frame) → locked f.code ≡ 1 → LockKept word next locked q fs → get_elem? fs id ≡ some (at_point f Waiting) → LockKept word next locked q (set fs id (record f { point = Head; next = 0 }))
  fronts f told k at = let b = k.balanced in let old : Frame = at_point f Waiting in let new : Frame = record f { point = Head; next = 0 } in let r = recount fs id old new at in
      rekept word word next locked q fs id old new at (λ d. refl) (λ d. omega arith) (⊎_elim (λ t. let z = t.1 in absurd (omega arith)) (λ t. (t.0, inr t.1, inl refl)) (k.each id old at)) k
      record { word_is = omega arith; owner = omega arith; comes = omega arith; rivals = omega arith; undone = omega arith; fronts = omega arith }

  -- the head sees the byte and the bit 0
  pub readies : (f : Frame) → word % 512 ≡ 0 → LockKept word next locked q fs → get_elem? fs id ≡ some (at_point f Head) → LockKept word next locked q (set fs id (at_point f Ready))
  readies f free k at = let b = k.balanced in let r = recount fs id (at_point f Head) (at_point f Ready) at in let mine = k.each id (at_point f Head) at in
      let none = none_ready next locked q fs id (at_point f Head) k.queued.used k.each at refl refl mine.0 in let one = some_first q f.code mine.0 in
      rekept word word next locked q fs id (at_point f Head) (at_point f Ready) at (λ c. refl) (λ c. omega arith) mine k record { word_is = omega arith; owner = omega arith; comes = omega arith; rivals = omega arith; undone = omega arith; fronts = omega arith }

  -- fetch_or(1) by the head
  pub passes : (f : Frame) → LockKept word next locked q fs → get_elem? fs id ≡ some (at_point f Ready) → LockKept (word + 1) next locked q (set fs id (at_point f Passing))
  passes f k at = let b = k.balanced in let r = recount fs id (at_point f Ready) (at_point f Passing) at in
      rekept word (word + 1) next locked q fs id (at_point f Ready) (at_point f Passing) at (λ c. refl) (λ c. omega arith) (k.each id (at_point f Ready) at) k record { word_is = omega arith; owner = omega arith; comes = omega arith; rivals = omega arith; undone = omega arith; fronts = omega arith }

  learnt : (code found after : ℕ) → Linked next q → StandsAtHead next locked q code found after → StandsAtHead next locked q code found (next code)
  learnt code found after linked ok = (ok.0, ok.1, ⊎_elim (λ e. inl e) (λ e. inr (e, refl)) (linked 0 code ok.0))

  -- the head sees the next node, or none
  pub learns : (f : Frame) → LockKept word next locked q fs → get_elem? fs id ≡ some (at_point f Head) → LockKept word next locked q (set fs id (record f { point = Head; next = next f.code }))
  learns f k at = let b = k.balanced in let old : Frame = at_point f Head in let new : Frame = record f { point = Head; next = next f.code } in let r = recount fs id old new at in
      rekept word word next locked q fs id old new at (λ d. refl) (λ d. omega arith) (learnt f.code f.found f.next k.linked (k.each id old at)) k
      record { word_is = omega arith; owner = omega arith; comes = omega arith; rivals = omega arith; undone = omega arith; fronts = omega arith }

  pub learns-late : (f : Frame) → LockKept word next locked q fs → get_elem? fs id ≡ some (at_point f Passing) → LockKept word next locked q (set fs id (record f { point = Passing; next = next f.code }))
  learns-late f k at = let b = k.balanced in let old : Frame = at_point f Passing in let new : Frame = record f { point = Passing; next = next f.code } in let r = recount fs id old new at in
      rekept word word next locked q fs id old new at (λ d. refl) (λ d. omega arith) (learnt f.code f.found f.next k.linked (k.each id old at)) k
      record { word_is = omega arith; owner = omega arith; comes = omega arith; rivals = omega arith; undone = omega arith; fronts = omega arith }

  -- a node enters the queue: it becomes the tail
  entered : (f g : Frame) → f.code ≢ 0 → g.code ≡ f.code → stands g.point ≡ true → uses g.point ≡ true → Recount (counts fs) (counts (set fs id g)) Cleared Cleared → FrameOk next locked (q ++ f.code ∷ []) g → LockKept word next locked q fs → get_elem? fs id ≡ some (at_point f Cleared)
      → LockKept (word % 512 + tail_unit * f.code) next locked (q ++ f.code ∷ []) (set fs id g)
  entered f g real same standing using r mine k at = let b = k.balanced in let c = f.code in let old : Frame = at_point f Cleared in let clean = k.each id old at in let long = length-append q (c ∷ []) in let last = tail-snoc q c in record {
    balanced = record { word_is = omega arith; owner = omega arith; comes = omega arith; rivals = omega arith; undone = omega arith; fronts = omega arith };
    queued = record {
      members = λ d. let t = total-set (stands_as d) fs id old g at in let n = total-snoc (code_is d) q c in let m = k.queued.members d in let s : stands_as d g ≡ code_is d c = ap (λ z. when z (code_is d g.code)) standing ∙ ap (code_is d) same in omega arith;
      used = λ d. let t = total-same (uses_as d) fs id old g at (ap (λ z. when z (code_is d g.code)) using ∙ ap (code_is d) same) in let u = k.queued.used d in omega arith;
      real = let n = total-snoc (code_is 0) q c in let z = code_is-else 0 c real in let r = k.queued.real in omega arith;
    };
    linked = λ p x there. ⊎_elim (λ e. ⊎_elim (λ z. inl z) (λ n. inr (at_longer q (c ∷ []) (suc p) (next x) n)) (k.linked p x e)) (λ e. inl (ap next (sym e) ∙ clean.1)) (at_snoc q c x p there);
    each = each-set (FrameOk next locked q) (FrameOk next locked (q ++ c ∷ [])) fs id g mine (λ j v _ _ ok. longer next locked q c v.point v.code v.found v.next ok) k.each;
  }

  -- it finds no tail, and is the head
  pub enters-first : (f : Frame) → f.code ≢ 0 → word < 512 → LockKept word next locked q fs → get_elem? fs id ≡ some (at_point f Cleared)
      → LockKept (word % 512 + tail_unit * f.code) next locked (q ++ f.code ∷ []) (set fs id (record f { point = Head; found = 0; next = 0 }))
  enters-first f real none k at = let b = k.balanced in let new : Frame = record f { point = Head; found = 0; next = 0 } in let e = ap length (no_tail q k.queued.real (omega arith)) in let r = recount fs id (at_point f Cleared) new at in
      entered f new real refl refl refl record { holds = r.holds; takes = r.takes; ready = r.ready; pends = r.pends; undoes = r.undoes } (at_last q f.code 0 e, inl refl, inl refl) k at

  -- it finds a tail, and stands behind it
  pub enters : (f : Frame) → f.code ≢ 0 → 512 ≤ word → LockKept word next locked q fs → get_elem? fs id ≡ some (at_point f Cleared)
      → LockKept (word % 512 + tail_unit * f.code) next locked (q ++ f.code ∷ []) (set fs id (record f { point = Linking; found = word / tail_unit }))
  enters f real some_tail k at = let b = k.balanced in let c = f.code in let clean = k.each id (at_point f Cleared) at in let new : Frame = record f { point = Linking; found = word / tail_unit } in let r = recount fs id (at_point f Cleared) new at in let is_tail : word / tail_unit ≡ tail_of q = omega arith in
      ⊎_elim (λ e. let z : tail_of q ≡ 0 = ap tail_of e in absurd (omega arith))
      (λ t. entered f new real refl refl refl record { holds = r.holds; takes = r.takes; ready = r.ready; pends = r.pends; undoes = r.undoes } (
        subst (λ x. Before (q ++ c ∷ []) x c) (sym is_tail) (t.0, at_longer q (c ∷ []) t.0 (tail_of q) t.1, at_last q c (suc t.0) (sym t.2)),
        subst (λ x. next x ≡ 0) (sym is_tail) (⊎_elim (λ e. e) (λ e. absurd (past_end q t.0 (next (tail_of q)) t.2 e)) (k.linked t.0 (tail_of q) t.1)),
        clean.0,
      ) k at)
      (tail-in q)

module _ (word : ℕ) (next locked : ℕ → ℕ) (fs : List Frame) (id : ℕ) where
  -- nobody else stands in a queue of one node
  nobody_else : (f : Frame) → Queued (f.code ∷ []) fs → get_elem? fs id ≡ some f → uses f.point ≡ true → (j : ℕ) (v : Frame) → j ≢ id → get_elem? fs j ≡ some v → stands v.point ≡ false
  nobody_else f k at mine j v far there = go (stands v.point) refl
    where
      go : (b : Bool) → stands v.point ≡ b → stands v.point ≡ false
      go false e = e
      go true e = let t = total-at (stands_as v.code) fs j v there in let o = stands-one v e in let m = k.members v.code in
          absurd (other_code (f.code ∷ []) fs k id j f v at there far mine (stands-uses v.point e) (dite (ℕ_discrete f.code v.code) (λ s. sym s) (λ n. let z = code_is-else v.code f.code n in absurd (omega arith))))

  lone : (f : Frame) → word ≡ tail_unit * f.code → LockKept word next locked (f.code ∷ []) fs → get_elem? fs id ≡ some (at_point f Ready) → LockKept 1 next locked [] (set fs id (at_point f Holding))
  lone f found k at = let b = k.balanced in let q : List ℕ = f.code ∷ [] in let old : Frame = at_point f Ready in let new : Frame = at_point f Holding in let r = recount fs id old new at in record {
    balanced = record { word_is = omega arith; owner = omega arith; comes = omega arith; rivals = omega arith; undone = omega arith; fronts = omega arith };
    queued = record {
      members = λ d. let t = total-set (stands_as d) fs id old new at in let m = k.queued.members d in omega arith;
      used = λ d. let t = total-set (uses_as d) fs id old new at in let u = k.queued.used d in omega arith;
      real = refl;
    };
    linked = λ p x there. absurd (some-ne-none x (sym there));
    each = each-set (FrameOk next locked q) (FrameOk next locked []) fs id new tt (λ j v far there ok. outside next locked q [] v.point v.code v.found v.next (nobody_else old k.queued at refl j v far there) ok) k.each;
  }

  pub alone-in : (q : List ℕ) (f : Frame) → word ≡ tail_unit * f.code → LockKept word next locked q fs → get_elem? fs id ≡ some (at_point f Ready) → q ≡ f.code ∷ []
  alone-in q f found k at = let b = k.balanced in alone q f.code (once q fs k.queued f.code) k.queued.real (k.each id (at_point f Ready) at).0 (omega arith)

  -- the head finds its own tail alone in the word, exchanges it for 1, and has left
  pub takes-alone : (q : List ℕ) (f : Frame) → word ≡ tail_unit * f.code → LockKept word next locked q fs → get_elem? fs id ≡ some (at_point f Ready) → LockKept 1 next locked [] (set fs id (at_point f Holding))
  takes-alone q f found k at = let b = k.balanced in let head = (k.each id (at_point f Ready) at).0 in
      let is : q ≡ f.code ∷ [] = alone q f.code (once q fs k.queued f.code) k.queued.real head (omega arith) in lone f found (subst (λ z. LockKept word next locked z fs) is k) at

  -- the holder makes the next node the head, and has left
  passed-on : (locked' : ℕ → ℕ) (n : ℕ) (q : List ℕ) (f : Frame) → f.next ≡ n → n ≢ 0 → Put locked locked' n 1 → LockKept word next locked (f.code ∷ n ∷ q) fs → get_elem? fs id ≡ some (at_point f Passing) → LockKept word next locked' (n ∷ q) (set fs id (at_point f Holding))
  passed-on locked' n q f seen real put k at = let b = k.balanced in let old : Frame = at_point f Passing in let new : Frame = at_point f Holding in let r = recount fs id old new at in record {
    balanced = record { word_is = omega arith; owner = omega arith; comes = omega arith; rivals = omega arith; undone = omega arith; fronts = omega arith };
    queued = record {
      members = λ d. let t = total-set (stands_as d) fs id old new at in let m = k.queued.members d in omega arith;
      used = λ d. let t = total-set (uses_as d) fs id old new at in let u = k.queued.used d in omega arith;
      real = let z = k.queued.real in omega arith;
    };
    linked = λ p x there. k.linked (suc p) x there;
    each = each-set (FrameOk next locked (f.code ∷ n ∷ q)) (FrameOk next locked' (n ∷ q)) fs id new tt (λ j v far there ok. others j v far there ok) k.each;
  }
    where
      others : (j : ℕ) (v : Frame) → j ≢ id → get_elem? fs j ≡ some v → FrameOk next locked (f.code ∷ n ∷ q) v → FrameOk next locked' (n ∷ q) v
      others j v far there ok = let mine = k.each id (at_point f Passing) at in let r : List ℕ = f.code ∷ n ∷ q in
          shifted next locked locked' f.code n q v.point v.code v.found v.next (⊎_elim (λ e. absurd (real (sym seen ∙ e))) (λ s. s.1 ∙ seen) mine.2) real put.here (once r fs k.queued n) (put.other v.code)
          (λ used out e. not_there r fs k.queued j 1 n v there used out refl (sym e)) (λ standing. other_code r fs k.queued id j (at_point f Passing) v at there far refl (stands-uses v.point standing)) ok

  pub passes-on : (locked' : ℕ → ℕ) (q : List ℕ) (f : Frame) → f.next ≢ 0 → Put locked locked' f.next 1 → LockKept word next locked q fs → get_elem? fs id ≡ some (at_point f Passing) → (r : List ℕ) × (q ≡ f.code ∷ r) × LockKept word next locked' r (set fs id (at_point f Holding))
  passes-on locked' [] f real put k at = absurd (some-ne-none f.code (sym (k.each id (at_point f Passing) at).0))
  passes-on locked' (x ∷ []) f real put k at = ⊎_elim (λ e. absurd (real e)) (λ s. absurd (some-ne-none f.next (sym s.0))) (k.each id (at_point f Passing) at).2
  passes-on locked' (x ∷ y ∷ q) f real put k at = let ok = k.each id (at_point f Passing) at in let a : x ≡ f.code = some-injective x f.code ok.0 in
      let second : y ≡ f.next = ⊎_elim (λ e. absurd (real e)) (λ s. some-injective y f.next s.0) ok.2 in
      (y ∷ q, ap (λ z. z ∷ y ∷ q) a, passed-on locked' y q f (sym second) (λ e. real (sym second ∙ e)) (subst (λ z. Put locked locked' z 1) (sym second) put) (subst (λ z. LockKept word next locked (z ∷ y ∷ q) fs) a k) at)
