-- The spin lock's own facts, for the rules that have its words: what other steps make of them.
use Rattle.std.proofs.Common.{◌≡◌, ℕ, zero, suc, ◌+◌, ◌<◌, ◌≤◌, ◌⊎◌, true, false, List, [], ◌∷◌, ◌++◌, length, map, get_or, set, Option, Some, None, sym, refl, ap, ◌∙◌, subst, inl, inr, ⊎_elim, arith}
use mathlib.Core.Option.{some, some-injective, some-ne-none}
use mathlib.Core.Logic.{dite}
use native.Mathlib.Decide.{ℕ_discrete}
use lib.ListN.{get_elem?}
use Rattle.atomic_table.proofs.Lists.{at_map, at_longer, set_else}
use Rattle.lock_core.specs.declared.layout.TheConstants.{SPIN_WORDS}
use Rattle.lock_core.specs.Views.{SpinPart, SpinRests, SpinStays, no_frame, no_spin, no_part}
use Rattle.lock_core.specs.LockHands.{frame_at, point_at, RestsEverywhere}
use Rattle.lock_core.specs.Totals.{total-set, total-same, total-two, total-snoc}
use Rattle.lock_core.specs.ViewParts.{each-set, each-snoc, set_part, keep_part, snoc_part, set-there}
use Rattle.lock_core.specs.SpinFrames.{Counts, counts, uses, stands_as, uses_as, holds_at, takes_at, ready_at, pends_at, undoes_at, holds_of, takes_of, ready_of, pends_of, undoes_of}
use Rattle.lock_core.specs.SpinQueues.{Balanced, Queued, FrameOk, LockKept}
use Rattle.lock_core.specs.Spins.{SpinFacts, SpinsKept, SpinsMove, SpinKept, SpinMoves, LockIn, StaysAt, IsFew, OwnNodes, frame_of, frame_on, word_in, next_in, locked_in, holds_in}
use Rattle.lock_core.specs.Types.{Frame, Point, Out, Saw, SpinHand}

-- a step of one frame, in what the frames count for
pub record Recount (c c' : Counts) (p r : Point) : Type 0 where
  pub holds : c'.holds + holds_at p ≡ c.holds + holds_at r
  pub takes : c'.takes + takes_at p ≡ c.takes + takes_at r
  pub ready : c'.ready + ready_at p ≡ c.ready + ready_at r
  pub pends : c'.pends + pends_at p ≡ c.pends + pends_at r
  pub undoes : c'.undoes + undoes_at p ≡ c.undoes + undoes_at r

pub recount : (fs : List Frame) (id : ℕ) (f g : Frame) → get_elem? fs id ≡ some f → Recount (counts fs) (counts (set fs id g)) f.point g.point
recount fs id f g at = record {
  holds = total-set holds_of fs id f g at;
  takes = total-set takes_of fs id f g at;
  ready = total-set ready_of fs id f g at;
  pends = total-set pends_of fs id f g at;
  undoes = total-set undoes_of fs id f g at;
}

-- the queue stays, and the frame uses no other node
pub requeued : (q : List ℕ) (fs : List Frame) (id : ℕ) (f g : Frame) → get_elem? fs id ≡ some f → ((c : ℕ) → stands_as c g ≡ stands_as c f) → ((c : ℕ) → uses_as c g ≤ uses_as c f) → Queued q fs
    → Queued q (set fs id g)
requeued q fs id f g at same less k = record {
  members = λ c. total-same (stands_as c) fs id f g at (same c) ∙ k.members c;
  used = λ c. let t = total-set (uses_as c) fs id f g at in let l = less c in let u = k.used c in omega arith;
  real = k.real;
}

-- a step that leaves the nodes and the queue
pub rekept : (word word' : ℕ) (next locked : ℕ → ℕ) (q : List ℕ) (fs : List Frame) (id : ℕ) (f g : Frame) → get_elem? fs id ≡ some f → ((c : ℕ) → stands_as c g ≡ stands_as c f)
    → ((c : ℕ) → uses_as c g ≤ uses_as c f) → FrameOk next locked q g
    → LockKept word next locked q fs → Balanced word' q (counts (set fs id g)) → LockKept word' next locked q (set fs id g)
rekept word word' next locked q fs id f g at same less mine k balanced = record {
  balanced = balanced;
  queued = requeued q fs id f g at same less k.queued;
  linked = k.linked;
  each = each-set (FrameOk next locked q) (FrameOk next locked q) fs id g mine (λ j v _ _ ok. ok) k.each;
}

-- one more pass comes, which is at no lock
lock-comes : (word : ℕ) (next locked : ℕ → ℕ) (q : List ℕ) (fs : List Frame) → LockKept word next locked q fs → LockKept word next locked q (fs ++ no_frame ∷ [])
lock-comes word next locked q fs k =
    let b = k.balanced in let h = total-snoc holds_of fs no_frame in let t = total-snoc takes_of fs no_frame in let r = total-snoc ready_of fs no_frame in let p = total-snoc pends_of fs no_frame in
    let u = total-snoc undoes_of fs no_frame in record {
      balanced = record { word_is = omega arith; owner = omega arith; comes = omega arith; rivals = omega arith; undone = omega arith; fronts = omega arith };
      queued = record {
        members = λ c. let s = total-snoc (stands_as c) fs no_frame in let m = k.queued.members c in omega arith;
        used = λ c. let s = total-snoc (uses_as c) fs no_frame in let m = k.queued.used c in omega arith;
        real = k.queued.real;
      };
      linked = k.linked;
      each = each-snoc (FrameOk next locked q) fs no_frame tt k.each;
    }

-- a pass that is at no lock forgets what it knew
lock-ends : (word : ℕ) (next locked : ℕ → ℕ) (q : List ℕ) (fs : List Frame) (id : ℕ) (f : Frame) → get_elem? fs id ≡ some (record f { point = Out }) → LockKept word next locked q fs
    → LockKept word next locked q (set fs id no_frame)
lock-ends word next locked q fs id f at k = let b = k.balanced in let old : Frame = record f { point = Out } in let r = recount fs id old no_frame at in
    rekept word word next locked q fs id old no_frame at (λ c. refl) (λ c. omega arith) tt k record
    { word_is = omega arith; owner = omega arith; comes = omega arith; rivals = omega arith; undone = omega arith; fronts = omega arith }

uses-out : (p : Point) {P : Type 0} → p ≡ Out → uses p ≡ true → P
uses-out p e used = let b : false ≡ true = ap uses (sym e) ∙ used in absurd cc

-- each of the locks
pub lock-of : (n : ℕ) (w : List ℕ) (queues : ℕ → List ℕ) (ps : List SpinPart) → SpinFacts n w queues ps → (l : ℕ) → l < n → LockIn w queues ps l
lock-of n w queues ps k zero l = k.lock
lock-of n w queues ps k (suc l) more = k.nest l more

-- a pass that was never at any lock
pub new-frame : (l : ℕ) → frame_at l no_spin ≡ no_frame
new-frame zero = refl
new-frame (suc l) = refl

pub rests-new : RestsEverywhere no_spin
rests-new l = ap (λ (f : Frame). f.point) (new-frame l)

own-new : OwnNodes no_part
own-new = record { node = λ l used. uses-out (point_at l no_spin) (rests-new l) used; apart = λ l m used _ _. uses-out (point_at l no_spin) (rests-new l) used }

some_task : (t : ℕ) → Some t ≡ None → ⊥
some_task t e = cc

-- a pass that stays where it is with each lock and keeps its task, or has no node
own-renamed : (p : SpinPart) (task : Option ℕ) (saw : Option Saw) → (task ≡ p.task) ⊎ (p.task ≡ None) ⊎ RestsEverywhere p.spin → OwnNodes p
    → OwnNodes (record { task = task; spin = record p.spin { saw = saw } })
own-renamed p task saw may o = record {
  node = λ l used. let n = o.node l used in ⊎_elim
      (λ same. record { task = n.task; index = n.index; named = same ∙ n.named; four = n.four; below = n.below; is = n.is })
      (λ rest. ⊎_elim (λ none. absurd (some_task n.task (sym n.named ∙ none))) (λ out. uses-out (point_at l p.spin) (out l) used) rest) may;
  apart = o.apart;
}

-- who has spin locks' words in its table cites only these

module _ (n id : ℕ) (w : List ℕ) (ps : List SpinPart) where
  -- a step that leaves the words, the queues and where each pass is with the locks
  leaves : (q : ℕ → List ℕ) (ps' : List SpinPart) → SpinFacts n w q ps → SpinFacts n w q ps'
      → ((j : ℕ) (p : SpinPart) → get_elem? ps j ≡ some p → (p' : SpinPart) × (get_elem? ps' j ≡ some p') × StaysAt p p') → SpinsMove n id w ps w ps'
  leaves q ps' old new stays = record { queues = q; queues' = q; old = old; new = new; step = inl record { words = refl; queues_stay = λ l. refl; passes = stays } }

  -- the words and the parts stay
  pub spins-same : SpinsKept n w ps → SpinsMove n id w ps w ps
  spins-same r = leaves r.0 ps r.1 r.1 (λ j p at. (p, at, inl (inl refl)))

  stays-set : (i : ℕ) (p p' : SpinPart) → get_elem? ps i ≡ some p → StaysAt p p' → (j : ℕ) (r : SpinPart) → get_elem? ps j ≡ some r → (r' : SpinPart) × (get_elem? (set ps i p') j ≡ some r')
      × StaysAt r r'
  stays-set i p p' at stays j r there = dite (ℕ_discrete j i)
      (λ e. (p', ap (get_elem? (set ps i p')) e ∙ set-there ps i p p' at, subst (λ (z : SpinPart). StaysAt z p') (some-injective p r (sym at ∙ (ap (get_elem? ps) (sym e) ∙ there))) stays))
      (λ apart. (r, set_else ps i j p' apart ∙ there, inl (inl refl)))

  renames-to : (p : SpinPart) (task : Option ℕ) (saw : Option Saw) → SpinStays p.spin (record p.spin { saw = saw }) → SpinsKept n w ps → get_elem? ps id ≡ some p → (task ≡ p.task) ⊎ (p.task ≡ None)
      ⊎ RestsEverywhere p.spin → SpinsMove n id w ps w (set ps id (record { task = task; spin = record p.spin { saw = saw } }))
  renames-to p task saw stays (q, k) at may = let p' : SpinPart = record { task = task; spin = record p.spin { saw = saw } } in leaves q (set ps id p') k
      record {
        wide = k.wide;
        lock = keep_part frame_of (LockKept (get_or w 0 0) (next_in w) (locked_in w) (q 0)) ps id p p' at refl k.lock;
        nest = λ l more. keep_part (frame_on (suc l)) (LockKept (word_in w (suc l)) (next_in w) (locked_in w) (q (suc l))) ps id p p' at refl (k.nest l more);
        few = each-set (IsFew n) (IsFew n) ps id p' (k.few id p at) (λ j v _ _ ok. ok) k.few;
        own = each-set OwnNodes OwnNodes ps id p' (own-renamed p task saw may (k.own id p at)) (λ j v _ _ ok. ok) k.own;
      }
      (stays-set id p p' at (inl stays))

  -- a pass gets a number, or gives it back, and may forget what it saw
  pub spins-rename : (p : SpinPart) (task : Option ℕ) (s : SpinHand) → SpinsKept n w ps → get_elem? ps id ≡ some p → SpinStays p.spin s → (task ≡ p.task) ⊎ (p.task ≡ None) ⊎ RestsEverywhere p.spin
      → SpinsMove n id w ps w (set ps id (record { task = task; spin = s }))
  spins-rename p task s r at stays may = ⊎_elim
      (λ e. subst (λ (x : SpinHand). SpinsMove n id w ps w (set ps id (record { task = task; spin = x }))) (sym e) (renames-to p task p.spin.saw (inl refl) r at may))
      (λ e. subst (λ (x : SpinHand). SpinsMove n id w ps w (set ps id (record { task = task; spin = x }))) (sym e) (renames-to p task None (inr refl) r at may)) stays

  -- a pass is split off
  pub spins-come : SpinsKept n w ps → SpinsMove n id w ps w (ps ++ no_part ∷ [])
  spins-come (q, k) = leaves q (ps ++ no_part ∷ []) k
      record {
        wide = k.wide;
        lock = comes 0 k.lock;
        nest = λ l more. comes (suc l) (k.nest l more);
        few = each-snoc (IsFew n) ps no_part (λ l _. rests-new l) k.few;
        own = each-snoc OwnNodes ps no_part own-new k.own;
      }
      (λ j p at. (p, at_longer ps (no_part ∷ []) j p at, inl (inl refl)))
    where
      comes : (l : ℕ) → LockIn w q ps l → LockIn w q (ps ++ no_part ∷ []) l
      comes l k = snoc_part (frame_on l) (LockKept (word_in w l) (next_in w) (locked_in w) (q l)) ps no_part
          (subst (λ (f : Frame). LockKept (word_in w l) (next_in w) (locked_in w) (q l) (map (frame_on l) ps ++ f ∷ [])) (sym (new-frame l))
          (lock-comes (word_in w l) (next_in w) (locked_in w) (q l) (map (frame_on l) ps) k))

  -- a pass is gathered
  pub spins-end : (other : ℕ) (p : SpinPart) → SpinsKept n w ps → get_elem? ps other ≡ some p → RestsEverywhere p.spin → SpinsMove n id w ps w (set ps other no_part)
  spins-end other p (q, k) at out = leaves q (set ps other no_part) k
      record {
        wide = k.wide;
        lock = ends 0 k.lock;
        nest = λ l more. ends (suc l) (k.nest l more);
        few = each-set (IsFew n) (IsFew n) ps other no_part (λ l _. rests-new l) (λ j v _ _ ok. ok) k.few;
        own = each-set OwnNodes OwnNodes ps other no_part own-new (λ j v _ _ ok. ok) k.own;
      }
      (stays-set other p no_part at (inr (out, refl)))
    where
      ends : (l : ℕ) → LockIn w q ps l → LockIn w q (set ps other no_part) l
      ends l k = let f : Frame = frame_on l p in set_part (frame_on l) (LockKept (word_in w l) (next_in w) (locked_in w) (q l)) ps other no_part
          (subst (λ (g : Frame). LockKept (word_in w l) (next_in w) (locked_in w) (q l) (set (map (frame_on l) ps) other g)) (sym (new-frame l))
          (lock-ends (word_in w l) (next_in w) (locked_in w) (q l) (map (frame_on l) ps) other f (at_map (frame_on l) ps other p at ∙ ap (λ (z : Point). some (record f { point = z })) (out l)) k))

free-lock : (next locked : ℕ → ℕ) (word : ℕ) (f : Frame) → word ≡ 0 → f ≡ no_frame → LockKept word next locked [] (f ∷ [])
free-lock next locked word f free is = subst (λ (g : Frame). LockKept word next locked [] (g ∷ [])) (sym is) record {
  balanced = record { word_is = free; owner = omega arith; comes = omega arith; rivals = omega arith; undone = omega arith; fronts = omega arith };
  queued = record { members = λ c. refl; used = λ c. omega arith; real = refl };
  linked = λ p x e. absurd (some-ne-none x (sym e));
  each = each-snoc (FrameOk next locked []) [] no_frame tt (λ j v e. absurd (some-ne-none v (sym e)));
}

-- a new table's locks are free
pub spins-open : (n : ℕ) (w : List ℕ) → length w ≡ SPIN_WORDS → ((l : ℕ) → (l ≡ 0) ⊎ (l < n) → word_in w l ≡ 0) → SpinsKept n w (no_part ∷ [])
spins-open n w wide free = (
  λ l. [],
  record {
    wide = wide;
    lock = free-lock (next_in w) (locked_in w) (get_or w 0 0) no_frame (free 0 (inl refl)) refl;
    nest = λ l more. free-lock (next_in w) (locked_in w) (word_in w (suc l)) (frame_on (suc l) no_part) (free (suc l) (inr more)) (new-frame (suc l));
    few = each-snoc (IsFew n) [] no_part (λ l _. rests-new l) (λ j v e. absurd (some-ne-none v (sym e)));
    own = each-snoc OwnNodes [] no_part own-new (λ j v e. absurd (some-ne-none v (sym e)));
  },
)

-- Who has one lock's words cites these.

-- a pass that is at no point of the one lock is at no point of any
pub rests-everywhere : (p : SpinPart) → IsFew 1 p → SpinRests p.spin → RestsEverywhere p.spin
rests-everywhere p few out zero = out
rests-everywhere p few out (suc l) = few (suc l) (omega arith)

module _ (id : ℕ) (w : List ℕ) (ps : List SpinPart) where
  pub spin-same : SpinKept w ps → SpinMoves id w ps w ps
  spin-same r = spins-same 1 id w ps r

  pub spin-renames : (p : SpinPart) (task : Option ℕ) (s : SpinHand) → SpinKept w ps → get_elem? ps id ≡ some p → SpinStays p.spin s → (task ≡ p.task) ⊎ (p.task ≡ None) ⊎ SpinRests p.spin
      → SpinMoves id w ps w (set ps id (record { task = task; spin = s }))
  spin-renames p task s r at stays may = spins-rename 1 id w ps p task s r at stays
      (⊎_elim (λ e. inl e) (λ rest. inr (⊎_elim (λ none. inl none) (λ out. inr (rests-everywhere p (r.1.few id p at) out)) rest)) may)

  pub spin-comes : SpinKept w ps → SpinMoves id w ps w (ps ++ no_part ∷ [])
  spin-comes r = spins-come 1 id w ps r

  pub spin-ends : (other : ℕ) (p : SpinPart) → SpinKept w ps → get_elem? ps other ≡ some p → p.task ≡ None → SpinRests p.spin → SpinMoves id w ps w (set ps other no_part)
  spin-ends other p r at none out = spins-end 1 id w ps other p r at (rests-everywhere p (r.1.few other p at) out)

pub spin-opens : (w : List ℕ) → length w ≡ SPIN_WORDS → get_or w 0 0 ≡ 0 → SpinKept w (no_part ∷ [])
spin-opens w wide free = spins-open 1 w wide (λ l which. ⊎_elim (λ z. ap (word_in w) z ∙ free) (λ less. let z : l ≡ 0 = omega arith in ap (word_in w) z ∙ free) which)

-- who holds the spin lock holds it alone
pub spin-alone : (w : List ℕ) (ps : List SpinPart) (id j : ℕ) (p r : SpinPart) → SpinKept w ps → get_elem? ps id ≡ some p → get_elem? ps j ≡ some r → holds_in p.spin ≡ 1 → holds_in r.spin ≡ 1 → id ≡ j
spin-alone w ps id j p r (q, k) at at' mine theirs = dite (ℕ_discrete id j) (λ e. e)
    (λ not. let two = total-two holds_of (map frame_of ps) id j (frame_of p) (frame_of r) (at_map frame_of ps id p at) (at_map frame_of ps j r at') not in let b = k.lock.balanced in
    absurd (omega (arith, two, b.comes, mine, theirs)))
