-- Who the head of the queue is, and that nobody else is.
use Rattle.std.proofs.Common.{◌≡◌, ◌≢◌, ℕ, ◌≤◌, true, List, sym, refl, ap, ◌∙◌, arith}
use mathlib.Core.Option.{some, some-injective}
use mathlib.Core.Logic.{dite}
use native.Mathlib.Decide.{ℕ_discrete}
use lib.ListN.{get_elem?}
use Rattle.lock_core.specs.ViewParts.{Each}
use Rattle.lock_core.specs.Totals.{total, total-two}
use Rattle.qspin_queue.specs.Types.{Frame, Point, Ready}
use Rattle.lock_core.specs.SpinFrames.{when, uses, code_is, uses_as, ready_at, ready_of}
use Rattle.lock_core.specs.SpinQueues.{PointOk, FrameOk}
use Rattle.qspin_word.proofs.Codes.{code_is-same, some_summand}

-- two frames don't use one node
pub not_two : (fs : List Frame) (id j c : ℕ) (f g : Frame) → total (uses_as c) fs ≤ 1 → get_elem? fs id ≡ some f → get_elem? fs j ≡ some g → id ≢ j → uses_as c f ≡ 1 → uses_as c g ≡ 1 → ⊥
not_two fs id j c f g once at at' apart mine theirs = let two = total-two (uses_as c) fs id j f g at at' apart in omega arith

ready_head : (next locked : ℕ → ℕ) (q : List ℕ) (p : Point) (code found after : ℕ) → 1 ≤ ready_at p → PointOk next locked q p code found after → (get_elem? q 0 ≡ some code) × (uses p ≡ true)
ready_head next locked q Ready code found after l ok = (ok.0, refl)
ready_head next locked q _ code found after l ok = absurd (omega arith)

-- where the head isn't ready, nobody is
pub none_ready : (next locked : ℕ → ℕ) (q : List ℕ) (fs : List Frame) (id : ℕ) (f : Frame) → ((c : ℕ) → total (uses_as c) fs ≤ 1) → Each (FrameOk next locked q) fs → get_elem? fs id ≡ some f → uses f.point ≡ true → ready_of f ≡ 0 → get_elem? q 0 ≡ some f.code → total ready_of fs ≡ 0
none_ready next locked q fs id f used each at mine unready head = dite (ℕ_discrete (total ready_of fs) 0) (λ e. e) (λ not. let s = some_summand ready_of fs (omega arith) in let g = s.1 in let r = ready_head next locked q g.point g.code g.found g.next s.3 (each s.0 g s.2) in
    let same : g.code ≡ f.code = some-injective g.code f.code (sym r.0 ∙ head) in
    absurd (not_two fs id s.0 f.code f g (used f.code) at s.2 (λ e. let w : ready_of f ≡ ready_of g = ap ready_of (some-injective f g (sym at ∙ ap (get_elem? fs) e ∙ s.2)) in let l = s.3 in omega (arith, w, l)) (ap (λ b. when b (code_is f.code f.code)) mine ∙ code_is-same f.code) (ap (λ b. when b (code_is f.code g.code)) r.1 ∙ ap (code_is f.code) same ∙ code_is-same f.code)))
