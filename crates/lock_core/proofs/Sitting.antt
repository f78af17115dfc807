-- A pass goes on with its seat, whatever the lock is.
use Rattle.std.proofs.Common.{◌≡◌, ◌≢◌, ◌∙◌, true, false, ℕ, ◌+◌, ◌<◌, ◌≤◌, List, length, Option, Some, None, IsSome, refl, sym, ap, subst, arith}
use Rattle.atomic_table.specs.Table.{Me}
use Rattle.atomic_table.specs.Seated.{TableId}
use Rattle.word_bits.specs.declared.TheConstants.{MAX_TASKS}
use Rattle.word_bits.specs.Histories.{Plan}
use Rattle.lock_core.specs.declared.pass.Face.{Face}
use Rattle.lock_core.specs.declared.pass.Pass.{Pass}
use Rattle.lock_core.specs.declared.site.Site.{Site}
use Rattle.lock_core.specs.Plans.{IsSmall, calls_in}
use Rattle.lock_core.specs.Records.{row}
use Rattle.lock_core.specs.Pasts.{IsOwnStep, Tail}
use Rattle.lock_core.specs.SiteHandles.{IsLatest, KeepsPast, SitsAt, StepsAt}
use Rattle.lock_core.specs.SitePasses.{Sits}
use Rattle.lock_core.specs.Views.{took}
use Rattle.lock_core.specs.Holding.{released}
use Rattle.lock_core.specs.Types.{Entry, Seen, View, Hand, Saw, Held, No, Alone}
use Rattle.lock_core.proofs.HandLaws.{no-alone, not-both}

pub some-number : (task : Option ℕ) → IsSome task → (t : ℕ) × (task ≡ Some t)
some-number (Some t) is = (t, refl)
some-number None is = absurd (not-both false refl is)

pub has-number : (task own : Option ℕ) → own ≡ task → IsSome own → task ≢ None
has-number task own same is none = not-both false refl (subst IsSome (same ∙ none) is)

-- a hand that says the same of the pass
pub record SameFace (h g : Hand) : Type 0 where
  pub plan : g.plan ≡ h.plan
  pub task : g.task ≡ h.task
  pub held : g.held ≡ h.held
  pub done : g.done ≡ h.done
  pub seen : g.seen ≡ h.seen
  pub stage : g.stage ≡ h.stage
  pub log : g.log ≡ h.log
  pub saw : g.saw ≡ h.saw
  pub last : g.last ≡ h.last
  pub writer : g.writes ≡ true → g.held ≡ Alone
  pub nameless : g.task ≡ None → (g.held ≡ No) × (g.sent ≡ None) × (g.consumed ≡ 0)

-- a hand that says the same of the pass but for how it holds, what it knows meanwhile and what it saw
pub record SameButHold (h g : Hand) : Type 0 where
  pub plan : g.plan ≡ h.plan
  pub task : g.task ≡ h.task
  pub done : g.done ≡ h.done
  pub seen : g.seen ≡ h.seen
  pub stage : g.stage ≡ h.stage
  pub last : g.last ≡ h.last
  pub writer : g.writes ≡ true → g.held ≡ Alone
  pub nameless : g.task ≡ None → (g.held ≡ No) × (g.sent ≡ None) × (g.consumed ≡ 0)

module _ {E : Type 0} {k : Plan} {table seat seat' : TableId} {me me' : Me (Unit {0}) (Seen E)} {face face' : Face} where
  pub sits-held : (held : Held) → seat' ≡ seat → me'.1 ≡ me.1 → SameButHold me.0.view.hand me'.0.view.hand → me'.0.view.hand.held ≡ held → face' ≡ record face { held = held } → me.0.view.steps ≤ me'.0.view.steps
      → length me'.0.view.hand.log ≤ calls_in k → ((x : Saw) → me'.0.view.hand.saw ≡ Some x → x.word < 4194304) → Sits k table seat me face → Sits k table seat' me' face'
  sits-held held same slots hand holds says later short saw r = record {
    own = same ∙ r.own;
    slots = slots ∙ r.slots;
    plan = hand.plan ∙ r.plan;
    task = ap (λ (f : Face). f.task) says ∙ (r.task ∙ sym hand.task);
    held = ap (λ (f : Face). f.held) says ∙ sym holds;
    done = ap (λ (f : Face). f.done) says ∙ (r.done ∙ sym hand.done);
    front = ap (λ (f : Face). f.front) says ∙ (r.front ∙ sym (ap length hand.seen));
    stage = hand.stage ∙ r.stage;
    latest = let l = r.latest in let e = hand.last in omega (arith, l, e, later);
    short = short;
    shorter = subst (λ (n : ℕ). n ≤ calls_in k) (sym (ap length hand.seen)) r.shorter;
    planned = subst (λ (f : Face). (t : ℕ) → f.task ≡ Some t → (t < length k) × (f.done ≤ length (row k t))) (sym says) r.planned;
    saw = saw;
    writer = hand.writer;
    nameless = hand.nameless;
  }

  -- a view whose hand is known
  pub sits-view : (view : View E) → me'.0.view ≡ view → seat' ≡ seat → me'.1 ≡ me.1 → SameButHold me.0.view.hand view.hand → face' ≡ record face { held = view.hand.held } → me.0.view.steps ≤ view.steps → length view.hand.log ≤ calls_in k → ((x : Saw) → view.hand.saw ≡ Some x → x.word < 4194304)
      → Sits k table seat me face → Sits k table seat' me' face'
  sits-view view is same slots hand says later short saw r = subst (λ (v : View E). SameButHold me.0.view.hand v.hand → face' ≡ record face { held = v.hand.held } → me.0.view.steps ≤ v.steps → length v.hand.log ≤ calls_in k → ((x : Saw) → v.hand.saw ≡ Some x → x.word < 4194304) → Sits k table seat' me' face') is
      (λ h s l n w. sits-held me'.0.view.hand.held same slots h refl s l n w r) hand says later short saw

  pub sits-took : (held : Held) (known : List ℕ) (log : List Entry) (ext : E) → me'.0.view ≡ record me.0.view { hand = took me.0.view.hand held known log; steps = me.0.view.steps + 1; ext = ext } → length log ≤ calls_in k → face.held ≡ No → IsSome face.task → seat' ≡ seat → me'.1 ≡ me.1 → face' ≡ record face { held = held }
      → Sits k table seat me face → Sits k table seat' me' face'
  sits-took held known log ext view short out numbered same slots says r = sits-view (record me.0.view { hand = took me.0.view.hand held known log; steps = me.0.view.steps + 1; ext = ext }) view same slots
      record { plan = refl; task = refl; done = refl; seen = refl; stage = refl; last = refl; writer = λ w. no-alone (sym out ∙ (r.held ∙ r.writer w)); nameless = λ bare. absurd (has-number me.0.view.hand.task face.task r.task numbered bare) } says (omega arith) short r.saw r

  pub sits-released : (word : ℕ) (ext : E) → me'.0.view ≡ record me.0.view { hand = released me.0.view.hand word; steps = me.0.view.steps + 1; ext = ext } → me.0.view.hand.writes ≡ false → seat' ≡ seat → me'.1 ≡ me.1 → face' ≡ record face { held = No } → Sits k table seat me face → Sits k table seat' me' face'
  sits-released word ext view quiet same slots says r = sits-view (record me.0.view { hand = released me.0.view.hand word; steps = me.0.view.steps + 1; ext = ext }) view same slots
      record { plan = refl; task = refl; done = refl; seen = refl; stage = refl; last = refl; writer = λ w. not-both me.0.view.hand.writes quiet w; nameless = λ bare. let n = r.nameless bare in (refl, n.1, n.2) } says (omega arith) (omega arith) r.saw r

  -- after a step that leaves what the pass says of itself
  pub sits-same : seat' ≡ seat → me'.1 ≡ me.1 → SameFace me.0.view.hand me'.0.view.hand → me.0.view.steps ≤ me'.0.view.steps → face' ≡ face → Sits k table seat me face → Sits k table seat' me' face'
  sits-same same slots hand later says r = sits-held face.held same slots
      record { plan = hand.plan; task = hand.task; done = hand.done; seen = hand.seen; stage = hand.stage; last = hand.last; writer = hand.writer; nameless = hand.nameless } (hand.held ∙ sym r.held) says later
      (subst (λ (l : List Entry). length l ≤ calls_in k) (sym hand.log) r.short) (λ x e. r.saw x (sym hand.saw ∙ e)) r

  -- after one that leaves its hand
  pub sits-on : seat' ≡ seat → me'.1 ≡ me.1 → me'.0.view.hand ≡ me.0.view.hand → me.0.view.steps ≤ me'.0.view.steps → face' ≡ face → Sits k table seat me face → Sits k table seat' me' face'
  sits-on same slots hand later says r = sits-same same slots (subst (SameFace me.0.view.hand) (sym hand)
      record { plan = refl; task = refl; held = refl; done = refl; seen = refl; stage = refl; log = refl; saw = refl; last = refl; writer = r.writer; nameless = r.nameless }) later says r

module _ {R O E C : Type 0} {site : Site R O E C} {old new : Pass R O E C} (mid : Pass R O E C) where
  -- after a step, and a note of what the pass says of itself
  pub noted-on : SitsAt site new → KeepsPast old mid → IsLatest mid → new.seat ≡ mid.seat → StepsAt site old new
  noted-on own goes_on last same = record {
    own = own;
    goes_on = λ p t. subst (Tail p) (sym (ap (λ s. s.me.0.past) same)) (goes_on p t);
    last = subst (λ s. IsOwnStep s.me.0.view s.me.0.past) (sym same) last;
  }

module _ {E : Type 0} {k : Plan} {table seat : TableId} {me : Me (Unit {0}) (Seen E)} {face : Face} where
  -- its number is that of a task
  pub its-number : IsSmall k → Sits k table seat me face → (task : ℕ) → face.task ≡ Some task → task < MAX_TASKS
  its-number small r task is = let l = (r.planned task is).0 in let few = small.tasks in omega (arith, l, few)
