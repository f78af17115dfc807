-- A call that reads without the lock, step by step.
use Rattle.std.proofs.Common.{◌≤◌, ◌≡◌, ◌∙◌, ℕ, ◌+◌, ◌%◌, Bool, true, false, List, length, slice_index, Option, Some, IfSome, sym, refl, ap, subst, arith, inl, inr}
use Rattle.std.specs.Prelude.{Result, Ok, Err, IfOk, IfErr}
use Rattle.word_bits.specs.PageMaps.{PageMap, IsPageMap}
use Rattle.word_bits.specs.Histories.{Plan, state_after}
use Rattle.lock_core.specs.Holding.{Learns}
use Rattle.lock_core.specs.Layout.{length_place}
use Rattle.lock_core.specs.SitePasses.{IsSeenReading}
use Rattle.lock_core.specs.Pasts.{FoundAt, FoundAtStep, GoesOn, IsOwnStep, IsStepBy}
use Rattle.lock_core.specs.Laws.SiteRun.{found-at-step}
use Rattle.lock_core.specs.Views.{next_entry, ticked, after_seen}
use Rattle.lock_core.proofs.HandLaws.{not-both}
use Rattle.vma_map.specs.Searches.{AgreesWith, asked, page_of, wanted}
use Rattle.vma_map.specs.Spaces.{access_reply, space, stores}
use Rattle.seq_fault.specs.SeqPlays.{turned, glance, staled, saw_log}
use Rattle.seq_fault.specs.SeqRuled.{V, seq_at}
use Rattle.seq_fault.specs.SeqSteps.{AtOneWord, Faults, HasSearched, IsMeasured, IsNextFault, IsOptimisticRead, IsWatching, StepsAtMost, OnlySteps, TellsSince}
use Rattle.seq_fault.specs.Types.{Entry, Reply, Hand, Moment, Fault, Search, Glance, Off, On}
use Rattle.seq_fault.proofs.Stepping.{on-off}

-- what the pass's step of this number found
pub finds : (v x : V) (count at n : ℕ) (old past new : List Moment) → x.hand.task ≡ v.hand.task → x.steps ≡ v.steps + count → IsOwnStep x past → FoundAt at n past → GoesOn old past → GoesOn past new → FoundAtStep v.hand.task (v.steps + count) at n old new
finds v x count at n old past new named steps own found after goes = subst (λ (s : ℕ). FoundAtStep v.hand.task s at n old new) steps (found-at-step x v.hand.task at n old past new named own found after goes)

-- a load of a pass that watches is one step, and leaves its number
pub told-next : (so : Glance → Type 0) (g : Glance) (v u : V) → v.ext ≡ On g → TellsSince so v u → (u.hand.task ≡ v.hand.task) × (u.steps ≡ v.steps + 1)
told-next so g v u on told = elim (told g on) [
  | inl t ↦ (ap (λ (z : V). z.hand.task) t.1, ap (λ (z : V). z.steps) t.1)
  | inr t ↦ (ap (λ (z : V). z.hand.task) t, ap (λ (z : V). z.steps) t)
]

-- before the first load
pub searched-none : (g : Glance) (s : Search) (v : V) → asked s ≡ 0 → ((words : List ℕ) → AgreesWith words s) → v.ext ≡ On g → HasSearched g s v v
searched-none g s v first agrees on = record { stale = g.stale; is = (λ i. record v { steps = (let e : v.steps ≡ v.steps + asked s = omega (arith, first) in e) i; ext = on i }); fresh = λ f. (f, agrees g.known) }

-- one load more
pub searched-more : (g : Glance) (s s' : Search) (place n : ℕ) (v u w : V) → wanted s ≡ Some place → asked s' ≡ asked s + 1 → ((words : List ℕ) → IfSome (wanted s) (λ i. slice_index words i ≡ n) → AgreesWith words s → AgreesWith words s') → HasSearched g s v u → TellsSince (λ h. n ≡ slice_index h.known place) u w → HasSearched g s' v w
searched-more g s s' place n v u w wants more agrees r told = let h : Glance = record g { stale = r.stale } in let steps : v.steps + asked s + 1 ≡ v.steps + asked s' = omega (arith, more) in elim (told h (ap (λ (z : V). z.ext) r.is)) [
  | inl x ↦ record {
    stale = r.stale;
    is = x.1 ∙ (ap ticked r.is ∙ ap (λ (m : ℕ). record v { steps = m; ext = On h }) steps);
    fresh = λ f. let y = r.fresh f in (y.0, agrees g.known (subst (λ (o : Option ℕ). IfSome o (λ i. slice_index g.known i ≡ n)) (sym wants) (sym x.0)) y.1);
  }
  | inr e ↦ record {
    stale = true;
    is = e ∙ (ap (λ (z : V). turned z z.hand (On (staled h))) r.is ∙ ap (λ (m : ℕ). record v { steps = m; ext = On (staled h) }) steps);
    fresh = λ f. not-both true f refl;
  }
]

-- it goes on watching
pub still-watching : (g : Glance) (s : Search) (v u : V) → HasSearched g s v u → IsWatching u
still-watching g s v u r = (record g { stale = r.stale }, ap (λ (z : V). z.ext) r.is)

-- all loads of a fault but the last one
pub record Gathered (v : V) (before front : ℕ) (s : Search) (known : List ℕ) (log : List Entry) (u : V) : Type 0 where
  pub stale : Bool
  pub is : u ≡ record v { steps = v.steps + 1 + 1 + asked s; ext = On (record (glance before known log) { stale = stale }) }
  pub fresh : stale ≡ false → (front ≡ length log) × AgreesWith known s

pub gathers : (v x y u : V) (before front : ℕ) (s : Search) (known : List ℕ) (log : List Entry) → x ≡ turned v v.hand (On (glance before known log)) → TellsSince (λ g. front ≡ length g.log) x y → ((g : Glance) → y.ext ≡ On g → HasSearched g s y u) → Gathered v before front s known log u
gathers v x y u before front s known log began told searched = let g : Glance = glance before known log in elim (told g (ap (λ (z : V). z.ext) began)) [
  | inl t ↦ let e : y ≡ record v { steps = v.steps + 1 + 1; ext = On g } = t.1 ∙ ap ticked began in let p = searched g (ap (λ (z : V). z.ext) e) in
      record { stale = p.stale; is = p.is ∙ ap (λ (z : V). record z { steps = z.steps + asked s; ext = On (record g { stale = p.stale }) }) e; fresh = λ f. let q = p.fresh f in (t.0, q.1) }
  | inr t ↦ let e : y ≡ record v { steps = v.steps + 1 + 1; ext = On (staled g) } = t ∙ ap (λ (z : V). turned z z.hand (On (staled g))) began in let p = searched (staled g) (ap (λ (z : V). z.ext) e) in
      record { stale = p.stale; is = p.is ∙ ap (λ (z : V). record z { steps = z.steps + asked s; ext = On (record g { stale = p.stale }) }) e; fresh = λ f. let q = p.fresh f in not-both true q.0 refl }
]

module _ (v u : V) (before front : ℕ) (s : Search) (known : List ℕ) (log : List Entry) (r : Gathered v before front s known log u) where
  abbrev when : Glance
  when = record (glance before known log) { stale = r.stale }

  pub gathered-few : StepsAtMost 12 v u
  gathered-few = let most = s.few in let steps : v.steps + 1 + 1 + asked s ≡ v.steps + (2 + asked s) = omega arith in record {
    steps = 2 + asked s;
    few = omega (arith, most);
    watch = On when;
    is = r.is ∙ ap (λ (n : ℕ). record v { steps = n; ext = On when }) steps;
  }

  pub gathered-two : v.steps + 2 ≤ u.steps
  gathered-two = let steps = ap (λ (z : V). z.steps) r.is in omega (arith, steps)

  module _ (k : Plan) (page access : ℕ) (q : IsNextFault k v.hand page access) (learns : Learns space k v.hand known log) (state : IsPageMap (state_after space k log)) (reply : Reply) (same-page : page_of s ≡ page)
      (met : (m : PageMap) → IsPageMap m → AgreesWith (stores m) s → reply ≡ access_reply (m (page_of s)) access) where
    pub gathered-read : IsOptimisticRead k before front reply u
    gathered-read = let same : v.hand ≡ u.hand = sym (ap (λ (z : V). z.hand) r.is) in record {
      page = page;
      access = access;
      next = subst (λ (h : Hand). IsNextFault k h page access) same q;
      moment = when;
      on = ap (λ (z : V). z.ext) r.is;
      word = refl;
      learns = subst (λ (h : Hand). Learns space k h known log) same learns;
      long = λ f. sym (r.fresh f).0;
      replies = λ f. met (state_after space k log) state (subst (λ (z : List ℕ). AgreesWith z s) learns.stored (r.fresh f).1) ∙ ap (λ (p : ℕ). access_reply (state_after space k log p) access) same-page;
    }

-- the second load of the sequence word
module _ (k : Plan) (before front : ℕ) (reply : Reply) (u : V) (r : IsOptimisticRead k before front reply u) where
  pub read-measured : IsMeasured before front u
  read-measured = λ g at. subst (λ (z : Glance). (z.word ≡ before) × (z.stale ≡ false → length z.log ≡ front)) (on-off r.moment g (sym r.on ∙ at)) (r.word, r.long)

  -- it found the same word
  module _ (w : V) (same : (g : Glance) → u.ext ≡ On g → (g.stale ≡ false) × (w ≡ turned u (saw_log u.hand g) Off)) where
    pub confirmed : w ≡ turned u (saw_log u.hand r.moment) Off
    confirmed = (same r.moment r.on).1

    fresh : r.moment.stale ≡ false
    fresh = (same r.moment r.on).0

    pub seen-reading : IsSeenReading space k w.hand (next_entry w.hand) reply
    seen-reading = subst (λ (h : Hand). IsSeenReading space k h (next_entry h) reply) (sym (ap (λ (z : V). z.hand) confirmed)) record { words = r.next.words; call = Fault r.page r.access; planned = r.next.planned; is = r.next.is; reads = refl; replies = r.replies fresh }

    pub faulted : (z : V) → z ≡ after_seen w reply → Faults k u reply z
    faulted z noted = record {
      log = r.moment.log;
      begins = r.learns.begins;
      loads = 1;
      few = omega arith;
      words = r.next.words;
      call = Fault r.page r.access;
      planned = r.next.planned;
      called = r.next.is;
      replies = r.replies fresh;
      is = noted ∙ ap (λ (x : V). after_seen x reply) confirmed;
    }

    -- the log that it has seen is as long as the load of its length found
    pub saw-front : (z : V) → z ≡ after_seen w reply → length z.hand.seen ≡ front
    saw-front z noted = ap (λ (x : V). length x.hand.seen) (noted ∙ ap (λ (x : V). after_seen x reply) confirmed) ∙ r.long fresh

-- the loads before the second one of the sequence word count too
pub faults-since : (k : Plan) (v u z : V) (reply : Reply) → StepsAtMost 12 v u → z.steps ≡ u.steps + 2 → Faults k u reply z → Faults k v reply z
faults-since k v u z reply p = subst (λ (x : V). z.steps ≡ x.steps + 2 → Faults k x reply z → Faults k v reply z) (sym p.is) since
  where
    since : z.steps ≡ v.steps + p.steps + 2 → Faults k (record v { steps = v.steps + p.steps; ext = p.watch }) reply z → Faults k v reply z
    since two f = let few = p.few in let end = ap (λ (x : V). x.steps) f.is in let steps : v.steps + p.steps + f.loads ≡ v.steps + (p.steps + f.loads) = omega arith in record {
      log = f.log;
      begins = f.begins;
      loads = p.steps + f.loads;
      few = omega (arith, few, two, end);
      words = f.words;
      call = f.call;
      planned = f.planned;
      called = f.called;
      replies = f.replies;
      is = f.is ∙ ap (λ (n : ℕ). after_seen (record v { hand = record v.hand { seen = f.log }; steps = n; ext = Off }) reply) steps;
    }

-- what was found up to an earlier moment was found up to a later one
pub found-longer : {task : Option ℕ} {step at n : ℕ} (old middle new : List Moment) → FoundAtStep task step at n old middle → GoesOn middle new → FoundAtStep task step at n old new
found-longer old middle new f goes = record { past = f.past; by = f.by; found = f.found; after = f.after; goes_on = λ p t. goes p (f.goes_on p t) }

-- both loads of the sequence word found it the same
pub reads-at-one-word : (x u z : V) (before front : ℕ) (old middle new : List Moment) → StepsAtMost 12 x u → x.steps + 2 ≤ u.steps → before % 2 ≡ 0 → FoundAtStep x.hand.task (x.steps + 1) seq_at before old middle → FoundAtStep x.hand.task (x.steps + 2) length_place front old middle
    → FoundAtStep u.hand.task (u.steps + 1) seq_at before middle new → GoesOn old middle → GoesOn middle new → z.steps ≡ u.steps + 2 → AtOneWord 0 front x z old new
reads-at-one-word x u z before front old middle new p least even first measured again goes goes' two = let steps = ap (λ (q : V). q.steps) p.is in record {
  word = before;
  even = even;
  first = found-longer old middle new first goes';
  measured = found-longer old middle new measured goes';
  last = p.steps + 1;
  behind = omega (arith, steps, least);
  again = (let e : u.steps + 1 ≡ x.steps + (p.steps + 1) = omega (arith, steps) in let f : FoundAtStep x.hand.task (u.steps + 1) seq_at before middle new = subst (λ (t : Option ℕ). FoundAtStep t (u.steps + 1) seq_at before middle new) (ap (λ (q : V). q.hand.task) p.is) again in
      subst (λ (n : ℕ). FoundAtStep x.hand.task n seq_at before old new) e record { past = f.past; by = f.by; found = f.found; after = λ l t. f.after l (goes l t); goes_on = f.goes_on });
  counted = omega (arith, steps, two);
}

-- a race leaves what it knew, and its two loads found the words that it tells
pub steps-on : (v x u : V) → x ≡ ticked (ticked v) → StepsAtMost 12 x u → OnlySteps v u
steps-on v x u is p = (v.steps + 2 + p.steps, p.watch, omega arith, p.is ∙ (ap (λ (z : V). record z { steps = z.steps + p.steps; ext = p.watch }) is ∙ ap (λ (n : ℕ). record v { steps = n; ext = p.watch }) (let e : v.steps + 1 + 1 + p.steps ≡ v.steps + 2 + p.steps = omega arith in e)))

pub turned-on : (v u w : V) → OnlySteps v u → w ≡ turned u u.hand Off → OnlySteps v w
turned-on v u w s is = let l = s.2 in (s.0 + 1, Off, omega (arith, l), is ∙ ap (λ (z : V). turned z z.hand Off) s.3)

-- what a step found, counted from two steps later on
module _ (v x : V) (old middle new : List Moment) (is : x ≡ ticked (ticked v)) (goes : GoesOn old middle) where
  pub finds-before : (count at n : ℕ) → FoundAtStep x.hand.task (x.steps + count) at n middle new → FoundAtStep v.hand.task (v.steps + (2 + count)) at n old new
  finds-before count at n f = let by : IsStepBy v.hand.task (v.steps + 1 + 1 + count) f.past = subst (λ (z : V). IsStepBy z.hand.task (z.steps + count) f.past) is f.by in let same : v.steps + 1 + 1 + count ≡ v.steps + (2 + count) = omega arith in
      record { past = f.past; by = subst (λ (s : ℕ). IsStepBy v.hand.task s f.past) same by; found = f.found; after = λ p t. f.after p (goes p t); goes_on = f.goes_on }

  pub one-word-before : (front : ℕ) (u : V) → AtOneWord 0 front x u middle new → AtOneWord 2 front v u old new
  one-word-before front u r = let two = ap (λ (z : V). z.steps) is in let counted = r.counted in record {
    word = r.word;
    even = r.even;
    first = finds-before 1 seq_at r.word r.first;
    measured = finds-before 2 length_place front r.measured;
    last = 2 + r.last;
    behind = (let later = r.behind in omega (arith, later));
    again = finds-before r.last seq_at r.word r.again;
    counted = omega (arith, two, counted);
  }

-- from an earlier past on
pub one-word-since : (ahead front : ℕ) (v u : V) (old middle new : List Moment) → GoesOn old middle → AtOneWord ahead front v u middle new → AtOneWord ahead front v u old new
one-word-since ahead front v u old middle new goes r = record { word = r.word; even = r.even; first = since r.first; measured = since r.measured; last = r.last; behind = r.behind; again = since r.again; counted = r.counted }
  where
    since : {task : Option ℕ} {step at n : ℕ} → FoundAtStep task step at n middle new → FoundAtStep task step at n old new
    since f = record { past = f.past; by = f.by; found = f.found; after = λ p t. f.after p (goes p t); goes_on = f.goes_on }

pub err-maps : {A B : Type 0} (r : Result A B) {P Q : B → Type 0} → ((x : B) → P x → Q x) → IfErr r P → IfErr r Q
err-maps (Ok x) maps p = tt
err-maps (Err x) maps p = maps x p

pub ok-joins : {A B : Type 0} (r : Result A B) {P Q S : A → Type 0} → ((x : A) → P x → Q x → S x) → IfOk r P → IfOk r Q → IfOk r S
ok-joins (Ok x) joins p q = joins x p q
ok-joins (Err x) joins p q = tt
