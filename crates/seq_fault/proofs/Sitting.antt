-- A pass goes on with its seat where a step changed how it holds.
use Rattle.std.proofs.Common.{◌≡◌, ◌∙◌, true, ℕ, ◌+◌, ◌<◌, ◌≤◌, length, Some, None, sym, ap, subst, arith}
use Rattle.atomic_table.specs.Table.{Me}
use Rattle.atomic_table.specs.Seated.{TableId}
use Rattle.word_bits.specs.Histories.{Plan}
use Rattle.lock_core.specs.Plans.{calls_in}
use Rattle.lock_core.specs.Records.{row}
use Rattle.lock_core.specs.SitePasses.{Sits}
use Rattle.seq_fault.specs.SeqPlays.{saw_log}
use Rattle.seq_fault.specs.Types.{View, Seen, Hand, Saw, No, Alone, Face, Glance}

module _ {E : Type 0} {k : Plan} {table seat seat' : TableId} {me me' : Me (Unit {0}) (Seen E)} {face face' : Face} where
  -- it has seen the log of a moment at which it looked
  pub sits-saw : (g : Glance) (ext : E) (front : ℕ) → me'.0.view ≡ record me.0.view { hand = saw_log me.0.view.hand g; steps = me.0.view.steps + 1; ext = ext } → length g.log ≤ calls_in k → length g.log ≡ front → seat' ≡ seat → me'.1 ≡ me.1 → face' ≡ record face { front = front } → Sits k table seat me face → Sits k table seat' me' face'
  sits-saw g ext front view within far same slots says r = let hand : me'.0.view.hand ≡ saw_log me.0.view.hand g = ap (λ (v : View E). v.hand) view in let steps : me'.0.view.steps ≡ me.0.view.steps + 1 = ap (λ (v : View E). v.steps) view in record {
    own = same ∙ r.own;
    slots = slots ∙ r.slots;
    plan = ap (λ (h : Hand). h.plan) hand ∙ r.plan;
    task = ap (λ (f : Face). f.task) says ∙ (r.task ∙ sym (ap (λ (h : Hand). h.task) hand));
    held = ap (λ (f : Face). f.held) says ∙ (r.held ∙ sym (ap (λ (h : Hand). h.held) hand));
    done = ap (λ (f : Face). f.done) says ∙ (r.done ∙ sym (ap (λ (h : Hand). h.done) hand));
    front = ap (λ (f : Face). f.front) says ∙ (sym far ∙ sym (ap (λ (h : Hand). length h.seen) hand));
    stage = ap (λ (h : Hand). h.stage) hand ∙ r.stage;
    latest = let l = r.latest in let e = ap (λ (h : Hand). h.last) hand in omega (arith, l, e, steps);
    short = subst (λ (h : Hand). length h.log ≤ calls_in k) (sym hand) r.short;
    shorter = subst (λ (h : Hand). length h.seen ≤ calls_in k) (sym hand) within;
    planned = subst (λ (f : Face). (t : ℕ) → f.task ≡ Some t → (t < length k) × (f.done ≤ length (row k t))) (sym says) r.planned;
    saw = subst (λ (h : Hand). (x : Saw) → h.saw ≡ Some x → x.word < 4194304) (sym hand) r.saw;
    writer = subst (λ (h : Hand). h.writes ≡ true → h.held ≡ Alone) (sym hand) r.writer;
    nameless = subst (λ (h : Hand). h.task ≡ None → (h.held ≡ No) × (h.sent ≡ None) × (h.consumed ≡ 0)) (sym hand) r.nameless;
  }
