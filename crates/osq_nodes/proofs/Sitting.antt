-- A pass of a spin queue goes on with its seat.
use Rattle.std.proofs.Common.{◌≡◌, ◌≤◌, sym, ap, ◌∙◌, subst}
use Rattle.word_bits.specs.Histories.{Plan}
use Rattle.atomic_table.specs.Table.{Me}
use Rattle.atomic_table.specs.Seated.{TableId}
use Rattle.lock_core.specs.Views.{SpinRests}
use Rattle.lock_core.proofs.Sitting.{sits-on}
use Rattle.osq_nodes.specs.OsqPasses.{OnQueue}
use Rattle.osq_nodes.specs.Types.{Seen, Hand, Face, Node}

module _ {k : Plan} {table seat seat' : TableId} {me me' : Me (Unit {0}) (Seen Node)} {face face' : Face} where
  -- after a step that leaves its hand
  pub stays-on : seat' ≡ seat → me'.1 ≡ me.1 → me'.0.view.hand ≡ me.0.view.hand → me'.0.view.spin ≡ me.0.view.spin → me.0.view.steps ≤ me'.0.view.steps → face' ≡ face → OnQueue k table seat me face → OnQueue k table seat' me' face'
  stays-on same slots hand spin later says r = record {
    sits = sits-on same slots hand later says r.sits;
    holds = (ap (λ (h : Hand). h.held) hand ∙ r.holds.0, subst SpinRests (sym spin) r.holds.1);
    sent = ap (λ (h : Hand). h.sent) hand ∙ r.sent;
    consumed = ap (λ (h : Hand). h.consumed) hand ∙ r.consumed;
  }
