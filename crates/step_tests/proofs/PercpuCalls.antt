-- A pass of a per-CPU semaphore, from call to call.
use Rattle.std.proofs.Common.{◌≡◌, ◌∙◌, ℕ, ◌<◌, false, Some, sym, subst, slice_get, List}
use Rattle.std.specs.Option.{option_map_or}
use Rattle.atomic_table.specs.Table.{Me}
use Rattle.atomic_table.specs.Seated.{TableId}
use Rattle.word_bits.specs.declared.call.CallWords.{CallWords}
use Rattle.word_bits.specs.declared.entry.Entry.{Entry}
use Rattle.word_bits.specs.declared.reply.Reply.{Reply}
use Rattle.word_bits.specs.declared.reply.Reply.TheVariants.{Good, Num, Refused, MapErr, AccErr, Busy, Intr, Sent}
use Rattle.word_bits.specs.LockWords.{Unavailable}
use Rattle.word_bits.specs.Objects.{Obj, IsObjectReply}
use Rattle.word_bits.specs.Histories.{Plan, state_after}
use Rattle.word_bits.proofs.States.{IsLawful, state_is_state}
use Rattle.lock_core.specs.declared.pass.Face.{Face}
use Rattle.lock_core.specs.declared.view.Hand.{Hand}
use Rattle.lock_core.specs.declared.view.Held.TheVariants.{No}
use Rattle.lock_core.specs.declared.view.Seen.{Seen}
use Rattle.lock_core.specs.Locking.{IsStored}
use Rattle.lock_core.specs.SitePasses.{IsReading, MayNote, Sits}
use Rattle.lock_core.specs.Records.{row}
use Rattle.lock_core.specs.Views.{next_entry}
use Rattle.lock_core.proofs.HandLaws.{false-or-true, no-alone}
use Rattle.step_tests.specs.TestPercpuPasses.{Repeats}

-- the task's next call is the one that it repeats
pub next-call : (k : Plan) (h : Hand) (task done count : ℕ) (words : CallWords) → h.task ≡ Some task → h.done ≡ done → done < count → Repeats k task count words → slice_get (row k (next_entry h).task) (next_entry h).call ≡ Some words
next-call k h task done count words named is less repeats = subst (λ (e : Entry). slice_get (row k e.task) e.call ≡ Some words) (sym (λ i. record { task = option_map_or (λ (t : ℕ). t) (named i) 0; call = is i })) (repeats done less)

-- who holds nothing writes nothing
pub quiet-out : {E : Type 0} (k : Plan) (table seat : TableId) (me : Me (Unit {0}) (Seen E)) (face : Face) → Sits k table seat me face → face.held ≡ No → me.0.view.hand.writes ≡ false
quiet-out k table seat me face r out = false-or-true me.0.view.hand.writes (λ writes. no-alone (sym out ∙ (r.held ∙ r.writer writes))) (λ quiet. quiet)

module _ {Call : Type 0} (o : Obj Call) where
  -- a reading may be noted, whatever its reply is
  pub may-note : (unavailable : Unavailable) (k : Plan) (h : Hand) (e : Entry) (reply : Reply) → IsObjectReply reply → IsReading o k h e reply → MayNote o unavailable k h e reply
  may-note unavailable k h e Good is r = r
  may-note unavailable k h e (Num n) is r = r
  may-note unavailable k h e (Refused x) is r = r
  may-note unavailable k h e MapErr is r = r
  may-note unavailable k h e AccErr is r = r
  may-note unavailable k h e (Busy _) is r = elim is [ ]
  may-note unavailable k h e Intr is r = elim is [ ]
  may-note unavailable k h e Sent is r = elim is [ ]

  -- the state that was loaded is the one after the log
  pub loaded : IsLawful o → ((s t : o.State) → o.IsState s → o.IsState t → o.stores s ≡ o.stores t → s ≡ t) → ((s : o.State) (ws : List ℕ) → o.Represents s ws → ws ≡ o.stores s) → (k : Plan) (h : Hand) (s : o.State) → IsStored o k h → o.IsState s → o.stores s ≡ h.known → s ≡ state_after o k h.log
  loaded lawful apart exact k h s stored is same = apart s (state_after o k h.log) is (state_is_state o lawful k h.log) (same ∙ exact (state_after o k h.log) h.known stored)
