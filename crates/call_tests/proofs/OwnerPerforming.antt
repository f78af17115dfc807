-- What a holder may record of its task's next call.
use Rattle.std.proofs.Common.{◌≡◌, ℕ, sym, ap, ◌∙◌, List}
use Rattle.word_bits.specs.declared.entry.Entry.{Entry}
use Rattle.word_bits.specs.declared.reply.Reply.{Reply}
use Rattle.word_bits.specs.declared.reply.Reply.TheVariants.{Good, Num, Refused, MapErr, AccErr, Busy, Intr, Sent}
use Rattle.word_bits.specs.LockWords.{Unavailable}
use Rattle.word_bits.specs.Objects.{Obj, IsObjectReply}
use Rattle.word_bits.specs.Histories.{Plan, state_after}
use Rattle.word_bits.proofs.States.{IsLawful, state_is_state}
use Rattle.lock_core.specs.declared.view.Hand.{Hand}
use Rattle.std.specs.Option.{option_map_or}
use Rattle.lock_core.specs.declared.pass.Face.{Face}
use Rattle.lock_core.specs.declared.pass.Pass.{Pass}
use Rattle.lock_core.specs.declared.site.Site.{Site}
use Rattle.lock_core.specs.SiteHandles.{hand_in, SitsAt, SaysSame}
use Rattle.lock_core.specs.Views.{next_entry}
use Rattle.lock_core.specs.SitePasses.{IsReading, MayNote}
use Rattle.lock_core.specs.Locking.{IsStored}

-- two passes that say the same of themselves are at the same call
pub stored-next : {R O E C : Type 0} (site : Site R O E C) (p q : Pass R O E C) → SitsAt site p → SitsAt site q → SaysSame p q → next_entry (hand_in q) ≡ next_entry (hand_in p)
stored-next site p q own own' same = let task : (hand_in q).task ≡ (hand_in p).task = sym own'.task ∙ (ap (λ (f : Face). f.task) same ∙ own.task) in let done : (hand_in q).done ≡ (hand_in p).done = sym own'.done ∙ (ap (λ (f : Face). f.done) same ∙ own.done) in
    λ i. record { task = option_map_or (λ (t : ℕ). t) (task i) 0; call = done i }

module _ {Call : Type 0} (o : Obj Call) where
  pub may-note : (unavailable : Unavailable) (k : Plan) (h : Hand) (e : Entry) (reply : Reply) → IsObjectReply reply → IsReading o k h e reply → MayNote o unavailable k h e reply
  may-note unavailable k h e Good is r = r
  may-note unavailable k h e (Num n) is r = r
  may-note unavailable k h e (Refused x) is r = r
  may-note unavailable k h e MapErr is r = r
  may-note unavailable k h e AccErr is r = r
  may-note unavailable k h e (Busy _) is r = elim is [ ]
  may-note unavailable k h e Intr is r = elim is [ ]
  may-note unavailable k h e Sent is r = elim is [ ]

  module _ (lawful : IsLawful o) (apart : (s t : o.State) → o.IsState s → o.IsState t → o.stores s ≡ o.stores t → s ≡ t) (exact : (s : o.State) (ws : List ℕ) → o.Represents s ws → ws ≡ o.stores s) where
    -- the state that was loaded is the one after the log
    pub loaded : (k : Plan) (h : Hand) (s : o.State) → IsStored o k h → o.IsState s → o.stores s ≡ h.known → s ≡ state_after o k h.log
    loaded k h s stored is same = apart s (state_after o k h.log) is (state_is_state o lawful k h.log) (same ∙ exact (state_after o k h.log) h.known stored)
