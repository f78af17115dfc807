-- The states that an object is in after any log.
use Rattle.std.proofs.Common.{◌≡◌, refl, List, [], ◌∷◌, Option, Some, None}
use Rattle.std.specs.Prelude.{fold}
use Rattle.std.specs.Option.{option_and_then}
use Rattle.word_bits.specs.declared.call.CallWords.{CallWords}
use Rattle.word_bits.specs.declared.entry.Entry.{Entry}
use Rattle.word_bits.specs.Objects.{Obj, IsObjectReply}
use Rattle.word_bits.specs.Histories.{Plan, at_entry, next_state, state_after}

-- the laws of an object on which its histories rest
pub record IsLawful {Call : Type 0} (o : Obj Call) : Type 0 where
  pub starts : o.IsState o.empty
  pub called : (w : CallWords) (c : Call) → o.call_of w ≡ Some c → o.IsCall c
  pub goes_on : (s : o.State) (c : Call) → o.IsState s → o.IsCall c → o.IsState (o.meaning s c).0
  pub replies : (s : o.State) (c : Call) → o.IsState s → o.IsCall c → IsObjectReply (o.meaning s c).1

module _ {Call : Type 0} (o : Obj Call) (lawful : IsLawful o) where
  -- words lead from a state to a state, whether or not they are a call
  next_is_state : (s : o.State) (w : Option CallWords) → o.IsState s → o.IsState (next_state o s (option_and_then o.call_of w))
  next_is_state s None is = is
  next_is_state s (Some w) is = go (o.call_of w) refl
    where
      go : (c : Option Call) → o.call_of w ≡ c → o.IsState (next_state o s c)
      go None e = is
      go (Some c) e = lawful.goes_on s c is (lawful.called w c e)

  -- so do those that a log names, one after the other
  fold_is_state : (plan : Plan) (log : List Entry) (s : o.State) → o.IsState s → o.IsState (fold (λ (t : o.State) (e : Entry). next_state o t (option_and_then o.call_of (at_entry plan e))) s log)
  fold_is_state plan [] s is = is
  fold_is_state plan (e ∷ es) s is = fold_is_state plan es _ (next_is_state s (at_entry plan e) is)

  -- every log leads to a state
  pub state_is_state : (plan : Plan) (log : List Entry) → o.IsState (state_after o plan log)
  state_is_state plan log = fold_is_state plan log o.empty lawful.starts
