-- What an object replies, and the words of records and entries.
use Rattle.std.proofs.Common.{◌≡◌, ◌≢◌, ℕ, ◌/◌, ◌%◌, ◌^◌, ◌<◌, ◌⊎◌, inl, inr, ⊎_elim, Bool, true, ap, subst, List, slice_get, Some, refl, arith}
use Rattle.word_bits.specs.Replies.{errno_number}
use Rattle.word_bits.specs.EntryWord.{IsEntry, entry_word}
use Rattle.word_bits.specs.RecWord.{value_of}
use Rattle.word_bits.specs.Objects.{Obj, IsObjectReply}
use Rattle.word_bits.specs.Histories.{Plan, state_after}
use Rattle.word_bits.proofs.States.{state_is_state}
use Rattle.lock_core.specs.SitePasses.{Accounts}
use Rattle.lock_core.specs.Records.{row}
use Rattle.lock_core.specs.Sites.{HasSent, ServedBy, StandsLast}
use Rattle.lock_core.specs.Types.{CallWords, Entry, Errno, BadF, NoMem, Exist, Inval, MFile, Fault, Reply, Good, Num, Refused, MapErr, AccErr, Busy, Intr, Sent, Hand, No}
use Rattle.lock_core.specs.Views.{entry_of, owed_of, settled, OwesNoSignal}

errno-small : (e : Errno) → errno_number e < 2 ^ 22
errno-small BadF = omega arith
errno-small NoMem = omega arith
errno-small Exist = omega arith
errno-small Inval = omega arith
errno-small MFile = omega arith
errno-small Fault = omega arith

pub reply-small : (r : Reply) → IsObjectReply r → value_of r < 2 ^ 22
reply-small Good i = omega arith
reply-small (Num n) i = i
reply-small (Refused e) i = errno-small e
reply-small MapErr i = omega arith
reply-small AccErr i = omega arith
reply-small (Busy w) i = absurd i
reply-small Intr i = absurd i
reply-small Sent i = absurd i

pub reply-accounts : (h : Hand) (w : CallWords) (r : Reply) → IsObjectReply r → OwesNoSignal h → Accounts h w r
reply-accounts h w Good i none = none
reply-accounts h w (Num n) i none = none
reply-accounts h w (Refused e) i none = none
reply-accounts h w MapErr i none = none
reply-accounts h w AccErr i none = none
reply-accounts h w (Busy n) i none = absurd i
reply-accounts h w Intr i none = absurd i
reply-accounts h w Sent i none = absurd i

-- a record that accounts for signals leaves none unrecorded
pub accounts-settle : (h : Hand) (w : CallWords) (r : Reply) → Accounts h w r → OwesNoSignal (settled h r)
accounts-settle h w Good a = a
accounts-settle h w (Num n) a = a
accounts-settle h w (Refused e) a = a
accounts-settle h w MapErr a = a
accounts-settle h w AccErr a = a
accounts-settle h w (Busy n) a = a
accounts-settle h w Intr a = let one = a.1 in (a.0, omega (arith, one))
accounts-settle h w Sent a = (refl, a.0)

-- before a record that says that a signal was sent, its pass sent one to the call's target
pub accounts-sent : (k : Plan) (t : ℕ) (h : Hand) (w : CallWords) (r : Reply) → Accounts h w r → slice_get (row k t) h.done ≡ Some w → r ≡ Sent → HasSent k t h
accounts-sent k t h w r a planned is = let s = subst (Accounts h w) is a in (w, s.1.0, planned, s.1.2, s.1.1)

-- such a record leaves the signals that aren't recorded
pub settled-object : (h : Hand) (r : Reply) → IsObjectReply r → settled h r ≡ h
settled-object h Good i = refl
settled-object h (Num n) i = refl
settled-object h (Refused e) i = refl
settled-object h MapErr i = refl
settled-object h AccErr i = refl
settled-object h (Busy n) i = absurd i
settled-object h Intr i = absurd i
settled-object h Sent i = absurd i

-- a call with a reply of the object is recorded under a hold, where the log ends
pub served-last : (unheld : Bool) (len place : ℕ) (h : Hand) (r : Reply) → IsObjectReply r → StandsLast len h place → ServedBy unheld len h place r
served-last unheld len place h Good i s = inl s
served-last unheld len place h (Num n) i s = inl s
served-last unheld len place h (Refused e) i s = inl s
served-last unheld len place h MapErr i s = inl s
served-last unheld len place h AccErr i s = inl s
served-last unheld len place h (Busy w) i s = absurd i
served-last unheld len place h Intr i s = absurd i
served-last unheld len place h Sent i s = absurd i

-- or without one, where calls may read so
pub served-unheld : (unheld : Bool) (len place : ℕ) (h : Hand) (r : Reply) → IsObjectReply r → unheld ≡ true → owed_of h ≡ 0 → ServedBy unheld len h place r
served-unheld unheld len place h Good i may none = inr (may, none)
served-unheld unheld len place h (Num n) i may none = inr (may, none)
served-unheld unheld len place h (Refused e) i may none = inr (may, none)
served-unheld unheld len place h MapErr i may none = inr (may, none)
served-unheld unheld len place h AccErr i may none = inr (may, none)
served-unheld unheld len place h (Busy w) i may none = absurd i
served-unheld unheld len place h Intr i may none = absurd i
served-unheld unheld len place h Sent i may none = absurd i

-- who holds knows how long the log is
pub served-len : (unheld : Bool) (n m : ℕ) (h : Hand) (place : ℕ) (r : Reply) → (h.held ≢ No → n ≡ m) → ServedBy unheld n h place r → ServedBy unheld m h place r
served-len unheld n m h place r same s = by r s
  where
    stands : StandsLast n h place ⊎ ((unheld ≡ true) × (owed_of h ≡ 0)) → StandsLast m h place ⊎ ((unheld ≡ true) × (owed_of h ≡ 0))
    stands t = ⊎_elim (λ (u : StandsLast n h place). let e = same u.0 in let l = u.1 in inl (u.0, omega (arith, e, l))) (λ u. inr u) t

    by : (r : Reply) → ServedBy unheld n h place r → ServedBy unheld m h place r
    by Good s = stands s
    by (Num k) s = stands s
    by (Refused e) s = stands s
    by MapErr s = stands s
    by AccErr s = stands s
    by (Busy w) s = s
    by Intr s = s
    by Sent s = s

module _ {Call : Type 0} (o : Obj Call) (starts : o.IsState o.empty) (called : (words : CallWords) (call : Call) → o.call_of words ≡ Some call → o.IsCall call)
    (goes_on : (s : o.State) (call : Call) → o.IsState s → o.IsCall call → o.IsState (o.meaning s call).0)
    (replies : (s : o.State) (call : Call) → o.IsState s → o.IsCall call → IsObjectReply (o.meaning s call).1) where
  -- a call's reply on the state after a log is one of the object
  pub reply-is : (k : Plan) (log : List Entry) (w : CallWords) (c : Call) → o.call_of w ≡ Some c → IsObjectReply (o.meaning (state_after o k log) c).1
  reply-is k log w c e = replies (state_after o k log) c (state_is_state o record { starts = starts; called = called; goes_on = goes_on; replies = replies } k log) (called w c e)

pub entry_of-word : (e : Entry) → IsEntry e → entry_of (entry_word e) ≡ e
entry_of-word e is = let l = is.call in let t : entry_word e / 2 ^ 18 ≡ e.task = omega (arith, l) in let c : entry_word e % 2 ^ 18 ≡ e.call = omega (arith, l) in λ i. record { task = t i; call = c i }

pub busy-same : (a b : ℕ) → Busy a ≡ Busy b → a ≡ b
busy-same a b e = ap value_of e
