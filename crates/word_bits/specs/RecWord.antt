-- The word of a record.
use Rattle.std.specs.Prelude.{◌≡◌, ℕ, ◌+◌, ◌*◌, ◌^◌, ◌<◌}
use Rattle.word_bits.specs.declared.reply.Reply.{Reply}
use Rattle.word_bits.specs.declared.reply.Reply.TheVariants.{Good, Num, Refused, MapErr, AccErr, Busy, Intr, Sent}
use Rattle.word_bits.specs.declared.rec.Rec.{Rec}
use Rattle.word_bits.specs.Replies.{errno_number}

abbrev pub kind_of : Reply → ℕ
kind_of Good = 1
kind_of (Num n) = 2
kind_of (Refused e) = 3
kind_of MapErr = 4
kind_of AccErr = 5
kind_of (Busy w) = 6
kind_of Intr = 7
kind_of Sent = 8

abbrev pub value_of : Reply → ℕ
value_of Good = 0
value_of (Num n) = n
value_of (Refused e) = errno_number e
value_of MapErr = 0
value_of AccErr = 0
value_of (Busy w) = w
value_of Intr = 0
value_of Sent = 0

abbrev pub KindAndValue : ℕ → ℕ → Reply → Type 0
KindAndValue kind value reply = (kind_of reply ≡ kind) × (value_of reply ≡ value)

pub record IsRec (r : Rec) : Type 0 where
  pub place : r.k < 2 ^ 18
  pub value : value_of r.reply < 2 ^ 22

abbrev pub rec_word : Rec → ℕ
rec_word r = r.k + kind_of r.reply * 2 ^ 18 + value_of r.reply * 2 ^ 22
