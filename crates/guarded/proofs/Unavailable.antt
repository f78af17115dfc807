-- Words that are unavailable in one sense and so in another: what may be noted, and what is recorded, in the one sense is so in the other.
use Rattle.std.proofs.Common.{ℕ, ◌+◌, List, [], ◌∷◌, Bool, inl, inr}
use Rattle.guarded.specs.Types.{CallWords, Entry, Rec, Reply, Busy, Intr, Sent, Good, Num, Refused, MapErr, AccErr, Hand, Told}
use Rattle.word_bits.specs.Histories.{Plan, logs}
use Rattle.word_bits.specs.Legal.{IsRecord, IsUnheldReply, seen_after}
use Rattle.word_bits.specs.LockWords.{Unavailable}
use Rattle.word_bits.specs.Objects.{Obj}
use Rattle.lock_core.specs.Chronicles.{Chronicles}
use Rattle.lock_core.specs.SitePasses.{MayNote}
use Rattle.lock_core.specs.Records.{AreNext, row}

module _ {Call : Type 0} (o : Obj Call) (one other : Unavailable) (so : (reads : Bool) (word : ℕ) → one reads word → other reads word) where
  pub may-note-so : (k : Plan) (h : Hand) (e : Entry) (reply : Reply) → MayNote o one k h e reply → MayNote o other k h e reply
  may-note-so k h e (Busy word) m = record { words = m.words; call = m.call; planned = m.planned; is = m.is; tries = m.tries; free = m.free; saw = m.saw; seen = m.seen; word_is = m.word_is; since = m.since; shut = so (o.reads m.call) word m.shut }
  may-note-so k h e Intr m = record { words = m.words; call = m.call; planned = m.planned; is = m.is; waits = m.waits; free = m.free; consumed = m.consumed; saw = m.saw; seen = m.seen; since = m.since; shut = so (o.reads m.call) m.saw.word m.shut }
  may-note-so k h e Sent m = m
  may-note-so k h e Good m = m
  may-note-so k h e (Num n) m = m
  may-note-so k h e (Refused x) m = m
  may-note-so k h e MapErr m = m
  may-note-so k h e AccErr m = m

  unheld-so : (w : CallWords) (reply : Reply) → IsUnheldReply o one w reply → IsUnheldReply o other w reply
  unheld-so w (Busy word) r = (r.0, (r.1.0, r.1.1, so (o.reads r.1.0) word r.1.2))
  unheld-so w Intr r = r
  unheld-so w Sent r = r
  unheld-so w Good r = r
  unheld-so w (Num n) r = r
  unheld-so w (Refused x) r = r
  unheld-so w MapErr r = r
  unheld-so w AccErr r = r

  record-so : (k : Plan) (log : List Entry) (seen : ℕ) (e : Entry) (w : CallWords) (r : Rec) → IsRecord o one k log seen e w r → IsRecord o other k log seen e w r
  record-so k log seen e w r (inl x) = inl (record { call = x.call; is = x.is; changes = x.changes; place = x.place; reply = x.reply })
  record-so k log seen e w r (inr (inl x)) = inr (inl (record { call = x.call; is = x.is; reads = x.reads; place = x.place; reply = x.reply }))
  record-so k log seen e w r (inr (inr x)) = inr (inr (record { reply = unheld-so w r.reply x.reply; place = x.place; within = x.within }))

  next-so : (k : Plan) (log : List Entry) (t call seen : ℕ) (ws : List CallWords) (rs : List Rec) → AreNext o one k log t call seen ws rs → AreNext o other k log t call seen ws rs
  next-so k log t call seen [] [] a = a
  next-so k log t call seen (w ∷ ws) [] a = a
  next-so k log t call seen [] (r ∷ rs) a = a
  next-so k log t call seen (w ∷ ws) (r ∷ rs) a = (
    record { fits = a.0.fits; means = record-so k log r.k (record { task = t; call = call }) w r a.0.means; after = a.0.after },
    next-so k log t (call + 1) (seen_after (logs o w r.reply) r) ws rs a.1,
  )

  pub chronicles-so : (k : Plan) (known : List Told) (log : List Entry) → Chronicles o one k known log → Chronicles o other k known log
  chronicles-so k known log c = record {
    told = c.told;
    tasks = c.tasks;
    legal = λ t. next-so k log t 0 0 (row k t) (row c.told t) (c.legal t);
    logged = c.logged;
    interrupted = c.interrupted;
    knows = c.knows;
  }
