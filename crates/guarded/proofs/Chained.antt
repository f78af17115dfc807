-- One call of `perform` after another.
use Rattle.std.proofs.Common.{◌≡◌, ℕ, suc, ◌+◌, ◌<◌, inl, inr, List, [], ◌∷◌, ◌++◌, length, take, slice_get, Option, Some, refl, sym, ap, ◌∙◌, subst, arith, length-append}
use Rattle.std.proofs.Common.{⊎_elim}
use Rattle.std.specs.Option.{option_map_or}
use Rattle.word_bits.specs.LockWords.{Unavailable}
use Rattle.word_bits.specs.Objects.{Obj, IsObjectReply}
use Rattle.word_bits.specs.Histories.{Plan, logs}
use Rattle.word_bits.specs.Legal.{IsRecord, IsUnheldReply, seen_after}
use Rattle.word_bits.proofs.States.{IsLawful, state_is_state}
use Rattle.lock_core.specs.Records.{row, seen_by}
use Rattle.lock_core.specs.Views.{Knows, next_entry}
use Rattle.lock_core.proofs.RecordLaws.{seen_by-snoc}
use Rattle.lock_core.proofs.RowLaws.{none-some, same-some, get-either, some-inside}
use Rattle.lock_core.specs.Shown.{Shown}
use Rattle.lock_core.specs.Kinds.{Kind}
use Rattle.lock_core.specs.Kinds as kinds
use Rattle.guarded.specs.Performing.{Performs}
use Rattle.guarded.specs.Gathering.{AreExact, HasDoneSoFar}
use Rattle.guarded.specs.Types.{CallWords, Entry, Rec, Reply, Good, Num, Refused, MapErr, AccErr, Busy, Intr, Sent, Hand, Told}

module _ {Call : Type 0} (o : Obj Call) (unavailable : Unavailable) where
  no-unheld : (w : CallWords) (reply : Reply) → IsObjectReply reply → {P : Type 0} → IsUnheldReply o unavailable w reply → P
  no-unheld w Good is u = absurd u
  no-unheld w (Num n) is u = absurd u
  no-unheld w (Refused x) is u = absurd u
  no-unheld w MapErr is u = absurd u
  no-unheld w AccErr is u = absurd u
  no-unheld w (Busy x) is u = absurd is
  no-unheld w Intr is u = absurd is
  no-unheld w Sent is u = absurd is

  -- a record of a call that never held stands where its task had seen the log end
  exact-of : (lawful : IsLawful o) (k : Plan) (log : List Entry) (seen : ℕ) (e : Entry) (w : CallWords) (r : Rec) → IsRecord o unavailable k log seen e w r → IsUnheldReply o unavailable w r.reply → r.k ≡ seen
  exact-of lawful k log seen e w r (inl t) u = no-unheld w r.reply (subst IsObjectReply (sym t.reply) (lawful.replies _ t.call (state_is_state o lawful k (take r.k log)) (lawful.called w t.call t.is))) u
  exact-of lawful k log seen e w r (inr (inl t)) u = no-unheld w r.reply (subst IsObjectReply (sym t.reply) (lawful.replies _ t.call (state_is_state o lawful k (take r.k log)) (lawful.called w t.call t.is))) u
  exact-of lawful k log seen e w r (inr (inr t)) u = t.place

  exact-more : (seen : ℕ) (ws : List CallWords) (rs : List Rec) (w : CallWords) (r : Rec) → slice_get ws (length rs) ≡ Some w → AreExact o unavailable seen ws rs → (IsUnheldReply o unavailable w r.reply → r.k ≡ seen_by o seen ws rs) → AreExact o unavailable seen ws (rs ++ r ∷ [])
  exact-more seen [] [] w r at are is = none-some w at
  exact-more seen (v ∷ ws) [] w r at are is = (λ u. is (subst (λ x. IsUnheldReply o unavailable x r.reply) (same-some v w at) u), tt)
  exact-more seen [] (x ∷ rs) w r at are is = absurd are
  exact-more seen (v ∷ ws) (x ∷ rs) w r at are is = (are.0, exact-more (seen_after (logs o v x.reply) x) ws rs w r at are.1 is)

-- a pass that knows a record still knows it when it has made another
still-knows : (h g : Hand) (x : Told) (e : Entry) (r : Rec) → g.records ≡ x ∷ h.records → Knows h e r → Knows g e r
still-knows h g x e r is knows = (suc knows.0, ap (λ xs. slice_get xs (suc knows.0)) is ∙ knows.1)

pub one-more : {Call : Type 0} (o : Obj Call) (lawful : IsLawful o) (kind : Kind) (at : ℕ) (k : Plan) (t count : ℕ) (reply : Reply) (rs : List Rec) (v u : Shown) → v.hand.task ≡ Some t → (p : Performs o kind at k reply v u) → HasDoneSoFar o (kinds.unavailable kind) k v.hand t count rs → HasDoneSoFar o (kinds.unavailable kind) k u.hand t (count + 1) (rs ++ p.rec ∷ [])
one-more o lawful kind at k t count reply rs v u task p d =
    let entry : next_entry v.hand ≡ record { task = t; call = length rs } = λ i. record { task = option_map_or (λ x. x) (task i) 0; call = (d.next ∙ sym d.many) i } in
    let there : slice_get (row k t) (length rs) ≡ Some p.words = subst (λ (e : Entry). slice_get (row k e.task) e.call ≡ Some p.words) entry p.next.1 in
    let long = length-append rs (p.rec ∷ []) in record {
      does = record {
        exact = exact-more o (kinds.unavailable kind) 0 (row k t) rs p.words p.rec there d.does.exact (λ un. exact-of o (kinds.unavailable kind) lawful k u.hand.seen (length v.hand.seen) (next_entry v.hand) p.words p.rec p.means un ∙ d.seen);
        known = λ c r here. ⊎_elim
            (λ (l : slice_get rs c ≡ Some r). still-knows v.hand u.hand _ _ r p.records (d.does.known c r l))
            (λ (q : (j : ℕ) × (c ≡ length rs + j) × (slice_get (p.rec ∷ []) j ≡ Some r)).
            let inside = some-inside (p.rec ∷ []) q.0 r q.2 in
            let first : q.0 ≡ 0 = omega (arith, inside) in
            let is : p.rec ≡ r = same-some p.rec r (subst (λ n. slice_get (p.rec ∷ []) n ≡ Some r) first q.2) in
            let place : c ≡ length rs = omega (arith, q.1, first) in
            (0, ap (λ xs. slice_get xs 0) p.records ∙ (λ i. Some (record { entry = (entry ∙ (λ j. record { task = t; call = sym place j })) i; rec = is i }))))
            (get-either rs (p.rec ∷ []) c r here);
      };
      many = let m = d.many in omega (arith, long, m);
      next = p.done ∙ ap (λ n. n + 1) d.next;
      seen = p.sees ∙ (ap (λ x. seen_after (logs o p.words x) p.rec) (sym p.says) ∙ sym (seen_by-snoc o 0 (row k t) rs p.words p.rec there));
    }

pub seen-none : {Call : Type 0} (o : Obj Call) (seen : ℕ) (ws : List CallWords) → seen_by o seen ws [] ≡ seen
seen-none o seen [] = refl
seen-none o seen (w ∷ ws) = refl

pub none-done : {Call : Type 0} (o : Obj Call) (unavailable : Unavailable) (k : Plan) (h : Hand) (t : ℕ) → h.done ≡ 0 → length h.seen ≡ 0 → HasDoneSoFar o unavailable k h t 0 []
none-done o unavailable k h t done seen = record { does = record { exact = tt; known = λ c r at. none-some r at }; many = refl; next = done; seen = seen ∙ sym (seen-none o 0 (row k t)) }

pub next-there : (k : Plan) (h : Hand) (t call : ℕ) → h.task ≡ Some t → call < length (row k t) → call < length (row k (next_entry h).task)
next-there k h t call task l = subst (λ (x : Option ℕ). call < length (row k (option_map_or (λ y. y) x 0))) (sym task) l
