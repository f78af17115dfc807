-- Each call takes effect at the step that stores its record.
use Rattle.std.proofs.Common.{◌≡◌, ◌≢◌, ℕ, zero, suc, ◌+◌, ◌-◌, ◌^◌, ◌<◌, ◌≤◌, inl, inr, ⊎_elim, Bool, true, false, not, List, [], ◌∷◌, ◌++◌, length, map, take, drop, get_or, set, slice_get, Option, Some, None, refl, sym, ap, ◌∙◌, subst, arith, get_or-set_same, length-append, take_all}
use Rattle.std.proofs.lemmas.List.{length-drop, length-map, take-map}
use mathlib.Core.Option.{some, some-injective, some-ne-none}
use mathlib.Core.Logic.{dite}
use native.Mathlib.Decide.{ℕ_discrete}
use lib.ListN.{get_elem?}
use Rattle.atomic_table.proofs.Lists.{at_map}
use Rattle.word_bits.specs.EntryWord.{IsEntry, entry_word}
use Rattle.word_bits.specs.RecWord.{IsRec, rec_word, kind_of, value_of}
use Rattle.word_bits.specs.LockWords.{Unavailable}
use Rattle.word_bits.specs.Objects.{Obj, IsObjectReply}
use Rattle.word_bits.specs.Histories.{Plan, Records, state_after, changes, logs}
use Rattle.word_bits.specs.Legal.{IsRecord, IsUnheldReply, seen_after}
use Rattle.lock_core.specs.Plans.{calls_in, start}
use Rattle.lock_core.specs.Layout.{SiteWords, site}
use Rattle.lock_core.specs.Records.{bit, row, task_recs, rec_words, IsNext, AreNext}
use Rattle.lock_core.specs.Views.{hand_of, owed_weight, held_weight, alone_weight, owed_of, held_of, alone_of}
use Rattle.lock_core.specs.Sites.{Grows, SiteKept, SiteStep, StandsLast, ServedBy, StoresRecord}
use Rattle.lock_core.specs.Moves.{SiteMove, IsTakenIn}
use Rattle.lock_core.specs.SiteStated.{IsNew}
use Rattle.lock_core.specs.Pasts.{Instant, moment, steps_of, Moves, Paced, Ran, Tail}
use Rattle.lock_core.specs.Linear.{AppliesCall, TakesEffect, IsSimulationStep, RepresentsAbstractState, LinearizesTo, IsLinearizable, IsLogOf, StateIsThatAfterLog}
use Rattle.lock_core.specs.Totals.{total, total-at, total-two}
use Rattle.lock_core.specs.Types.{CallWords, Entry, Rec, Reply, Good, Num, Refused, MapErr, AccErr, Busy, Intr, Sent, View, Hand, Moment, Held, No, Shared, Alone, Logged}
use Rattle.lock_core.specs.ViewParts.{Each, at_unmap}
use Rattle.lock_core.proofs.RowLaws.{none-some, same-some, some-inside, get-there, start-below, length-task_recs, rec_words-at, task_recs-at, task_recs-none}
use Rattle.lock_core.proofs.HandLaws.{no-alone, stage-cases, not-both}
use Rattle.lock_core.proofs.RecordLaws.{object-logs, changes-is, state-snoc}
use Rattle.lock_core.proofs.Replies.{entry_of-word}
use Rattle.lock_core.proofs.Reading.{rec_word-some, same-plan}
use Rattle.lock_core.proofs.Recording.{entry-fits}
use Rattle.lock_core.proofs.Stating.{none-writes}
use Rattle.lock_core.specs.Views.{entry_of}

-- Lists

module _ {X : Type 0} where
  get-take : (n j : ℕ) (xs : List X) (x : X) → slice_get (take n xs) j ≡ Some x → (j < n) × (slice_get xs j ≡ Some x)
  get-take zero j xs x e = none-some x e
  get-take (suc n) j [] x e = none-some x e
  get-take (suc n) zero (y ∷ xs) x e = (omega arith, e)
  get-take (suc n) (suc j) (y ∷ xs) x e = let r = get-take n j xs x e in let l = r.0 in (omega (arith, l), r.1)

  take-less : (n m : ℕ) (xs : List X) → n ≤ m → take n (take m xs) ≡ take n xs
  take-less zero m xs l = refl
  take-less (suc n) zero xs l = absurd (omega (arith, l))
  take-less (suc n) (suc m) [] l = refl
  take-less (suc n) (suc m) (x ∷ xs) l = ap (λ (z : List X). x ∷ z) (take-less n m xs (omega (arith, l)))

  at-take : (n m : ℕ) (xs : List X) → n < m → slice_get (take m xs) n ≡ slice_get xs n
  at-take n zero xs l = absurd (omega (arith, l))
  at-take n (suc m) [] l = refl
  at-take zero (suc m) (x ∷ xs) l = refl
  at-take (suc n) (suc m) (x ∷ xs) l = at-take n m xs (omega (arith, l))

  take-next : (n : ℕ) (xs : List X) (x : X) → slice_get xs n ≡ Some x → take (suc n) xs ≡ take n xs ++ x ∷ []
  take-next n [] x e = none-some x e
  take-next zero (y ∷ xs) x e = ap (λ (z : X). z ∷ []) (same-some y x e)
  take-next (suc n) (y ∷ xs) x e = ap (λ (z : List X). y ∷ z) (take-next n xs x e)

length-rec_words : (k : Plan) (told : Records) → length (rec_words k told) ≡ calls_in k
length-rec_words [] told = refl
length-rec_words (ws ∷ wss) [] = let a = length-task_recs ws [] in let b = length-rec_words wss [] in length-append (task_recs ws []) (rec_words wss []) ∙ omega (arith, a, b)
length-rec_words (ws ∷ wss) (rs ∷ rss) = let a = length-task_recs ws rs in let b = length-rec_words wss rss in length-append (task_recs ws rs) (rec_words wss rss) ∙ omega (arith, a, b)

-- entries that fit are told by their words
abbrev Fit : List Entry → Type 0
Fit xs = (j : ℕ) (e : Entry) → slice_get xs j ≡ Some e → IsEntry e

back : (xs : List Entry) → Fit xs → map entry_of (map entry_word xs) ≡ xs
back [] fits = refl
back (x ∷ xs) fits = λ i. entry_of-word x (fits zero x refl) i ∷ back xs (λ j e at. fits (suc j) e at) i

same-entries : (xs ys : List Entry) → Fit xs → Fit ys → map entry_word xs ≡ map entry_word ys → xs ≡ ys
same-entries xs ys a b e = sym (back xs a) ∙ (ap (map entry_of) e ∙ back ys b)

-- Sums

module _ {V : Type 0} (f : V → ℕ) where
  -- where all that is there before weighs as much after, and what is new nothing
  total-beside : (vs us : List V) → length vs ≤ length us → ((j : ℕ) (v u : V) → get_elem? vs j ≡ some v → get_elem? us j ≡ some u → f u ≡ f v) → ((j : ℕ) (u : V) → length vs ≤ j → get_elem? us j ≡ some u → f u ≡ 0) → total f us ≡ total f vs
  total-beside [] [] l same new = refl
  total-beside [] (u ∷ us) l same new = let a = new zero u (omega arith) refl in let b = total-beside [] us (omega arith) (λ j v x e. absurd (some-ne-none v (sym e))) (λ j x _ at. new (suc j) x (omega arith) at) in omega (arith, a, b)
  total-beside (v ∷ vs) [] l same new = absurd (omega (arith, l))
  total-beside (v ∷ vs) (u ∷ us) l same new = let a = same zero v u refl refl in let b = total-beside vs us (omega (arith, l)) (λ j x y e e'. same (suc j) x y e e') (λ j y m at. new (suc j) y (omega (arith, m)) at) in omega (arith, a, b)

  -- the same but for one, whose weight changes
  pub total-moves : (vs us : List V) (id : ℕ) (v u : V) → get_elem? vs id ≡ some v → get_elem? us id ≡ some u → length vs ≤ length us → ((j : ℕ) (x y : V) → j ≢ id → get_elem? vs j ≡ some x → get_elem? us j ≡ some y → f y ≡ f x)
      → ((j : ℕ) (y : V) → length vs ≤ j → get_elem? us j ≡ some y → f y ≡ 0) → total f us + f v ≡ total f vs + f u
  total-moves [] us id v u at at' l same new = absurd (some-ne-none v (sym at))
  total-moves (x ∷ vs) [] id v u at at' l same new = absurd (omega (arith, l))
  total-moves (x ∷ vs) (y ∷ us) zero v u at at' l same new = let a : f x ≡ f v = ap f (some-injective x v at) in let b : f y ≡ f u = ap f (some-injective y u at') in
      let c = total-beside vs us (omega (arith, l)) (λ j p q e e'. same (suc j) p q (λ z. absurd (omega (arith, z))) e e') (λ j q m there. new (suc j) q (omega (arith, m)) there) in omega (arith, a, b, c)
  total-moves (x ∷ vs) (y ∷ us) (suc id) v u at at' l same new = let a = same zero x y (λ z. absurd (omega (arith, z))) refl refl in
      let c = total-moves vs us id v u at at' (omega (arith, l)) (λ j p q other e e'. same (suc j) p q (λ z. other (omega (arith, z))) e e') (λ j q m there. new (suc j) q (omega (arith, m)) there) in omega (arith, a, c)

  total-only : (vs : List V) (id : ℕ) (v : V) → get_elem? vs id ≡ some v → ((j : ℕ) (x : V) → j ≢ id → get_elem? vs j ≡ some x → f x ≡ 0) → total f vs ≡ f v
  total-only [] id v at none = absurd (some-ne-none v (sym at))
  total-only (x ∷ vs) zero v at none = let a : f x ≡ f v = ap f (some-injective x v at) in let b = total-zero vs (λ j y there. none (suc j) y (λ z. absurd (omega (arith, z))) there) in omega (arith, a, b)
    where
      total-zero : (vs : List V) → ((j : ℕ) (x : V) → get_elem? vs j ≡ some x → f x ≡ 0) → total f vs ≡ 0
      total-zero [] none = refl
      total-zero (x ∷ vs) none = let a = none zero x refl in let b = total-zero vs (λ j y there. none (suc j) y there) in omega (arith, a, b)
  total-only (x ∷ vs) (suc id) v at none = let a = none zero x (λ z. absurd (omega (arith, z))) refl in let b = total-only vs id v at (λ j y other there. none (suc j) y (λ z. other (omega (arith, z))) there) in omega (arith, a, b)

none-owed : (hs : List Hand) → Each (λ h. owed_of h ≡ 0) hs → total owed_of hs ≡ 0
none-owed [] e = refl
none-owed (h ∷ hs) e = let a = none-owed hs (λ j g at. e (suc j) g at) in let b = e zero h refl in omega (arith, a, b)

held-some : (x : Held) → x ≢ No → held_weight x ≡ 1
held-some No n = absurd (n refl)
held-some Shared n = refl
held-some Alone n = refl

-- Replies

pub kind-most : (r : Reply) → kind_of r ≤ 8
kind-most Good = omega arith
kind-most (Num n) = omega arith
kind-most (Refused e) = omega arith
kind-most MapErr = omega arith
kind-most AccErr = omega arith
kind-most (Busy w) = omega arith
kind-most Intr = omega arith
kind-most Sent = omega arith

no-unheld : {A : Type 0} → (false ≡ true) × A → ⊥
no-unheld p = not-both false refl p.0

-- a record of a call that holds, and one of a call that doesn't, by the kind of the reply
served-held : (len : ℕ) (h : Hand) (place : ℕ) (r : Reply) → kind_of r ≤ 5 → ServedBy false len h place r → StandsLast len h place
served-held len h place Good l s = ⊎_elim (λ t. t) (λ t. absurd (no-unheld t)) s
served-held len h place (Num n) l s = ⊎_elim (λ t. t) (λ t. absurd (no-unheld t)) s
served-held len h place (Refused e) l s = ⊎_elim (λ t. t) (λ t. absurd (no-unheld t)) s
served-held len h place MapErr l s = ⊎_elim (λ t. t) (λ t. absurd (no-unheld t)) s
served-held len h place AccErr l s = ⊎_elim (λ t. t) (λ t. absurd (no-unheld t)) s
served-held len h place (Busy w) l s = absurd (omega (arith, l))
served-held len h place Intr l s = absurd (omega (arith, l))
served-held len h place Sent l s = absurd (omega (arith, l))

served-none : (len : ℕ) (h : Hand) (place : ℕ) (r : Reply) → 6 ≤ kind_of r → ServedBy false len h place r → owed_of h ≡ 0
served-none len h place Good l s = absurd (omega (arith, l))
served-none len h place (Num n) l s = absurd (omega (arith, l))
served-none len h place (Refused e) l s = absurd (omega (arith, l))
served-none len h place MapErr l s = absurd (omega (arith, l))
served-none len h place AccErr l s = absurd (omega (arith, l))
served-none len h place (Busy w) l s = s
served-none len h place Intr l s = s
served-none len h place Sent l s = s

served-alike : (len : ℕ) (h : Hand) (place place' : ℕ) (r r' : Reply) → place ≡ place' → kind_of r ≡ kind_of r' → ServedBy false len h place r → ServedBy false len h place' r'
served-alike len h place place' r r' same alike s = elim (native.Mathlib.Decide.dec_le (kind_of r) 5) [
  | yes held ↦ let t = served-held len h place r held s in let l = t.1 in by-held r' (omega (arith, held, alike)) (t.0, omega (arith, l, same))
  | no out ↦ by-none r' (omega (arith, out, alike)) (served-none len h place r (omega (arith, out)) s)
]
  where
    by-held : (r : Reply) → kind_of r ≤ 5 → StandsLast len h place' → ServedBy false len h place' r
    by-held Good l t = inl t
    by-held (Num n) l t = inl t
    by-held (Refused e) l t = inl t
    by-held MapErr l t = inl t
    by-held AccErr l t = inl t
    by-held (Busy w) l t = absurd (omega (arith, l))
    by-held Intr l t = absurd (omega (arith, l))
    by-held Sent l t = absurd (omega (arith, l))

    by-none : (r : Reply) → 6 ≤ kind_of r → owed_of h ≡ 0 → ServedBy false len h place' r
    by-none Good l t = absurd (omega (arith, l))
    by-none (Num n) l t = absurd (omega (arith, l))
    by-none (Refused e) l t = absurd (omega (arith, l))
    by-none MapErr l t = absurd (omega (arith, l))
    by-none AccErr l t = absurd (omega (arith, l))
    by-none (Busy w) l t = t
    by-none Intr l t = t
    by-none Sent l t = t

object-of : (r : Reply) → kind_of r ≤ 5 → value_of r < 2 ^ 22 → IsObjectReply r
object-of Good l v = tt
object-of (Num n) l v = v
object-of (Refused e) l v = tt
object-of MapErr l v = tt
object-of AccErr l v = tt
object-of (Busy w) l v = absurd (omega (arith, l))
object-of Intr l v = absurd (omega (arith, l))
object-of Sent l v = absurd (omega (arith, l))

module _ {Call : Type 0} (o : Obj Call) (h : Hand) (w : CallWords) (x : Rec) where
  effect-acts : (r : Reply) (n : ℕ) (s : o.State) (n' : ℕ) (s' : o.State) → kind_of r ≤ 5 → AppliesCall o h w x n s n' s' → TakesEffect o h w x r n s n' s'
  effect-acts Good n s n' s' l a = a
  effect-acts (Num m) n s n' s' l a = a
  effect-acts (Refused e) n s n' s' l a = a
  effect-acts MapErr n s n' s' l a = a
  effect-acts AccErr n s n' s' l a = a
  effect-acts (Busy m) n s n' s' l a = absurd (omega (arith, l))
  effect-acts Intr n s n' s' l a = absurd (omega (arith, l))
  effect-acts Sent n s n' s' l a = absurd (omega (arith, l))

  effect-none : (r : Reply) (n : ℕ) (s : o.State) → 6 ≤ kind_of r → TakesEffect o h w x r n s n s
  effect-none Good n s l = absurd (omega (arith, l))
  effect-none (Num m) n s l = absurd (omega (arith, l))
  effect-none (Refused e) n s l = absurd (omega (arith, l))
  effect-none MapErr n s l = absurd (omega (arith, l))
  effect-none AccErr n s l = absurd (omega (arith, l))
  effect-none (Busy m) n s l = (refl, refl)
  effect-none Intr n s l = (refl, refl)
  effect-none Sent n s l = (refl, refl)

-- the words of two records tell their places and the kinds of their replies
pub same-place : (x y : Rec) → IsRec x → IsRec y → rec_word x ≡ rec_word y → (x.k ≡ y.k) × (kind_of x.reply ≡ kind_of y.reply)
same-place x y f g e = let a = f.place in let b = g.place in let c = f.value in let d = g.value in let m = kind-most x.reply in let n = kind-most y.reply in (omega (arith, a, b, c, d, m, n, e), omega (arith, a, b, c, d, m, n, e))

module _ {Call : Type 0} (o : Obj Call) (unavailable : Unavailable) (size : ℕ) (k : Plan) where
  abbrev Kept : SiteWords → List Hand → Type 0
  Kept = SiteKept o unavailable size k

  next-at : (log : List Entry) (t c seen : ℕ) (ws : List CallWords) (rs : List Rec) (i : ℕ) (w : CallWords) (x : Rec) → AreNext o unavailable k log t c seen ws rs → slice_get ws i ≡ Some w → slice_get rs i ≡ Some x
      → (before : ℕ) × IsNext o unavailable k log (record { task = t; call = c + i }) before w x
  next-at log t c seen ws [] i w x a e f = none-some x f
  next-at log t c seen [] (r ∷ rs) i w x a e f = absurd a
  next-at log t c seen (v ∷ ws) (r ∷ rs) zero w x a e f = let n : c ≡ c + 0 = omega arith in (seen, subst (λ (z : ℕ × CallWords × Rec). IsNext o unavailable k log (record { task = t; call = z.0 }) seen z.1 z.2) (λ i. (n i, same-some v w e i, same-some r x f i)) a.0)
  next-at log t c seen (v ∷ ws) (r ∷ rs) (suc i) w x a e f = let n : c + 1 + i ≡ c + suc i = omega arith in let q = next-at log t (c + 1) (seen_after (logs o v r.reply) r) ws rs i w x a.1 e f in (q.0, subst (λ (z : ℕ). IsNext o unavailable k log (record { task = t; call = z }) q.0 w x) n q.1)

  -- so many entries of the log have their records, and this is the state that they leave
  abbrev Stands : (w : SiteWords) (hs : List Hand) → Kept w hs → ℕ → o.State → Type 0
  Stands w hs r n s = (n + total owed_of hs ≡ w.len) × (s ≡ state_after o k (take n r.log))

  -- an entry that has its record fits its word
  fit : (w : SiteWords) (hs : List Hand) (r : Kept w hs) (n : ℕ) → n + total owed_of hs ≤ w.len → Fit (take n r.log)
  fit w hs r n l j e at = let q = get-take n j r.log e at in let inside = q.0 in let many = r.tells.many in let t = r.balances.recorded j e q.1 (omega (arith, l, inside, many)) in entry-fits k e.task e.call r.laid.small (some-inside (row k e.task) e.call t.words t.planned)

  -- entries that fit stay in the log
  same-log : (w w' : SiteWords) (hs hs' : List Hand) (r : Kept w hs) (r' : Kept w' hs') (n : ℕ) → Grows w w' → n ≤ w.len → Fit (take n r.log) → Fit (take n r'.log) → take n r'.log ≡ take n r.log
  same-log w w' hs hs' r r' n grows l a b = let g = grows.0 in let many = r.tells.many in let many' = r'.tells.many in
      same-entries (take n r'.log) (take n r.log) b a (sym (take-map entry_word n r'.log)
      ∙ (ap (take n) (sym r'.tells.entered) ∙ (take-less n (length r'.log) w'.entries (omega (arith, l, g, many'))
      ∙ (sym (take-less n w.len w'.entries l) ∙ (ap (take n) grows.1 ∙ (take-less n w.len w.entries l
      ∙ (sym (take-less n (length r.log) w.entries (omega (arith, l, many))) ∙ (ap (take n) r.tells.entered ∙ take-map entry_word n r.log))))))))

  pub state-of : (w : SiteWords) (hs : List Hand) (r : Kept w hs) (n : ℕ) (s : o.State) → Stands w hs r n s → RepresentsAbstractState o size k w hs n s
  state-of w hs r n s stands = let len = stands.0 in let many = r.tells.many in record {
    log = r.log;
    entries = (many, r.tells.entered);
    count = omega (arith, len, many);
    fits = fit w hs r n (omega (arith, len));
    state = stands.1;
    stored = λ none. let owed = none-owed hs (λ j h at. (none j h at).1) in
        subst (λ (x : o.State). o.Represents x (take size w.guarded)) (sym (stands.1 ∙ ap (state_after o k) (take_all n r.log (omega (arith, len, owed, many))))) (r.balances.quiet (none-writes hs (λ j h at. (none j h at).0)));
  }

  -- of all that hold or owe, who holds owes alone
  owes-alone : (w : SiteWords) (hs : List Hand) (id : ℕ) (h : Hand) → Kept w hs → get_elem? hs id ≡ some h → h.held ≢ No → total owed_of hs ≡ owed_of h
  owes-alone w hs id h r at holds = total-only owed_of hs id h at (λ j g other there. stage-cases g.stage (λ none. none) (λ e is.
      let alone = ((r.each j g there).logged e is).0 in let a : alone_of g ≡ 1 = ap alone_weight alone in let b : held_of g ≡ 1 = ap held_weight alone in let c : held_of h ≡ 1 = held-some h.held holds in
      let d = total-at alone_of hs j g there in let both = total-two held_of hs j id g h there at other in let most = r.balances.apart (omega (arith, a, d)) in absurd (omega (arith, b, c, both, most))))

  module _ (reading : (s : o.State) (c : Call) → o.reads c ≡ true → (o.meaning s c).0 ≡ s)
      (w w' : SiteWords) (hs hs' : List Hand) (r : Kept w hs) (r' : Kept w' hs') (id : ℕ) (h g : Hand) (at : get_elem? hs id ≡ some h) (sums : total owed_of hs' + owed_of h ≡ total owed_of hs + owed_of g) (steps steps' : List ℕ) (had : ℕ) (had_steps : get_elem? steps id ≡ some had) (has_steps : get_elem? steps' id ≡ some (had + 1))
      (grows : Grows w w') (n : ℕ) (s : o.State) (stands : Stands w hs r n s) where
    abbrev Goes : Type 0
    Goes = (n' : ℕ) × (s' : o.State) × IsSimulationStep o k w w' hs steps steps' n s n' s' × Stands w' hs' r' n' s'

    -- a step that stores no record
    idles : w'.recs ≡ w.recs → w'.len + owed_of h ≡ w.len + owed_of g → Goes
    idles same growth = let len = stands.0 in let many = r.tells.many in let now : n + total owed_of hs' ≡ w'.len = omega (arith, len, growth, sums) in
        (n, s, inl (same, refl, refl), (now, stands.1 ∙ ap (state_after o k) (sym (same-log w w' hs hs' r r' n grows (omega (arith, len)) (fit w hs r n (omega (arith, len))) (fit w' hs' r' n (omega (arith, now)))))))

    module _ (task : ℕ) (named : h.task ≡ Some task) (words : CallWords) (planned : slice_get (row k task) h.done ≡ Some words) (x : Rec) (fits : IsRec x) (empty : get_or w.recs (start k task + h.done) 0 ≡ 0) (stored : w'.recs ≡ set w.recs (start k task + h.done) (rec_word x))
        (told : slice_get (row r'.told task) h.done ≡ Some x) (means : IsRecord o unavailable k r'.log x.k (record { task = task; call = h.done }) words x) (len : w'.len ≡ w.len) (paid : owed_of g ≡ 0) where
      serves : (n' : ℕ) (s' : o.State) → TakesEffect o h words x x.reply n s n' s' → Stands w' hs' r' n' s' → Goes
      serves n' s' effect now = (n', s', inr record { id = id; hand = h; at = at; had = had; had_steps = had_steps; has_steps = has_steps; task = task; named = named; words = words; planned = planned; rec = x; fits = fits; empty = empty; stored = stored; effect = effect }, now)

      -- of a call that never held
      passes : owed_of h ≡ 0 → Stands w' hs' r' n s
      passes none = let was = stands.0 in let now : n + total owed_of hs' ≡ w'.len = omega (arith, was, sums, paid, none, len) in
          (now, stands.1 ∙ ap (state_after o k) (sym (same-log w w' hs hs' r r' n grows (omega (arith, was)) (fit w hs r n (omega (arith, was))) (fit w' hs' r' n (omega (arith, now))))))

      -- of one that holds
      acts : IsObjectReply x.reply → StandsLast w.len h x.k → (n' : ℕ) × (s' : o.State) × AppliesCall o h words x n s n' s' × Stands w' hs' r' n' s'
      acts object last = let was = stands.0 in let own = owes-alone w hs id h r at last.0 in let l = last.1 in let place : x.k ≡ n = omega (arith, was, own, l) in let none : total owed_of hs' ≡ 0 = omega (arith, sums, paid, own) in
          let many' = r'.tells.many in let long : length r'.log ≡ n + owed_of h = omega (arith, was, own, len, many') in
          let old : take n r'.log ≡ take n r.log = same-log w w' hs hs' r r' n grows (omega (arith, was)) (fit w hs r n (omega (arith, was))) (fit w' hs' r' n (omega (arith, long, none, many'))) in
          let state : s ≡ state_after o k (take n r'.log) = stands.1 ∙ ap (state_after o k) (sym old) in
          let here : state_after o k (take x.k r'.log) ≡ s = ap (λ (z : ℕ). state_after o k (take z r'.log)) place ∙ sym state in
          stage-cases h.stage (λ rests. reads rests place none long state here means) (λ e is. changed e is own place none long state here means)
        where
          Result : Type 0
          Result = (n' : ℕ) × (s' : o.State) × AppliesCall o h words x n s n' s' × Stands w' hs' r' n' s'

          never : (reply : Reply) {P : Type 0} → IsObjectReply reply → IsUnheldReply o unavailable words reply → P
          never Good i u = absurd u
          never (Num m) i u = absurd u
          never (Refused e) i u = absurd u
          never MapErr i u = absurd u
          never AccErr i u = absurd u
          never (Busy m) i u = absurd i
          never Intr i u = absurd i
          never Sent i u = absurd i

          -- a call that owes no record reads
          reads : owed_of h ≡ 0 → x.k ≡ n → total owed_of hs' ≡ 0 → length r'.log ≡ n + owed_of h → s ≡ state_after o k (take n r'.log) → state_after o k (take x.k r'.log) ≡ s → IsRecord o unavailable k r'.log x.k (record { task = task; call = h.done }) words x → Result
          reads rests place none long state here (inl q) = let l = some-inside r'.log x.k (record { task = task; call = h.done }) q.place in absurd (omega (arith, l, place, long, rests))
          reads rests place none long state here (inr (inl q)) = (
            n,
            (o.meaning s q.call).0,
            record { call = q.call; is = q.is; holds = last.0; alone = λ e. not-both (o.reads q.call) e q.reads; place = place; reply = q.reply ∙ ap (λ (z : o.State). (o.meaning z q.call).1) here; state = refl; counts = (let z : bit (not (o.reads q.call)) ≡ 0 = ap (λ (b : Bool). bit (not b)) q.reads in omega (arith, z)) },
            (let many' = r'.tells.many in omega (arith, none, long, rests, many'), reading s q.call q.reads ∙ state),
          )
          reads rests place none long state here (inr (inr q)) = never x.reply object q.reply

          -- the entry that a pass owes a record stands in the log, and the record says so
          hidden : (e : Entry) → h.stage ≡ Logged e → total owed_of hs ≡ owed_of h → total owed_of hs' ≡ 0 → length r'.log ≡ n + owed_of h → (c : Call) → o.call_of words ≡ Some c → o.reads c ≡ true → ⊥
          hidden e is own none long c called reads_it = let one : owed_of h ≡ 1 = ap owed_weight is in let was = stands.0 in let many = r.tells.many in let many' = r'.tells.many in let q = (r.each id h at).logged e is in
              let t : task ≡ e.task = same-some task e.task (sym named ∙ q.1) in let d : h.done ≡ e.call = q.2 in let last_place : length r.log - 1 ≡ n = omega (arith, was, own, one, many) in
              let there : slice_get r.log n ≡ Some e = ap (slice_get r.log) (sym last_place) ∙ q.3 in
              let its : slice_get (row k e.task) e.call ≡ Some words = ap (λ (z : ℕ × ℕ). slice_get (row k z.0) z.1) (λ i. (sym t i, sym d i)) ∙ planned in
              let fits_it : IsEntry e = entry-fits k e.task e.call r.laid.small (some-inside (row k e.task) e.call words its) in
              let all : Fit (take (n + 1) r.log) = λ j y get. let p = get-take (n + 1) j r.log y get in let l = p.0 in dite (ℕ_discrete j n)
              (λ same. subst IsEntry (same-some e y (sym there ∙ (ap (slice_get r.log) (sym same) ∙ p.1))) fits_it)
              (λ other. let b = r.balances.recorded j y p.1 (omega (arith, l, other, own, one, was, many)) in entry-fits k y.task y.call r.laid.small (some-inside (row k y.task) y.call b.words b.planned)) in
              let same = same-log w w' hs hs' r r' (n + 1) grows (omega (arith, was, own, one)) all (fit w' hs' r' (n + 1) (omega (arith, long, none, one, many'))) in
              let there' : slice_get r'.log n ≡ Some e = sym (at-take n (n + 1) r'.log (omega arith)) ∙ (ap (λ (z : List Entry). slice_get z n) same ∙ (at-take n (n + 1) r.log (omega arith) ∙ there)) in
              let b = r'.balances.recorded n e there' (omega (arith, long, none, one)) in
              let rec_is : b.rec ≡ x = same-some b.rec x (sym b.recorded ∙ (ap (λ (z : ℕ × ℕ). slice_get (row r'.told z.0) z.1) (λ i. (sym t i, sym d i)) ∙ told)) in
              let words_are : b.words ≡ words = same-some b.words words (sym b.planned ∙ its) in
              let logged_it : logs o words x.reply ≡ true = subst (λ (z : CallWords × Rec). logs o z.0 z.1.reply ≡ true) (λ i. (words_are i, rec_is i)) b.logged in
              not-both (changes o words) (changes-is o words c called ∙ ap not reads_it) (sym (object-logs o words x.reply object) ∙ logged_it)

          -- one that owes one changes
          changed : (e : Entry) → h.stage ≡ Logged e → total owed_of hs ≡ owed_of h → x.k ≡ n → total owed_of hs' ≡ 0 → length r'.log ≡ n + owed_of h → s ≡ state_after o k (take n r'.log) → state_after o k (take x.k r'.log) ≡ s → IsRecord o unavailable k r'.log x.k (record { task = task; call = h.done }) words x → Result
          changed e is own place none long state here (inl q) = let one : owed_of h ≡ 1 = ap owed_weight is in let there : slice_get r'.log n ≡ Some (record { task = task; call = h.done }) = ap (slice_get r'.log) (sym place) ∙ q.place in (
            n + 1,
            (o.meaning s q.call).0,
            record { call = q.call; is = q.is; holds = last.0; alone = λ _. ((r.each id h at).logged e is).0; place = place; reply = q.reply ∙ ap (λ (z : o.State). (o.meaning z q.call).1) here; state = refl; counts = (let z : bit (not (o.reads q.call)) ≡ 1 = ap (λ (b : Bool). bit (not b)) q.changes in omega (arith, z)) },
            (
              let many' = r'.tells.many in omega (arith, none, long, one, many'),
              sym (ap (state_after o k) ((let z : n + 1 ≡ suc n = omega arith in ap (λ (m : ℕ). take m r'.log) z) ∙ take-next n r'.log (record { task = task; call = h.done }) there) ∙ (state-snoc o k (take n r'.log) (record { task = task; call = h.done }) words q.call planned q.is ∙ ap (λ (z : o.State). (o.meaning z q.call).0) (sym state))),
            ),
          )
          changed e is own place none long state here (inr (inl q)) = absurd (hidden e is own none long q.call q.is q.reads)
          changed e is own place none long state here (inr (inr q)) = never x.reply object q.reply

      takes : ServedBy false w.len h x.k x.reply → Goes
      takes served = elim (native.Mathlib.Decide.dec_le (kind_of x.reply) 5) [
        | yes held ↦ let a = acts (object-of x.reply held fits.value) (served-held w.len h x.k x.reply held served) in serves a.0 a.1 (effect-acts o h words x x.reply n s a.0 a.1 held a.2) a.3
        | no out ↦ let l : 6 ≤ kind_of x.reply = omega (arith, out) in serves n s (effect-none o h words x x.reply n s l) (passes (served-none w.len h x.k x.reply l served))
      ]

    -- a step that stores one
    records : {step : ℕ} → StoresRecord false step w w' h g → Goes
    records t = let its : t.plan ≡ k = same-plan o unavailable size k h t.plan (r.each id h at).plan t.planned in
        let next : h.done < length (row k t.task) = subst (λ (z : Plan). h.done < length (row z t.task)) its t.next in
        let empty : get_or w.recs (start k t.task + h.done) 0 ≡ 0 = subst (λ (z : Plan). get_or w.recs (start z t.task + h.done) 0 ≡ 0) its t.empty in
        let stored : w'.recs ≡ set w.recs (start k t.task + h.done) (rec_word t.rec) = subst (λ (z : Plan). w'.recs ≡ set w.recs (start z t.task + h.done) (rec_word t.rec)) its t.stored in
        let call = get-there (row k t.task) h.done next in let below = start-below k t.task h.done next in let wide : length w.recs ≡ calls_in k = ap length r.tells.filled ∙ length-rec_words k r.told in
        let now : get_or w'.recs (start k t.task + h.done) 0 ≡ rec_word t.rec = ap (λ (z : List ℕ). get_or z (start k t.task + h.done) 0) stored ∙ get_or-set_same w.recs (start k t.task + h.done) (rec_word t.rec) 0 (omega (arith, below, wide)) in
        let line : get_or w'.recs (start k t.task + h.done) 0 ≡ get_or (task_recs (row k t.task) (row r'.told t.task)) h.done 0 = ap (λ (z : List ℕ). get_or z (start k t.task + h.done) 0) r'.tells.filled ∙ rec_words-at k r'.told t.task h.done r'.tells.tasks next in
        elim (native.Mathlib.Decide.dec_le (length (row r'.told t.task)) h.done) [
          | yes none ↦ absurd (rec_word-some t.rec (sym now ∙ (line ∙ task_recs-none (row k t.task) (row r'.told t.task) h.done none)))
          | no has ↦ let x = get-there (row r'.told t.task) h.done (omega (arith, has)) in
              let word : rec_word x.0 ≡ rec_word t.rec = sym (task_recs-at (row k t.task) (row r'.told t.task) h.done x.0 next x.1) ∙ (sym line ∙ now) in
              let q = next-at r'.log t.task 0 0 (row k t.task) (row r'.told t.task) h.done call.0 x.0 (r'.tells.legal t.task) call.1 x.1 in let zero_it : 0 + h.done ≡ h.done = omega arith in
              let alike = same-place x.0 t.rec q.1.fits t.fits word in
              takes t.task t.named call.0 call.1 x.0 q.1.fits empty (stored ∙ ap (set w.recs (start k t.task + h.done)) (sym word)) x.1
              (subst (λ (z : ℕ). IsRecord o unavailable k r'.log x.0.k (record { task = t.task; call = z }) call.0 x.0) zero_it q.1.means) t.len t.paid
              (served-alike w.len h t.rec.k x.0.k t.rec.reply x.0.reply (sym alike.0) (sym alike.1) t.served)
        ]

    pub goes : {step : ℕ} → SiteStep false step w w' h g → Goes
    goes step = ⊎_elim (λ (t : (w'.recs ≡ w.recs) × (g.last ≡ h.last) × (w'.len + owed_of h ≡ w.len + owed_of g)). idles t.0 t.2) (λ t. records t) step.records

  -- whichever log and records a table has, by its words, it stands so
  stands-any : (w : SiteWords) (hs : List Hand) (r r' : Kept w hs) (n : ℕ) (s : o.State) → Stands w hs r n s → Stands w hs r' n s
  stands-any w hs r r' n s stands = let l = stands.0 in (stands.0, stands.1 ∙ ap (state_after o k) (sym (same-log w w hs hs r r' n (omega arith, refl) (omega (arith, l)) (fit w hs r n (omega (arith, l))) (fit w hs r' n (omega (arith, l))))))

  stands-new : (m : Moment) (r : Kept (site k m.words) m.hands) → IsNew o size k m → Stands (site k m.words) m.hands r 0 o.empty
  stands-new m r new = let none : total owed_of m.hands ≡ 0 = ap (total owed_of) new.hands in let len = new.logged in (omega (arith, none, len), refl)

-- the oldest moment of a past
pub one-last : (new m : Moment) → Tail (new ∷ []) (m ∷ []) → m ≡ new
one-last new m (zero, e) = ap (λ (z : List Moment). first z) e
  where
    first : List Moment → Moment
    first [] = m
    first (x ∷ xs) = x
one-last new m (suc n, e) = absurd (none-left n [] refl e)
  where
    none-left : (n : ℕ) (xs : List Moment) → xs ≡ [] → drop n xs ≡ new ∷ [] → ⊥
    none-left n xs is e = let l = ap length e in let z = ap length is in omega (arith, l, z, length-drop n xs)

pub rest-last : (new y x : Moment) (h : List Moment) → Tail (new ∷ []) (y ∷ x ∷ h) → Tail (new ∷ []) (x ∷ h)
rest-last new y x h (zero, e) = let l = ap length e in absurd (omega (arith, l))
rest-last new y x h (suc n, e) = (n, e)

pub plan-or-not : (p : Option Plan) {P : Type 0} → (p ≡ None → P) → (p ≢ None → P) → P
plan-or-not None none live = none refl
plan-or-not (Some k) none live = live (λ e. none-some k (sym e))

module _ {E Call : Type 0} (o : Obj Call) (unavailable : Unavailable) (size : ℕ) (k : Plan) (reading : (s : o.State) (c : Call) → o.reads c ≡ true → (o.meaning s c).0 ≡ s) where
  -- what the hands of a table owe together changes by what the pass owes that moves
  sums : (id word : ℕ) (w w' : SiteWords) (vs us : List (View E)) → SiteKept o unavailable size k w (map hand_of vs) → (m : SiteMove id word w vs w' us) → total owed_of (map hand_of us) + owed_of m.before.hand ≡ total owed_of (map hand_of vs) + owed_of m.after.hand
  sums id word w w' vs us r m = let lasts = m.lasts in total-moves owed_of (map hand_of vs) (map hand_of us) id m.before.hand m.after.hand (at_map hand_of vs id m.before m.at) (at_map hand_of us id m.after m.at')
      (omega (arith, lasts, length-map vs hand_of, length-map us hand_of))
      (λ j a b other here there. let v = at_unmap hand_of vs j a here in let u = at_unmap hand_of us j b there in
      let same : u.0 ≡ v.0 → owed_of b ≡ owed_of a = λ e. ap owed_of (sym u.2) ∙ (ap (λ (z : View E). owed_of z.hand) e ∙ ap owed_of v.2) in
      plan-or-not u.0.hand.plan
      (λ none. ⊎_elim same (λ (t : IsTakenIn v.0 u.0). let gone : owed_of b ≡ 0 = ap owed_of (sym u.2) ∙ ap (λ (z : View E). owed_of z.hand) t.gone in
      let free : owed_of a ≡ 0 = stage-cases a.stage (λ e. e) (λ e is. no-alone (sym (sym (ap (λ (z : Hand). z.held) v.2) ∙ t.free.0) ∙ ((r.each j a here).logged e is).0)) in omega (arith, gone, free)) (m.spends j v.0 u.0 other v.1 u.1 none))
      (λ live. same (m.others j v.0 u.0 other v.1 u.1 live)))
      (λ j b out there. let u = at_unmap hand_of us j b there in ap owed_of (sym u.2) ∙ ap (λ (z : View E). owed_of z.hand) (m.born j u.0 (omega (arith, out, length-map vs hand_of)) u.1))

  module _ (marks : E → List ℕ) (word_at : ℕ) (holds : List ℕ → List (View E) → Type 0) (moves : ℕ → List ℕ → List (View E) → List ℕ → List (View E) → Type 0)
      (kept : (ws : List ℕ) (vs : List (View E)) → holds ws vs → SiteKept o unavailable size k (site k ws) (map hand_of vs))
      (moved : (id : ℕ) (ws us : List ℕ) (vs vs' : List (View E)) → SiteKept o unavailable size k (site k ws) (map hand_of vs) → moves id ws vs us vs' → SiteMove id (get_or ws word_at 0) (site k ws) vs (site k us) vs')
      (new : Moment) (is_new : IsNew o size k new) where
    abbrev Hands : Instant E → List Hand
    Hands x = map hand_of x.views

    abbrev KeptAt : Instant E → Type 0
    KeptAt x = SiteKept o unavailable size k (site k x.words) (Hands x)

    abbrev StandsAt : Instant E → ℕ → o.State → Type 0
    StandsAt x n s = (r : KeptAt x) → Stands o unavailable size k (site k x.words) (Hands x) r n s

    linear-step : (x y : Instant E) (n : ℕ) (s : o.State) → Moves holds moves x y → StandsAt x n s
        → (n' : ℕ) × (s' : o.State) × IsSimulationStep o k (site k x.words) (site k y.words) (Hands x) (map steps_of x.views) (map steps_of y.views) n s n' s' × StandsAt y n' s' × RepresentsAbstractState o size k (site k y.words) (Hands y) n' s'
    linear-step x y n s m stands = let r = kept x.words x.views m.1 in let r' = kept y.words y.views m.2 in let move = moved m.0 x.words y.words x.views y.views r m.3 in
        let t = goes o unavailable size k reading (site k x.words) (site k y.words) (Hands x) (Hands y) r r' m.0 move.before.hand move.after.hand (at_map hand_of x.views m.0 move.before move.at) (sums m.0 (get_or x.words word_at 0) (site k x.words) (site k y.words) x.views y.views r move) (map steps_of x.views) (map steps_of y.views) move.before.steps (at_map steps_of x.views m.0 move.before move.at) (at_map steps_of y.views m.0 move.after move.at' ∙ ap some move.moved.counts) move.moved.site.grows n s (stands r) move.moved.site in
        (t.0, t.1, t.2, (λ r''. stands-any o unavailable size k (site k y.words) (Hands y) r' r'' t.0 t.1 t.3), state-of o unavailable size k (site k y.words) (Hands y) r' t.0 t.1 t.3)

    runs : (y x : Instant E) (h : List (Instant E)) → Paced (Moves holds moves) (y ∷ x ∷ h) → Tail (new ∷ []) (map (moment marks) (y ∷ x ∷ h)) → (n : ℕ) × (s : o.State) × LinearizesTo o size k (map (moment marks) (y ∷ x ∷ h)) n s × StandsAt y n s
    runs y x [] p began = let m = p.0 in let first_is : moment marks x ≡ new = one-last new (moment marks x) (rest-last new (moment marks y) (moment marks x) [] began) in let its : IsNew o size k (moment marks x) = subst (IsNew o size k) (sym first_is) is_new in
        let stands : StandsAt x 0 o.empty = λ r. stands-new o unavailable size k (moment marks x) r its in let r = kept x.words x.views m.1 in let t = linear-step x y 0 o.empty m stands in
        (t.0, t.1, (t.4, (0, o.empty, t.2, (state-of o unavailable size k (site k x.words) (Hands x) r 0 o.empty (stands r), refl, refl))), t.3)
    runs y x (w ∷ h) p began = let q = runs x w h p.1 (rest-last new (moment marks y) (moment marks x) (moment marks w ∷ map (moment marks) h) began) in let t = linear-step x y q.0 q.1 p.0 q.3 in
        (t.0, t.1, (t.4, (q.0, q.1, t.2, q.2)), t.3)

    -- a run that has made a step is linear
    pub ran-linear : (m n : Moment) (h past : List Moment) → past ≡ m ∷ n ∷ h → Ran marks new (Moves holds moves) past → IsLinearizable o size k past
    ran-linear m n h past two r = long r.0 (sym r.1 ∙ two) r.1 r.2 r.3
      where
        long : (run : List (Instant E)) → map (moment marks) run ≡ m ∷ n ∷ h → past ≡ map (moment marks) run → Tail (new ∷ []) past → Paced (Moves holds moves) run → IsLinearizable o size k past
        long [] e is began p = absurd (let l = ap length e in omega (arith, l))
        long (y ∷ []) e is began p = absurd (let l = ap length e in omega (arith, l))
        long (y ∷ x ∷ g) e is began p = let q = runs y x g p (subst (Tail (new ∷ [])) is began) in subst (IsLinearizable o size k) (sym is) (q.0, q.1, q.2)

pub state_after_log : {Call : Type 0} (o : Obj Call) (size : ℕ) → StateIsThatAfterLog o size
state_after_log {Call} o size k now past n s linear none log is_log = by past linear
  where
    at_once : RepresentsAbstractState o size k (site k now.words) now.hands n s → (n ≡ length log) × (s ≡ state_after o k log)
    at_once is = let owed = none-owed now.hands none in let count = is.count in let many = is_log.many in let many' = is.entries.0 in let all : n ≡ length is.log = omega (arith, owed, count) in let long : length is.log ≡ length log = omega (arith, many, many') in
        let whole : take n is.log ≡ is.log = take_all n is.log (omega (arith, all)) in
        let words : map entry_word is.log ≡ map entry_word log = sym is.entries.1 ∙ (ap (λ (z : ℕ). take z (site k now.words).entries) long ∙ is_log.entries) in
        let same : is.log ≡ log = same-entries is.log log (subst Fit whole is.fits) is_log.fits words in
        (omega (arith, all, long), is.state ∙ ap (state_after o k) (whole ∙ same))

    by : (past : List Moment) → LinearizesTo o size k (now ∷ past) n s → (n ≡ length log) × (s ≡ state_after o k log)
    by [] linear = at_once linear.0
    by (x ∷ past) linear = at_once linear.0
