-- What a table stores goes on with its words.
use Rattle.std.proofs.Common.{◌≡◌, ◌≢◌, ℕ, ◌+◌, ◌-◌, ◌*◌, ◌<◌, ◌≤◌, ⊎_elim, inl, inr, List, ◌++◌, length, get_or, set, replicate, sym, subst, ap, ◌∙◌, arith, length-set, get_or-set_same, get_or-set_other, length-append}
use Rattle.std.proofs.lemmas.List.{length-replicate, get_or-append-add}
use mathlib.Core.Logic.{dite}
use native.Mathlib.Decide.{ℕ_discrete, dec_le}
use Rattle.atomic_table.specs.Table.{State, Me, Allows, carried_after}
use Rattle.word_bits.specs.declared.TheConstants.{MAX_TASKS}
use Rattle.word_bits.specs.Histories.{Plan}
use Rattle.lock_core.specs.declared.layout.TheConstants.{SPIN_WORDS, LOCK_WORDS}
use Rattle.lock_core.specs.Plans.{call_words}
use Rattle.lock_core.specs.Layout.{calls_at, width, fresh}
use Rattle.lock_core.specs.Stores.{HasWord, IsMoved, IsStoredAt, Stores, left_out, lock_room, memory_width, new_memory, row_at, row_room, spin_room}
use Rattle.lock_core.specs.Stored.{LivedStored}
use Rattle.lock_core.specs.Pasts.{GoesOn, IsOwnStep, Lived, FoundAt, unseen}
use Rattle.lock_core.specs.Moves.{Lets}
use Rattle.lock_core.specs.Ops.{word_after}
use Rattle.lock_core.specs.Types.{View, Seen, Moment, Op}
use Rattle.lock_core.proofs.Steps.{allows, allows-found}
use Rattle.lock_core.proofs.Opening.{fresh-free, length-call_words, zero-in, length-fresh}

-- what follows of each of the parts in which a word may be stored
by-part : {Z : Type 0} (n i p : ℕ) → IsStoredAt n i p → (IsMoved 0 (spin_room n) 0 i p → Z) → (IsMoved SPIN_WORDS (row_room n) (4 * left_out n) i p → Z) → (IsMoved (row_at 1) (row_room n) (5 * left_out n) i p → Z) → (IsMoved (row_at 2) (row_room n) (6 * left_out n) i p → Z)
    → (IsMoved (row_at 3) (row_room n) (7 * left_out n) i p → Z) → ((LOCK_WORDS ≤ i) × (p + 8 * left_out n ≡ i) → Z) → Z
by-part n i p s a b c d e f = ⊎_elim a (λ s. ⊎_elim b (λ s. ⊎_elim c (λ s. ⊎_elim d (λ s. ⊎_elim e f s) s) s) s) s

-- it is one of the words in memory
pub stored-inside : (k : Plan) (i p : ℕ) → length k ≤ MAX_TASKS → i < width k → IsStoredAt (length k) i p → p < memory_width k
stored-inside k i p few l s = let n : ℕ = length k in by-part n i p s
    (λ x. let a = x.0 in let b = x.1 in let c = x.2 in omega (arith, few, l, a, b, c))
    (λ x. let a = x.0 in let b = x.1 in let c = x.2 in omega (arith, few, l, a, b, c))
    (λ x. let a = x.0 in let b = x.1 in let c = x.2 in omega (arith, few, l, a, b, c))
    (λ x. let a = x.0 in let b = x.1 in let c = x.2 in omega (arith, few, l, a, b, c))
    (λ x. let a = x.0 in let b = x.1 in let c = x.2 in omega (arith, few, l, a, b, c))
    (λ x. let a = x.0 in let b = x.1 in omega (arith, few, l, a, b))

-- two places aren't stored at one
pub stored-once : (n i j p : ℕ) → n ≤ MAX_TASKS → IsStoredAt n i p → IsStoredAt n j p → i ≡ j
stored-once n i j p few s t = by-part n i p s
    (λ x. let a = x.0 in let b = x.1 in let c = x.2 in by-part n j p t (λ y. let d = y.0 in let e = y.1 in let f = y.2 in omega (arith, few, a, b, c, d, e, f)) (λ y. let d = y.0 in let e = y.1 in let f = y.2 in omega (arith, few, a, b, c, d, e, f)) (λ y. let d = y.0 in let e = y.1 in let f = y.2 in omega (arith, few, a, b, c, d, e, f)) (λ y. let d = y.0 in let e = y.1 in let f = y.2 in omega (arith, few, a, b, c, d, e, f)) (λ y. let d = y.0 in let e = y.1 in let f = y.2 in omega (arith, few, a, b, c, d, e, f)) (λ y. let d = y.0 in let e = y.1 in let f = few in omega (arith, few, a, b, c, d, e, f)))
    (λ x. let a = x.0 in let b = x.1 in let c = x.2 in by-part n j p t (λ y. let d = y.0 in let e = y.1 in let f = y.2 in omega (arith, few, a, b, c, d, e, f)) (λ y. let d = y.0 in let e = y.1 in let f = y.2 in omega (arith, few, a, b, c, d, e, f)) (λ y. let d = y.0 in let e = y.1 in let f = y.2 in omega (arith, few, a, b, c, d, e, f)) (λ y. let d = y.0 in let e = y.1 in let f = y.2 in omega (arith, few, a, b, c, d, e, f)) (λ y. let d = y.0 in let e = y.1 in let f = y.2 in omega (arith, few, a, b, c, d, e, f)) (λ y. let d = y.0 in let e = y.1 in let f = few in omega (arith, few, a, b, c, d, e, f)))
    (λ x. let a = x.0 in let b = x.1 in let c = x.2 in by-part n j p t (λ y. let d = y.0 in let e = y.1 in let f = y.2 in omega (arith, few, a, b, c, d, e, f)) (λ y. let d = y.0 in let e = y.1 in let f = y.2 in omega (arith, few, a, b, c, d, e, f)) (λ y. let d = y.0 in let e = y.1 in let f = y.2 in omega (arith, few, a, b, c, d, e, f)) (λ y. let d = y.0 in let e = y.1 in let f = y.2 in omega (arith, few, a, b, c, d, e, f)) (λ y. let d = y.0 in let e = y.1 in let f = y.2 in omega (arith, few, a, b, c, d, e, f)) (λ y. let d = y.0 in let e = y.1 in let f = few in omega (arith, few, a, b, c, d, e, f)))
    (λ x. let a = x.0 in let b = x.1 in let c = x.2 in by-part n j p t (λ y. let d = y.0 in let e = y.1 in let f = y.2 in omega (arith, few, a, b, c, d, e, f)) (λ y. let d = y.0 in let e = y.1 in let f = y.2 in omega (arith, few, a, b, c, d, e, f)) (λ y. let d = y.0 in let e = y.1 in let f = y.2 in omega (arith, few, a, b, c, d, e, f)) (λ y. let d = y.0 in let e = y.1 in let f = y.2 in omega (arith, few, a, b, c, d, e, f)) (λ y. let d = y.0 in let e = y.1 in let f = y.2 in omega (arith, few, a, b, c, d, e, f)) (λ y. let d = y.0 in let e = y.1 in let f = few in omega (arith, few, a, b, c, d, e, f)))
    (λ x. let a = x.0 in let b = x.1 in let c = x.2 in by-part n j p t (λ y. let d = y.0 in let e = y.1 in let f = y.2 in omega (arith, few, a, b, c, d, e, f)) (λ y. let d = y.0 in let e = y.1 in let f = y.2 in omega (arith, few, a, b, c, d, e, f)) (λ y. let d = y.0 in let e = y.1 in let f = y.2 in omega (arith, few, a, b, c, d, e, f)) (λ y. let d = y.0 in let e = y.1 in let f = y.2 in omega (arith, few, a, b, c, d, e, f)) (λ y. let d = y.0 in let e = y.1 in let f = y.2 in omega (arith, few, a, b, c, d, e, f)) (λ y. let d = y.0 in let e = y.1 in let f = few in omega (arith, few, a, b, c, d, e, f)))
    (λ x. let a = x.0 in let b = x.1 in let c = few in by-part n j p t (λ y. let d = y.0 in let e = y.1 in let f = y.2 in omega (arith, few, a, b, c, d, e, f)) (λ y. let d = y.0 in let e = y.1 in let f = y.2 in omega (arith, few, a, b, c, d, e, f)) (λ y. let d = y.0 in let e = y.1 in let f = y.2 in omega (arith, few, a, b, c, d, e, f)) (λ y. let d = y.0 in let e = y.1 in let f = y.2 in omega (arith, few, a, b, c, d, e, f)) (λ y. let d = y.0 in let e = y.1 in let f = y.2 in omega (arith, few, a, b, c, d, e, f)) (λ y. let d = y.0 in let e = y.1 in let f = few in omega (arith, few, a, b, c, d, e, f)))

-- nor is one place stored at two
pub stored-where : (n i p q : ℕ) → n ≤ MAX_TASKS → IsStoredAt n i p → IsStoredAt n i q → p ≡ q
stored-where n i p q few s t = by-part n i p s
    (λ x. let a = x.0 in let b = x.1 in let c = x.2 in by-part n i q t (λ y. let d = y.0 in let e = y.1 in let f = y.2 in omega (arith, few, a, b, c, d, e, f)) (λ y. let d = y.0 in let e = y.1 in let f = y.2 in omega (arith, few, a, b, c, d, e, f)) (λ y. let d = y.0 in let e = y.1 in let f = y.2 in omega (arith, few, a, b, c, d, e, f)) (λ y. let d = y.0 in let e = y.1 in let f = y.2 in omega (arith, few, a, b, c, d, e, f)) (λ y. let d = y.0 in let e = y.1 in let f = y.2 in omega (arith, few, a, b, c, d, e, f)) (λ y. let d = y.0 in let e = y.1 in let f = few in omega (arith, few, a, b, c, d, e, f)))
    (λ x. let a = x.0 in let b = x.1 in let c = x.2 in by-part n i q t (λ y. let d = y.0 in let e = y.1 in let f = y.2 in omega (arith, few, a, b, c, d, e, f)) (λ y. let d = y.0 in let e = y.1 in let f = y.2 in omega (arith, few, a, b, c, d, e, f)) (λ y. let d = y.0 in let e = y.1 in let f = y.2 in omega (arith, few, a, b, c, d, e, f)) (λ y. let d = y.0 in let e = y.1 in let f = y.2 in omega (arith, few, a, b, c, d, e, f)) (λ y. let d = y.0 in let e = y.1 in let f = y.2 in omega (arith, few, a, b, c, d, e, f)) (λ y. let d = y.0 in let e = y.1 in let f = few in omega (arith, few, a, b, c, d, e, f)))
    (λ x. let a = x.0 in let b = x.1 in let c = x.2 in by-part n i q t (λ y. let d = y.0 in let e = y.1 in let f = y.2 in omega (arith, few, a, b, c, d, e, f)) (λ y. let d = y.0 in let e = y.1 in let f = y.2 in omega (arith, few, a, b, c, d, e, f)) (λ y. let d = y.0 in let e = y.1 in let f = y.2 in omega (arith, few, a, b, c, d, e, f)) (λ y. let d = y.0 in let e = y.1 in let f = y.2 in omega (arith, few, a, b, c, d, e, f)) (λ y. let d = y.0 in let e = y.1 in let f = y.2 in omega (arith, few, a, b, c, d, e, f)) (λ y. let d = y.0 in let e = y.1 in let f = few in omega (arith, few, a, b, c, d, e, f)))
    (λ x. let a = x.0 in let b = x.1 in let c = x.2 in by-part n i q t (λ y. let d = y.0 in let e = y.1 in let f = y.2 in omega (arith, few, a, b, c, d, e, f)) (λ y. let d = y.0 in let e = y.1 in let f = y.2 in omega (arith, few, a, b, c, d, e, f)) (λ y. let d = y.0 in let e = y.1 in let f = y.2 in omega (arith, few, a, b, c, d, e, f)) (λ y. let d = y.0 in let e = y.1 in let f = y.2 in omega (arith, few, a, b, c, d, e, f)) (λ y. let d = y.0 in let e = y.1 in let f = y.2 in omega (arith, few, a, b, c, d, e, f)) (λ y. let d = y.0 in let e = y.1 in let f = few in omega (arith, few, a, b, c, d, e, f)))
    (λ x. let a = x.0 in let b = x.1 in let c = x.2 in by-part n i q t (λ y. let d = y.0 in let e = y.1 in let f = y.2 in omega (arith, few, a, b, c, d, e, f)) (λ y. let d = y.0 in let e = y.1 in let f = y.2 in omega (arith, few, a, b, c, d, e, f)) (λ y. let d = y.0 in let e = y.1 in let f = y.2 in omega (arith, few, a, b, c, d, e, f)) (λ y. let d = y.0 in let e = y.1 in let f = y.2 in omega (arith, few, a, b, c, d, e, f)) (λ y. let d = y.0 in let e = y.1 in let f = y.2 in omega (arith, few, a, b, c, d, e, f)) (λ y. let d = y.0 in let e = y.1 in let f = few in omega (arith, few, a, b, c, d, e, f)))
    (λ x. let a = x.0 in let b = x.1 in let c = few in by-part n i q t (λ y. let d = y.0 in let e = y.1 in let f = y.2 in omega (arith, few, a, b, c, d, e, f)) (λ y. let d = y.0 in let e = y.1 in let f = y.2 in omega (arith, few, a, b, c, d, e, f)) (λ y. let d = y.0 in let e = y.1 in let f = y.2 in omega (arith, few, a, b, c, d, e, f)) (λ y. let d = y.0 in let e = y.1 in let f = y.2 in omega (arith, few, a, b, c, d, e, f)) (λ y. let d = y.0 in let e = y.1 in let f = y.2 in omega (arith, few, a, b, c, d, e, f)) (λ y. let d = y.0 in let e = y.1 in let f = few in omega (arith, few, a, b, c, d, e, f)))

-- a word that is stored is there
pub stored-has : (n i p : ℕ) → n ≤ MAX_TASKS → IsStoredAt n i p → HasWord n i
stored-has n i p few s = by-part n i p s
    (λ x. let b = x.1 in record { spin = λ m. absurd (omega (arith, b, m)); first = λ m. absurd (omega (arith, few, b, m)); second = λ m. absurd (omega (arith, few, b, m)); third = λ m. absurd (omega (arith, few, b, m)); fourth = λ m. absurd (omega (arith, few, b, m)) })
    (λ x. let a = x.0 in let b = x.1 in record { spin = λ _. a; first = λ m. absurd (omega (arith, b, m)); second = λ m. absurd (omega (arith, few, b, m)); third = λ m. absurd (omega (arith, few, b, m)); fourth = λ m. absurd (omega (arith, few, b, m)) })
    (λ x. let a = x.0 in let b = x.1 in record { spin = λ _. omega (arith, a); first = λ _. a; second = λ m. absurd (omega (arith, b, m)); third = λ m. absurd (omega (arith, few, b, m)); fourth = λ m. absurd (omega (arith, few, b, m)) })
    (λ x. let a = x.0 in let b = x.1 in record { spin = λ _. omega (arith, a); first = λ _. omega (arith, a); second = λ _. a; third = λ m. absurd (omega (arith, b, m)); fourth = λ m. absurd (omega (arith, few, b, m)) })
    (λ x. let a = x.0 in let b = x.1 in record { spin = λ _. omega (arith, a); first = λ _. omega (arith, a); second = λ _. omega (arith, a); third = λ _. a; fourth = λ m. absurd (omega (arith, b, m)) })
    (λ x. let a = x.0 in record { spin = λ _. omega (arith, a); first = λ _. omega (arith, a); second = λ _. omega (arith, a); third = λ _. omega (arith, a); fourth = λ _. a })

-- so a step on a word is one on what is stored of it
pub stores-set : (k : Plan) (ws ms : List ℕ) (i p x : ℕ) → length k ≤ MAX_TASKS → i < width k → IsStoredAt (length k) i p → Stores k ws ms → Stores k (set ws i x) (set ms p x)
stores-set k ws ms i p x few l s r = record { wide = length-set ws i x ∙ r.wide; memory_wide = length-set ms p x ∙ r.memory_wide; at = λ j q m t. dite (ℕ_discrete j i) (here j q m t) (there j q m t); rest = λ j m. dite (ℕ_discrete j i) (λ e. inl (subst (HasWord (length k)) (sym e) (stored-has (length k) i p few s))) (λ not. ⊎_elim (λ has. inl has) (λ zero. inr (get_or-set_other ws i j x 0 not ∙ zero)) (r.rest j m)) }
  where
    here : (j q : ℕ) → j < width k → IsStoredAt (length k) j q → j ≡ i → get_or (set ms p x) q 0 ≡ get_or (set ws i x) j 0
    here j q m t e = let same : q ≡ p = stored-where (length k) i q p few (subst (λ (z : ℕ). IsStoredAt (length k) z q) e t) s in let wide = r.wide in let memory_wide = r.memory_wide in let inside = stored-inside k i p few l s in
        ap (λ (z : ℕ). get_or (set ms p x) z 0) same ∙ (get_or-set_same ms p x 0 (omega (arith, memory_wide, inside)) ∙ (sym (get_or-set_same ws i x 0 (omega (arith, wide, l))) ∙ ap (λ (z : ℕ). get_or (set ws i x) z 0) (sym e)))

    there : (j q : ℕ) → j < width k → IsStoredAt (length k) j q → j ≢ i → get_or (set ms p x) q 0 ≡ get_or (set ws i x) j 0
    there j q m t not = get_or-set_other ms p q x 0 (λ e. not (stored-once (length k) j i p few (subst (IsStoredAt (length k) j) e t) s)) ∙ (r.at j q m t ∙ sym (get_or-set_other ws i j x 0 not))

-- the first word is stored first
pub stored-first : (n : ℕ) → IsStoredAt n 0 0
stored-first n = inl (omega arith, omega arith, omega arith)

-- where a word of the site's is stored
pub stored-site : (n at base : ℕ) → n ≤ MAX_TASKS → base ≡ lock_room n → IsStoredAt n (LOCK_WORDS + at) (base + at)
stored-site n at base few is = inr (inr (inr (inr (inr (omega arith, omega (arith, few, is))))))

-- a new table stores its words
pub stores-new : (k : Plan) → length k ≤ MAX_TASKS → Stores k (fresh k) (new_memory k)
stores-new k few = record { wide = length-fresh k; memory_wide = memory-length; at = at; rest = λ i l. inr (fresh-free k i l) }
  where
    room : ℕ
    room = lock_room (length k) + calls_at k

    behind : ℕ
    behind = LOCK_WORDS + calls_at k

    memory-length : length (new_memory k) ≡ memory_width k
    memory-length = let a = length-append (replicate {A = ℕ} room 0) (call_words k) in let b = length-replicate {A = ℕ} room 0 in let c = length-call_words k in omega (arith, a, b, c)

    zeros : (i p : ℕ) → i < behind → p < room → get_or (new_memory k) p 0 ≡ get_or (fresh k) i 0
    zeros i p l m = zero-in room p (call_words k) m ∙ sym (zero-in behind i (call_words k) l)

    word : (n j : ℕ) → get_or (replicate {A = ℕ} n 0 ++ call_words k) (n + j) 0 ≡ get_or (call_words k) j 0
    word n j = let e = length-replicate {A = ℕ} n 0 in ap (λ (z : ℕ). get_or (replicate {A = ℕ} n 0 ++ call_words k) (z + j) 0) (sym e) ∙ get_or-append-add (replicate {A = ℕ} n 0) (call_words k) j 0

    site : (i p : ℕ) → LOCK_WORDS ≤ i → p + 8 * left_out (length k) ≡ i → get_or (new_memory k) p 0 ≡ get_or (fresh k) i 0
    site i p l e = elim (dec_le behind i) [
      | yes m ↦ let j : ℕ = i - behind in let b : p ≡ room + j = omega (arith, few, e, m) in let c : i ≡ behind + j = omega (arith, m) in ap (λ (z : ℕ). get_or (new_memory k) z 0) b ∙ (word room j ∙ (sym (word behind j) ∙ ap (λ (z : ℕ). get_or (fresh k) z 0) (sym c)))
      | no not ↦ let m : i < behind = omega (arith, not) in zeros i p m (omega (arith, few, e, m))
    ]

    at : (i p : ℕ) → i < width k → IsStoredAt (length k) i p → get_or (new_memory k) p 0 ≡ get_or (fresh k) i 0
    at i p l s = by-part (length k) i p s
        (λ x. let b = x.1 in let c = x.2 in zeros i p (omega (arith, few, b)) (omega (arith, b, c)))
        (λ x. let b = x.1 in let c = x.2 in zeros i p (omega (arith, few, b)) (omega (arith, few, b, c)))
        (λ x. let b = x.1 in let c = x.2 in zeros i p (omega (arith, few, b)) (omega (arith, few, b, c)))
        (λ x. let b = x.1 in let c = x.2 in zeros i p (omega (arith, few, b)) (omega (arith, few, b, c)))
        (λ x. let b = x.1 in let c = x.2 in zeros i p (omega (arith, few, b)) (omega (arith, few, b, c)))
        (λ x. site i p x.0 x.1)

module _ {E : Type 0} (marks : E → List ℕ) (begun : Moment) (holds : List ℕ → List (View E) → Type 0) (moves : ℕ → List ℕ → List (View E) → List ℕ → List (View E) → Type 0) (k : Plan) where
  abbrev Rule : State (Unit {0}) (Seen E) → Type 0
  Rule s = Lived marks begun holds moves s.words s.views

  abbrev StoredRule : State (Unit {0}) (Seen E) → Type 0
  StoredRule s = LivedStored marks begun holds moves k s.words s.views

  -- a step that the rule allows on a word is allowed where the table stores the word
  pub allows-stored : (slots id i p : ℕ) (me : Me (Unit {0}) (Seen E)) (f : ℕ → ℕ) (tells : ℕ → Me (Unit {0}) (Seen E) → Type 0) → length k ≤ MAX_TASKS → i < width k → IsStoredAt (length k) i p → Allows Rule slots id me i f tells → Allows StoredRule slots id me p f tells
  allows-stored slots id i p me f tells few l there allows s r wide at small = let ws : List ℕ = r.0 in let e : get_or s.words p 0 ≡ get_or ws i 0 = r.1.at i p l there in
      let t = allows record { words = ws; homes = s.homes; views = s.views } r.2 wide at (subst (λ (z : ℕ). z < 18446744073709551616) e small) in
      (t.0, t.1, t.2, (set ws i (f (get_or ws i 0)), subst (λ (z : ℕ). Stores k (set ws i (f (get_or ws i 0))) (set s.words p (f z))) (sym e) (stores-set k ws s.words i p (f (get_or ws i 0)) few l there r.1), t.3), subst (λ (z : ℕ). tells z (t.0, carried_after me.1 t.1)) (sym e) t.4)

  -- so is one that the rule lets a pass make
  pub allows-at : (slots id i p : ℕ) (me : Me (Unit {0}) (Seen E)) (op : Op) (tells : ℕ → Me (Unit {0}) (View E) → Type 0) → length k ≤ MAX_TASKS → i < width k → IsStoredAt (length k) i p → Lets holds moves slots id (unseen me) i op tells → Allows StoredRule slots id me p (word_after op) (λ n m'. tells n (unseen m') × GoesOn me.0.past m'.0.past × IsOwnStep m'.0.view m'.0.past)
  allows-at slots id i p me op tells few l there lets = allows-stored slots id i p me (word_after op) (λ n m'. tells n (unseen m') × GoesOn me.0.past m'.0.past × IsOwnStep m'.0.view m'.0.past) few l there (allows marks begun holds moves slots id i me op tells lets)

  pub allows-found-at : (slots id i p : ℕ) (me : Me (Unit {0}) (Seen E)) (op : Op) (tells : ℕ → Me (Unit {0}) (View E) → Type 0) → length k ≤ MAX_TASKS → i < width k → IsStoredAt (length k) i p → Lets holds moves slots id (unseen me) i op tells → Allows StoredRule slots id me p (word_after op) (λ n m'. tells n (unseen m') × FoundAt i n m'.0.past × GoesOn me.0.past m'.0.past × IsOwnStep m'.0.view m'.0.past)
  allows-found-at slots id i p me op tells few l there lets = allows-stored slots id i p me (word_after op) (λ n m'. tells n (unseen m') × FoundAt i n m'.0.past × GoesOn me.0.past m'.0.past × IsOwnStep m'.0.view m'.0.past) few l there (allows-found marks begun holds moves slots id i me op tells lets)
