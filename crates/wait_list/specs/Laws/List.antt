-- Each kind of step keeps the list's own facts.
use Rattle.std.proofs.Common.{◌-◌, ◌≡◌, ◌≢◌, ℕ, ◌+◌, ◌*◌, ◌<◌, ◌≤◌, Bool, true, false, List, [], ◌∷◌, ◌++◌, length, map, get_or, set, sym, refl, ap, ◌∙◌, subst, arith, length-set}
use mathlib.Core.Option.{some, some-ne-none}
use lib.ListN.{get_elem?}
use Rattle.lock_core.specs.Records.{bit}
use Rattle.lock_core.specs.Views.{no_spin}
use Rattle.lock_core.specs.Spins.{SpinFrees, holds_in}
use Rattle.lock_core.specs.SpinFrames.{holds_at, holds_of}
use Rattle.wait_list.specs.declared.words.TheConstants.{LIST_WORDS}
use Rattle.lock_core.specs.Totals.{total, total-set, total-same, total-snoc, total-at, total-two}
use Rattle.lock_core.specs.ViewParts.{Each, each-set, each-snoc}
use Rattle.lock_core.proofs.HandLaws.{not-both, false-or-true}
use Rattle.wait_list.specs.Lists.{Allowed, ListMoves, MadeBy, changed, Part, Knows, PartOk, ListKept, Lists, IsList, IsNear, changes_of, takes_of, no_list}
use Rattle.wait_list.specs.Types.{SpinHand, Frame, Point, Out, Undoing, Pending, Taking, Trying, Clearing, Cleared, Linking, Waiting, Head, Ready, Passing, Holding, Waiter, ListHand}
use Rattle.wait_list.specs.Types.{Change, Stay, Enter, Leave}

holds-small : (p : Point) → holds_at p ≤ 1
holds-small Out = omega arith
holds-small Undoing = omega arith
holds-small Pending = omega arith
holds-small Taking = omega arith
holds-small Trying = omega arith
holds-small Clearing = omega arith
holds-small Cleared = omega arith
holds-small Linking = omega arith
holds-small Waiting = omega arith
holds-small Head = omega arith
holds-small Ready = omega arith
holds-small Passing = omega arith
holds-small Holding = omega arith

-- a pass has the spin lock or not
pub holds-or-not : (s : SpinHand) {P : Type 0} → (holds_in s ≡ 1 → P) → (holds_in s ≡ 0 → P) → P
holds-or-not s has out = let few = holds-small s.frame.point in elim (native.Mathlib.Decide.dec_le 1 (holds_in s)) [
  | yes l ↦ has (omega (arith, l, few))
  | no none ↦ out (omega (arith, none))
]

-- beside one that has the spin lock nobody has it
beside : (ps : List Part) (id j : ℕ) (p q : Part) → total takes_of ps ≤ 1 → get_elem? ps id ≡ some p → get_elem? ps j ≡ some q → j ≢ id → holds_in p.0 ≡ 1 → holds_in q.0 ≡ 1 → ⊥
beside ps id j p q one at at' other has has' = let t = total-two takes_of ps id j p q at at' (λ e. other (sym e)) in let a : takes_of p ≡ 1 = has in let b : takes_of q ≡ 1 = has' in omega arith

-- what an empty part of a part's facts says, whatever words and list are
others-ok : (words words' : List ℕ) (l l' : List Waiter) (q : Part) → (holds_in q.0 ≡ 1 → ⊥) → PartOk words l q → PartOk words' l' q
others-ok words words' l l' q out ok = record { past = ok.past; knows = λ k. absurd (out k.0); changes = λ c. absurd (out ((ok.changes c).0.0)) }

quiet-one : (p : Part) → (holds_in p.0 ≡ 1 → ⊥) → (p.1.changes ≡ true → holds_in p.0 ≡ 1) → p.1.changes ≡ false
quiet-one p out holds = false-or-true p.1.changes (λ t. absurd (out (holds t))) (λ f. f)

-- nobody but the one with the spin lock changes the words
none-changes : (ps : List Part) (words : List ℕ) (l : List Waiter) → Each (PartOk words l) ps → total changes_of ps ≤ total takes_of ps
none-changes [] words l each = omega arith
none-changes (p ∷ ps) words l each = let ok = each 0 p refl in let r = none-changes ps words l (λ j q at. each (Rattle.std.proofs.Common.suc j) q at) in
    let here : changes_of p ≤ takes_of p = false-or-true p.1.changes (λ t. let a : changes_of p ≡ 1 = ap bit t in let b : takes_of p ≡ 1 = (ok.changes t).0.0 in omega (arith, a, b))
    (λ f. let a : changes_of p ≡ 0 = ap bit f in omega (arith, a)) in omega (arith, here, r)

-- a pass that has nothing to do with the list
no-part : (words : List ℕ) (l : List Waiter) → PartOk words l (no_spin, no_list)
no-part words l = record { past = omega arith; knows = λ k. let h = k.0 in absurd (omega (arith, h)); changes = λ t. not-both false refl t }

module _ (words : List ℕ) (l : List Waiter) (ps : List Part) (id : ℕ) (p : Part) (r : ListKept words l ps) (at : get_elem? ps id ≡ some p) where
  -- a pass with the spin lock learns the list
  pub list-learns : total takes_of ps ≤ 1 → holds_in p.0 ≡ 1 → p.1.changes ≡ false
      → ListKept words l (set ps id (p.0, record { list = l; words = words; since = p.0.entries; changes = false; leaver = 0 }))
  list-learns one has still = let q : Part = (p.0, record { list = l; words = words; since = p.0.entries; changes = false; leaver = 0 }) in record {
    wide = r.wide;
    sound = r.sound;
    quiet = λ none. r.quiet (sym (total-same changes_of ps id p q at (ap bit (sym still))) ∙ none);
    each = each-set (PartOk words l) (PartOk words l) ps id q record { past = omega arith; knows = λ _. (refl, refl); changes = λ c. not-both false refl c } (λ j v _ _ ok. ok) r.each;
  }

  -- where the one with the spin lock doesn't change the words, nobody does
  pub none-change : total takes_of ps ≤ 1 → holds_in p.0 ≡ 1 → p.1.changes ≡ false → total changes_of ps ≡ 0
  none-change one has still = go ps id at r.each one
    where
      go : (qs : List Part) (i : ℕ) → get_elem? qs i ≡ some p → Each (PartOk words l) qs → total takes_of qs ≤ 1 → total changes_of qs ≡ 0
      go [] i there each less = absurd (some-ne-none p (sym there))
      go (q ∷ qs) Rattle.std.proofs.Common.zero there each less = let e = mathlib.Core.Option.some-injective q p there in let a : changes_of q ≡ 0 = ap changes_of e ∙ ap bit still in
          let b : takes_of q ≡ 1 = ap takes_of e ∙ has in
          let c = none-changes qs words l (λ j x y. each (Rattle.std.proofs.Common.suc j) x y) in omega arith
      go (q ∷ qs) (Rattle.std.proofs.Common.suc i) there each less = let t = total-at takes_of qs i p there in let a : takes_of p ≡ 1 = has in let ok = each 0 q refl in
          let c : changes_of q ≤ takes_of q = false-or-true q.1.changes (λ t. let a : changes_of q ≡ 1 = ap bit t in let b : takes_of q ≡ 1 = (ok.changes t).0.0 in omega (arith, a, b))
          (λ f. let a : changes_of q ≡ 0 = ap bit f in omega (arith, a)) in
          let d = go qs i there (λ j x y. each (Rattle.std.proofs.Common.suc j) x y) (omega arith) in omega arith

  -- it knows the words that it has learnt, and that they are the list's unless it changes them
  pub list-known : total takes_of ps ≤ 1 → Knows p → (p.1.list ≡ l) × (p.1.words ≡ words) × (p.1.changes ≡ false → Lists words l)
  list-known one knows = let k = (r.each id p at).knows knows in (
    k.0,
    k.1,
    λ still. r.quiet (none-change one knows.0 still),
  )

  -- it stores a word, and the list may change at once
  pub list-stores : (i n : ℕ) (l' : List Waiter) (b : ListHand) → total takes_of ps ≤ 1 → Knows p → IsList l' → b.since ≡ p.1.since → b.list ≡ l' → b.words ≡ set p.1.words i n
      → (b.changes ≡ true → IsNear (set p.1.words i n) l' b.leaver) → (b.changes ≡ false → Lists (set p.1.words i n) l') → ListKept (set words i n) l' (set ps id (p.0, b))
  list-stores i n l' b one knows sound since list stored near done = let q : Part = (p.0, b) in let k = (r.each id p at).knows knows in
      let same : set p.1.words i n ≡ set words i n = ap (λ (z : List ℕ). set z i n) k.1 in record {
        wide = length-set words i n ∙ r.wide;
        sound = sound;
        quiet = λ none. subst (λ (z : List ℕ). Lists z l') same (done (false-or-true b.changes
            (λ t. let a : changes_of q ≡ 1 = ap bit t in let c = total-set changes_of ps id p q at in let d = total-at changes_of ps id p at in absurd (omega arith)) (λ f. f)));
        each = each-set (PartOk words l) (PartOk (set words i n) l') ps id q
            record {
              past = (let a = (r.each id p at).past in omega (arith, a, since));
              knows = λ _. (list, stored ∙ same);
              changes =
                  λ t. ((knows.0, since ∙ knows.1), subst (λ (z : List ℕ). IsNear z l' b.leaver) same (near t));
            }
            (λ j v other at' ok. others-ok words (set words i n) l l' v (λ has. beside ps id j p v one at at' other knows.0 has) ok) r.each;
      }

  -- the spin lock is taken or released
  pub list-spins : (s : SpinHand) → s.entries ≡ p.0.entries + (holds_in s - holds_in p.0) → (SpinFrees 0 p.0 s → p.1.changes ≡ false) → ListKept words l (set ps id (s, p.1))
  list-spins s goes may = let q : Part = (s, p.1) in let ok = r.each id p at in let before = ok.past in
      let back : Knows q → Knows p = λ k. let has' = k.0 in let since = k.1 in
      holds-or-not p.0 (λ has. (has, omega (arith, has', since, has, goes))) (λ out. absurd (omega (arith, has', since, out, goes, before))) in record {
        wide = r.wide;
        sound = r.sound;
        quiet = λ none. r.quiet (sym (total-same changes_of ps id p q at refl) ∙ none);
        each = each-set (PartOk words l) (PartOk words l) ps id q record {
          past = omega (arith, before, goes);
          knows = λ k. ok.knows (back k);
          changes = λ t. let c = ok.changes t in let has = c.0.0 in let since = c.0.1 in
              holds-or-not s (λ has'. ((has', omega (arith, has, has', since, goes)), c.1)) (λ out. not-both p.1.changes (may (has, out)) t);
        } (λ j v _ _ ok. ok) r.each;
      }

  -- a pass without the spin lock may be spent
  pub list-leaves : holds_in p.0 ≡ 0 → ListKept words l (set ps id (no_spin, no_list))
  list-leaves out = let q : Part = (no_spin, no_list) in let still = quiet-one p (λ has. omega (arith, out, has)) (λ t. ((r.each id p at).changes t).0.0) in record {
    wide = r.wide;
    sound = r.sound;
    quiet = λ none. r.quiet (sym (total-same changes_of ps id p q at (ap bit (sym still))) ∙ none);
    each = each-set (PartOk words l) (PartOk words l) ps id q (no-part words l) (λ j v _ _ ok. ok) r.each;
  }

  -- it learns something else, or gets or gives back a number
  pub list-keeps : (s : SpinHand) → s.entries ≡ p.0.entries → s.frame ≡ p.0.frame → ListKept words l (set ps id (s, p.1))
  list-keeps s entries frame = let hold : holds_in s ≡ holds_in p.0 = ap (λ (f : Frame). holds_of f) frame in
      list-spins s (omega (arith, entries, hold)) (λ f. let a = f.0 in let b = f.1 in absurd (omega (arith, a, b, hold)))

pub list-strangers : (words : List ℕ) (l : List Waiter) (ps : List Part) → ListKept words l ps → ListKept words l (ps ++ (no_spin, no_list) ∷ [])
list-strangers words l ps r = let q : Part = (no_spin, no_list) in record {
  wide = r.wide;
  sound = r.sound;
  quiet = λ none. r.quiet (let t = total-snoc changes_of ps q in omega (arith, t, none));
  each = each-snoc (PartOk words l) ps q (no-part words l) r.each;
}

pub list-opens : (words : List ℕ) → length words ≡ LIST_WORDS → ((i : ℕ) → i < LIST_WORDS → get_or words i 0 ≡ 0) → ListKept words [] ((no_spin, no_list) ∷ [])
list-opens words wide zeros = record {
  wide = wide;
  sound = record { small = tt; once = λ t. omega arith };
  quiet = λ _. record { walk = zeros 0 (omega arith); tail = zeros 1 (omega arith); codes = λ c few. let z = zeros (8 * c) (omega (arith, few)) in omega (arith, z) };
  each = each-snoc (PartOk words []) [] (no_spin, no_list) (no-part words []) (λ j v e. absurd (some-ne-none v (sym e)));
}

module _ (id : ℕ) (words : List ℕ) (ps : List Part) where
  -- a step that leaves the list
  pub list-stays : (l : List Waiter) (words' : List ℕ) (ps' : List Part) → ListKept words l ps → ListKept words' l ps' → ListMoves id words ps words' ps'
  list-stays l words' ps' old new = record { list = l; list' = l; old = old; new = new; change = Stay; allowed = tt; made = tt; is = refl }

  -- a step of a pass with the spin lock
  pub list-changes : (l : List Waiter) (p : Part) (c : Change) (words' : List ℕ) (ps' : List Part) → get_elem? ps id ≡ some p → holds_in p.0 ≡ 1 → Allowed c l → ListKept words l ps
      → ListKept words' (changed c l) ps' → ListMoves id words ps words' ps'
  list-changes l p c words' ps' at has may old new = record { list = l; list' = changed c l; old = old; new = new; change = c; allowed = may; made = made c; is = refl }
    where
      made : (c : Change) → MadeBy c id ps
      made Stay = tt
      made (Enter w) = (p, at, has)
      made (Leave t) = (p, at, has)
