-- The laws of the rule of a table with an owner word alone.
use Rattle.std.proofs.Common.{◌≡◌, ◌≢◌, ℕ, ◌+◌, ◌<◌, ◌⊎◌, inl, inr, List, [], ◌∷◌, ◌++◌, length, map, get_or, set, None, sym, refl, ap, ◌∙◌, subst, arith, length-set, get_or-set_same}
use Rattle.std.proofs.Common.{get_or-set_other}
use Rattle.std.proofs.lemmas.List.{drop-set-lt}
use mathlib.Core.Option.{some}
use lib.ListN.{get_elem?}
use Rattle.atomic_table.proofs.Lists.{at_map, set_else}
use Rattle.word_bits.specs.LockWords.{owned}
use Rattle.word_bits.specs.Objects.{Obj}
use Rattle.word_bits.specs.Histories.{Plan}
use Rattle.lock_core.specs.declared.layout.TheConstants.{LOCK_WORDS}
use Rattle.lock_core.specs.Layout.{SiteWords, fresh, site, lay, width}
use Rattle.lock_core.specs.Stores.{HasWord}
use Rattle.lock_core.specs.Views.{hand_of, handed, seated, ticked, first, split_off, merged, spent, stranger}
use Rattle.lock_core.specs.Sites.{HandGoes, SiteKept}
use Rattle.lock_core.specs.Moves.{Goes, KeepsHold, SiteMove, TriesWhere}
use Rattle.lock_core.specs.Laws.Move.{set-moves, hold-moved, tries-go}
use Rattle.lock_core.specs.ViewParts.{keep_part, set_part, snoc_part}
use Rattle.lock_core.proofs.Stating.{kept-states}
use Rattle.mutex_word.specs.Holders.{OwnKept}
use Rattle.mutex_word.specs.Laws.Own.{Named, own-stays, own-strangers, own-opens, own-states}
use Rattle.mutex_word.specs.OwnerRuled.{V, IsPlain, IsOwnerSite, OwnerKept, OwnerMoves, owner_at}
use Rattle.mutex_word.specs.Types.{Hand, SpinHand, No}

abbrev Rests : V → Type 0
Rests v = Unit {0}

pub own-inside : owner_at < LOCK_WORDS
own-inside = omega arith

pub own-there : (n : ℕ) → HasWord n owner_at
own-there n = record {
  spin = λ _. omega arith;
  first = λ m. absurd (omega (arith, m));
  second = λ m. absurd (omega (arith, m));
  third = λ m. absurd (omega (arith, m));
  fourth =
      λ m. absurd (omega (arith, m));
}

module _ {Call : Type 0} (o : Obj Call) (size : ℕ) where
  abbrev Kept : Plan → List ℕ → List V → Type 0
  Kept = OwnerKept o size

  abbrev Site : Plan → List ℕ → List Hand → Type 0
  Site k ws hs = SiteKept o owned size k (site k ws) hs

  pub owner-site : (k : Plan) (ws : List ℕ) (vs : List V) → Kept k ws vs → Site k ws (map hand_of vs)
  owner-site k ws vs r = r.site_holds

  pub owner-own : (k : Plan) (ws : List ℕ) (vs : List V) → Kept k ws vs → OwnKept (get_or ws owner_at 0) (map hand_of vs) × IsPlain (get_or ws owner_at 0)
  owner-own k ws vs r = (r.own, r.plain)

  pub named : (k : Plan) (ws : List ℕ) (hs : List Hand) → Site k ws hs → Named hs
  named k ws hs r j h at out = ((r.each j h at).nameless out).0

  pub owner-sites : (k : Plan) (ws : List ℕ) (vs : List V) (id i n : ℕ) (v : V) (h : Hand) (s : SpinHand) → Kept k ws vs → get_elem? vs id ≡ some v → KeepsHold Rests v h
      → Site k (set ws (LOCK_WORDS + i) n) (set (map hand_of vs) id h)
      → Kept k (set ws (LOCK_WORDS + i) n) (set vs id (seated v h s))
  owner-sites k ws vs id i n v h s r at same there = let w : V = seated v h s in let hs : List Hand = map hand_of vs in let mine = at_map hand_of vs id v at in
      let word : get_or (set ws (LOCK_WORDS + i) n) owner_at 0 ≡ get_or ws owner_at 0 = get_or-set_other ws (LOCK_WORDS + i) owner_at n 0 (λ e. omega arith) in
      let task : (h.task ≡ v.hand.task) ⊎ (v.hand.held ≡ No) = elim same.1 [ inl e ↦ inl e | inr u ↦ elim u [ inl out ↦ inr (named k ws hs r.site_holds id v.hand mine out) | inr q ↦ inr q.0.0 ] ] in
      record {
        wide = length-set ws (LOCK_WORDS + i) n ∙ r.wide;
        site_holds = set_part hand_of (Site k (set ws (LOCK_WORDS + i) n)) vs id w there;
        own = subst (λ (z : ℕ). OwnKept z (map hand_of (set vs id w))) (sym word)
            (set_part hand_of (OwnKept (get_or ws owner_at 0)) vs id w (own-stays hs id (get_or ws owner_at 0) v.hand h r.own mine same.0 task));
        plain = subst IsPlain (sym word) r.plain;
      }

  pub owner-opens : (k : Plan) → length (fresh k) ≡ width k → ((i : ℕ) → i < LOCK_WORDS → get_or (fresh k) i 0 ≡ 0) → Site k (fresh k) (map hand_of (first {E = Unit {0}} k tt ∷ []))
      → Kept k (fresh k) (first k tt ∷ [])
  owner-opens k wide zeros there = let free = zeros owner_at (omega arith) in let v : V = first k tt in record {
    wide = wide;
    site_holds = there;
    own = subst (λ (z : ℕ). OwnKept z (v.hand ∷ [])) (sym free) (own-opens v.hand.plan v.hand.seen);
    plain = subst IsPlain (sym free) refl;
  }

  pub owner-splits : (k : Plan) (ws : List ℕ) (vs : List V) (id : ℕ) (v : V) → Kept k ws vs → get_elem? vs id ≡ some v → Site k ws (map hand_of (set vs id (ticked v) ++ split_off tt v ∷ []))
      → Kept k ws (set vs id (ticked v) ++ split_off tt v ∷ [])
  owner-splits k ws vs id v r at there = let us : List V = set vs id (ticked v) in record {
    wide = r.wide;
    site_holds = there;
    own = snoc_part hand_of (OwnKept (get_or ws owner_at 0)) us (split_off tt v)
        (own-strangers (map hand_of us) (get_or ws owner_at 0) v.hand.plan v.hand.seen (keep_part hand_of (OwnKept (get_or ws owner_at 0)) vs id v (ticked v) at refl r.own));
    plain = r.plain;
  }

  pub owner-joins : (k : Plan) (ws : List ℕ) (vs : List V) (id other : ℕ) (v w : V) → Kept k ws vs → get_elem? vs id ≡ some v → other ≢ id → get_elem? vs other ≡ some w → w.hand.held ≡ No
      → Site k ws (map hand_of (set (set vs id (merged v w)) other (spent tt))) → Kept k ws (set (set vs id (merged v w)) other (spent tt))
  owner-joins k ws vs id other v w r at apart at' free there = let u : V = merged v w in let us : List V = set vs id u in let word : ℕ = get_or ws owner_at 0 in
      let own : OwnKept word (map hand_of us) = set_part hand_of (OwnKept word) vs id u (own-stays (map hand_of vs) id word v.hand u.hand r.own (at_map hand_of vs id v at) refl (inl refl)) in record {
        wide = r.wide;
        site_holds = there;
        own = set_part hand_of (OwnKept word) us other (spent tt) (own-stays (map hand_of us) other word w.hand (stranger None []) own (at_map hand_of us other w (set_else vs id other u apart ∙ at'))
            (sym free) (inr free));
        plain = r.plain;
      }

  -- a step on the owner word leaves the site's words
  pub owner-owns : (k : Plan) (ws : List ℕ) (vs : List V) (id n : ℕ) (v : V) (h : Hand) → Kept k ws vs → get_elem? vs id ≡ some v → HandGoes v.hand h → TriesWhere Rests (get_or ws owner_at 0) v h
      → IsPlain n → OwnKept n (set (map hand_of vs) id h) → Site k ws (set (map hand_of vs) id h)
      → Goes (Kept k) (OwnerMoves k) id ws vs (set ws owner_at n) (set vs id (handed v h))
  owner-owns k ws vs id n v h r at goes tries may own there = let w : V = handed v h in let wide = r.wide in
      let same : site k (set ws owner_at n) ≡ site k ws = ap (lay k) (drop-set-lt LOCK_WORDS ws owner_at n (omega arith)) in
      let word : get_or (set ws owner_at n) owner_at 0 ≡ n = get_or-set_same ws owner_at n 0 (omega (arith, wide)) in (
        record {
          wide = length-set ws owner_at n ∙ wide;
          site_holds = subst (λ (z : SiteWords). SiteKept o owned size k z (map hand_of (set vs id w))) (sym same) (set_part hand_of (Site k ws) vs id w there);
          own = subst (λ (z : ℕ). OwnKept z (map hand_of (set vs id w))) (sym word) (set_part hand_of (OwnKept n) vs id w own);
          plain = subst IsPlain (sym word) may;
        },
        subst (λ (z : SiteWords). SiteMove id (get_or ws owner_at 0) (site k ws) vs z (set vs id w)) (sym same)
            (set-moves id (site k ws) (site k ws) vs v w at (hold-moved (site k ws) v h tt goes (tries-go Rests v h tries))),
      )

  pub owner-looks : (k : Plan) (ws : List ℕ) (vs : List V) (id : ℕ) (v : V) (h : Hand) → Kept k ws vs → get_elem? vs id ≡ some v → h.task ≡ v.hand.task → h.held ≡ v.hand.held → HandGoes v.hand h
      → TriesWhere Rests (get_or ws owner_at 0) v h → Site k ws (set (map hand_of vs) id h) → Goes (Kept k) (OwnerMoves k) id ws vs ws (set vs id (handed v h))
  owner-looks k ws vs id v h r at task held goes tries there = let w : V = handed v h in (
    record {
      wide = r.wide;
      site_holds = set_part hand_of (Site k ws) vs id w there;
      own = set_part hand_of (OwnKept (get_or ws owner_at 0)) vs id w (own-stays (map hand_of vs) id (get_or ws owner_at 0) v.hand h r.own (at_map hand_of vs id v at) held (inl task));
      plain = r.plain;
    },
    set-moves id (site k ws) (site k ws) vs v w at (hold-moved (site k ws) v h tt goes (tries-go Rests v h tries)),
  )

  pub owner-states : (k : Plan) (ws : List ℕ) (vs : List V) → Kept k ws vs → IsOwnerSite o size k ws (map hand_of vs)
  owner-states k ws vs r = record {
    is_site = kept-states o owned size k (site k ws) (map hand_of vs) r.site_holds;
    owner = own-states (map hand_of vs) (get_or ws owner_at 0) r.own (named k ws (map hand_of vs) r.site_holds) r.plain;
  }
