-- The laws of the rule of a table with a sequence word.
use Rattle.std.proofs.Common.{◌≡◌, ◌≢◌, ℕ, ◌+◌, ◌%◌, ◌<◌, ◌⊎◌, inl, inr, true, List, [], ◌∷◌, ◌++◌, length, map, take, get_or, set, None, sym, refl, ap, ◌∙◌, subst, arith, length-set}
use Rattle.std.proofs.Common.{get_or-set_other}
use mathlib.Core.Option.{some, some-injective, some-ne-none}
use mathlib.Core.List.{map-append}
use lib.ListN.{get_elem?}
use lib.Seq.{map-set}
use Rattle.atomic_table.proofs.Lists.{at_map, set_else}
use Rattle.word_bits.specs.Objects.{Obj}
use Rattle.word_bits.specs.Histories.{Plan}
use Rattle.lock_core.specs.declared.layout.TheConstants.{LOCK_WORDS}
use Rattle.lock_core.specs.Layout.{SiteWords, fresh, site, width}
use Rattle.lock_core.specs.Views.{hand_of, alone_of, held_weight, alone_weight, seated, ticked, first, split_off, merged, spent, HoldsNothing}
use Rattle.lock_core.specs.Sites.{HandGoes, KeepsSaw, SameObject, SiteKept}
use Rattle.lock_core.specs.Moves.{Goes, KeepsHold, SiteMoveWhere}
use Rattle.lock_core.specs.Laws.Move.{set-moves, hold-moved}
use Rattle.lock_core.specs.ViewParts.{Each, each-set, each-snoc, set_part}
use Rattle.lock_core.specs.Totals.{total, total-set, total-snoc, total-at}
use Rattle.seq_fault.specs.Watches.{WatchOk}
use Rattle.seq_fault.specs.SeqRuled.{V, SeqKept, SeqMoves, SeqStep, never, seq_at}
use Rattle.seq_fault.specs.Types.{Hand, No, Shared, Alone, SpinHand, Watch, Off, On}

abbrev hands : List V → List Hand
hands vs = map hand_of vs

pub no-shared : {P : Type 0} → No ≡ Shared → P
no-shared e = let w : held_weight No ≡ held_weight Shared = ap held_weight e in absurd (omega (arith, w))

-- the sum over the hands after a step of one pass
pub alone-set : (vs : List V) (id : ℕ) (v u : V) → get_elem? vs id ≡ some v → total alone_of (hands (set vs id u)) + alone_of v.hand ≡ total alone_of (hands vs) + alone_of u.hand
alone-set vs id v u at = subst (λ (z : List Hand). total alone_of z + alone_of v.hand ≡ total alone_of (hands vs) + alone_of u.hand) (sym (map-set hand_of vs id u))
    (total-set alone_of (hands vs) id v.hand u.hand (at_map hand_of vs id v at))

module _ {Call : Type 0} (o : Obj Call) (size : ℕ) where
  abbrev Kept : Plan → List ℕ → List V → Type 0
  Kept = SeqKept o size

  abbrev Site : Plan → List ℕ → List Hand → Type 0
  Site k ws hs = SiteKept o never size k (site k ws) hs

  pub rule-site : (k : Plan) (ws : List ℕ) (vs : List V) → Kept k ws vs → Site k ws (hands vs)
  rule-site k ws vs r = r.site_holds

  -- the guarded words and the log stay, and so does the sequence word
  pub watch-stays : (k : Plan) (word : ℕ) (w w' : SiteWords) (x : Watch) → (word % 2 ≡ 0 → SameObject w w') → WatchOk o size k word w x → WatchOk o size k word w' x
  watch-stays k word w w' Off same ok = tt
  watch-stays k word w w' (On g) same ok = record {
    even = ok.even;
    past = ok.past;
    stale = ok.stale;
    same = λ is. let even = ok.even in let s = same (omega (arith, even, is)) in let t = ok.same is in record {
      guarded = ap (take size) s.guarded ∙ t.guarded;
      len = s.len ∙ t.len;
      entries = (λ i. take (s.len i) (s.entries i)) ∙ t.entries;
    };
    stored = ok.stored;
    within = ok.within;
    fits = ok.fits;
  }

  -- the sequence word rises
  pub watch-rises : (k : Plan) (word word' : ℕ) (w : SiteWords) (x : Watch) → word < word' → WatchOk o size k word w x → WatchOk o size k word' w x
  watch-rises k word word' w Off more ok = tt
  watch-rises k word word' w (On g) more ok = let past = ok.past in record {
    even = ok.even;
    past = omega (arith, past, more);
    stale = λ _. omega (arith, past, more);
    same = λ is. absurd (omega (arith, past, more, is));
    stored = ok.stored;
    within = ok.within;
    fits = ok.fits;
  }

  -- where the sequence word is even, nobody holds alone
  pub none-alone : (k : Plan) (ws : List ℕ) (vs : List V) (id : ℕ) (v : V) → Kept k ws vs → get_elem? vs id ≡ some v → get_or ws seq_at 0 % 2 ≡ 0 → v.hand.held ≢ Alone
  none-alone k ws vs id v r at even alone = let p = r.parity in let l = total-at alone_of (hands vs) id v.hand (at_map hand_of vs id v at) in let e : alone_of v.hand ≡ 1 = ap alone_weight alone in
      omega (arith, p, l, e, even)

  pub rule-sites : (k : Plan) (ws : List ℕ) (vs : List V) (id i n : ℕ) (v : V) (h : Hand) (s : SpinHand) → Kept k ws vs → get_elem? vs id ≡ some v → KeepsHold (λ v. Unit {0}) v h
      → Site k (set ws (LOCK_WORDS + i) n) (set (hands vs) id h)
      → SiteMoveWhere true id (get_or ws seq_at 0) (site k ws) vs (site k (set ws (LOCK_WORDS + i) n)) (set vs id (seated v h s))
      → Goes (Kept k) (SeqMoves k) id ws vs (set ws (LOCK_WORDS + i) n) (set vs id (seated v h s))
  rule-sites k ws vs id i n v h s r at same there step = let u : V = seated v h s in let us : List ℕ = set ws (LOCK_WORDS + i) n in
      let word : get_or us seq_at 0 ≡ get_or ws seq_at 0 = get_or-set_other ws (LOCK_WORDS + i) seq_at n 0 (λ e. omega (arith, e)) in
      let weight : alone_of h ≡ alone_of v.hand = ap alone_weight same.0 in let sums : total alone_of (hands (set vs id u)) ≡ total alone_of (hands vs) = (let a = alone-set vs id v u at in
      omega (arith, a, weight)) in let mine : step.before ≡ v = some-injective step.before v (sym step.at ∙ at) in
      let stays : get_or ws seq_at 0 % 2 ≡ 0 → SameObject (site k ws) (site k us) =
      (λ even. step.moved.site.quiet (λ alone. none-alone k ws vs id v r at even (sym (ap (λ (z : V). z.hand.held) mine) ∙ alone))) in (
        record {
          wide = length-set ws (LOCK_WORDS + i) n ∙ r.wide;
          site_holds = set_part hand_of (Site k us) vs id u there;
          parity = ap (λ (z : ℕ). z % 2) word ∙ (r.parity ∙ sym sums);
          few = let f = r.few in omega (arith, f, word);
          apart = each-set (λ v. v.hand.held ≢ Shared) (λ v. v.hand.held ≢ Shared) vs id u (λ e. r.apart id v at (sym same.0 ∙ e)) (λ j x _ _ p. p) r.apart;
          watches = subst (λ (z : ℕ). Each (λ v. WatchOk o size k z (site k us) v.ext) (set vs id u)) (sym word)
              (each-set (λ v. WatchOk o size k (get_or ws seq_at 0) (site k ws) v.ext)
              (λ v. WatchOk o size k (get_or ws seq_at 0) (site k us) v.ext) vs id u (watch-stays k (get_or ws seq_at 0) (site k ws) (site k us) v.ext stays (r.watches id v at))
              (λ j x _ _ p. watch-stays k (get_or ws seq_at 0) (site k ws) (site k us) x.ext stays p) r.watches);
        },
        (step, inl (word, sums)),
      )

  pub rule-opens : (k : Plan) → length (fresh k) ≡ width k → ((i : ℕ) → i < LOCK_WORDS → get_or (fresh k) i 0 ≡ 0) → Site k (fresh k) (hands (first {E = Watch} k Off ∷ []))
      → Kept k (fresh k) (first k Off ∷ [])
  rule-opens k wide zeros there = let z = zeros seq_at (omega arith) in let v : V = first k Off in record {
    wide = wide;
    site_holds = there;
    parity = omega (arith, z);
    few = omega (arith, z);
    apart = each-snoc (λ v. v.hand.held ≢ Shared) [] v (λ e. no-shared e) (λ j w e. absurd (some-ne-none w (sym e)));
    watches = each-snoc (λ v. WatchOk o size k (get_or (fresh k) seq_at 0) (site k (fresh k)) v.ext) [] v tt (λ j w e. absurd (some-ne-none w (sym e)));
  }

  pub rule-splits : (k : Plan) (ws : List ℕ) (vs : List V) (id : ℕ) (v : V) → Kept k ws vs → get_elem? vs id ≡ some v → Site k ws (hands (set vs id (ticked v) ++ split_off Off v ∷ []))
      → SiteMoveWhere true id (get_or ws seq_at 0) (site k ws) vs (site k ws) (set vs id (ticked v) ++ split_off Off v ∷ [])
      → Goes (Kept k) (SeqMoves k) id ws vs ws (set vs id (ticked v) ++ split_off Off v ∷ [])
  rule-splits k ws vs id v r at there step = let us : List V = set vs id (ticked v) in let w : V = split_off Off v in let a = alone-set vs id v (ticked v) at in
      let sums : total alone_of (hands (us ++ w ∷ [])) ≡ total alone_of (hands vs) = ap (total alone_of) (map-append hand_of us (w ∷ [])) ∙ (let b = total-snoc alone_of (hands us) w.hand in
      omega (arith, a, b)) in (
        record {
          wide = r.wide;
          site_holds = there;
          parity = r.parity ∙ sym sums;
          few = r.few;
          apart = each-snoc (λ v. v.hand.held ≢ Shared) us w (λ e. no-shared e)
              (each-set (λ v. v.hand.held ≢ Shared) (λ v. v.hand.held ≢ Shared) vs id (ticked v) (r.apart id v at) (λ j x _ _ p. p) r.apart);
          watches = each-snoc (λ v. WatchOk o size k (get_or ws seq_at 0) (site k ws) v.ext) us w tt
              (each-set (λ v. WatchOk o size k (get_or ws seq_at 0) (site k ws) v.ext) (λ v. WatchOk o size k (get_or ws seq_at 0) (site k ws) v.ext) vs id (ticked v) (r.watches id v at)
              (λ j x _ _ p. p) r.watches);
        },
        (step, inl (refl, sums)),
      )

  pub rule-joins : (k : Plan) (ws : List ℕ) (vs : List V) (id other : ℕ) (v w : V) → Kept k ws vs → get_elem? vs id ≡ some v → other ≢ id → get_elem? vs other ≡ some w → HoldsNothing w × Unit {0}
      × (w.hand.task ≡ None)
      → Site k ws (hands (set (set vs id (merged v w)) other (spent Off))) → SiteMoveWhere true id (get_or ws seq_at 0) (site k ws) vs (site k ws) (set (set vs id (merged v w)) other (spent Off))
      → Goes (Kept k) (SeqMoves k) id ws vs ws (set (set vs id (merged v w)) other (spent Off))
  rule-joins k ws vs id other v w r at apart at' free there step = let u : V = merged v w in let us : List V = set vs id u in let z : V = spent Off in
      let there' : get_elem? us other ≡ some w = set_else vs id other u apart ∙ at' in let a = alone-set vs id v u at in let b = alone-set us other w z there' in
      let c : alone_of w.hand ≡ 0 = ap alone_weight free.0.0 in
      let sums : total alone_of (hands (set us other z)) ≡ total alone_of (hands vs) = omega (arith, a, b, c) in (
        record {
          wide = r.wide;
          site_holds = there;
          parity = r.parity ∙ sym sums;
          few = r.few;
          apart = each-set (λ v. v.hand.held ≢ Shared) (λ v. v.hand.held ≢ Shared) us other z (λ e. no-shared e)
              (λ j x _ _ p. p) (each-set (λ v. v.hand.held ≢ Shared) (λ v. v.hand.held ≢ Shared) vs id u (r.apart id v at) (λ j x _ _ p. p) r.apart);
          watches = each-set (λ v. WatchOk o size k (get_or ws seq_at 0) (site k ws) v.ext) (λ v. WatchOk o size k (get_or ws seq_at 0) (site k ws) v.ext) us other z tt
              (λ j x _ _ p. p) (each-set (λ v. WatchOk o size k (get_or ws seq_at 0) (site k ws) v.ext) (λ v. WatchOk o size k (get_or ws seq_at 0) (site k ws) v.ext) vs id u (r.watches id v at)
              (λ j x _ _ p. p) r.watches);
        },
        (step, inl (refl, sums)),
      )

  -- a step on the sequence word, or a load, leaves the site's words
  pub rule-goes : (k : Plan) (ws us : List ℕ) (vs : List V) (id : ℕ) (v : V) (h : Hand) (e : Watch) → Kept k ws vs → get_elem? vs id ≡ some v → length us ≡ length ws → site k us ≡ site k ws
      → HandGoes v.hand h → KeepsSaw v.hand h → Site k ws (set (hands vs) id h)
      → h.held ≢ Shared → get_or us seq_at 0 % 2 + alone_of v.hand ≡ total alone_of (hands vs) + alone_of h → get_or us seq_at 0 < 18446744073709551615
      → ((get_or us seq_at 0 ≡ get_or ws seq_at 0) × (alone_of h ≡ alone_of v.hand)) ⊎ (get_or us seq_at 0 ≡ get_or ws seq_at 0 + 1) → WatchOk o size k (get_or us seq_at 0) (site k ws) e
      → Goes (Kept k) (SeqMoves k) id ws vs us (set vs id (record v { hand = h; steps = v.steps + 1; ext = e }))
  rule-goes k ws us vs id v h e r at long same goes saw there unshared parity few word watch = let u : V = record v { hand = h; steps = v.steps + 1; ext = e } in let a = alone-set vs id v u at in (
    record {
      wide = long ∙ r.wide;
      site_holds = subst (λ (z : SiteWords). SiteKept o never size k z (hands (set vs id u))) (sym same) (set_part hand_of (Site k ws) vs id u there);
      parity = omega (arith, a, parity);
      few = few;
      apart = each-set (λ v. v.hand.held ≢ Shared) (λ v. v.hand.held ≢ Shared) vs id u unshared (λ j x _ _ p. p) r.apart;
      watches = subst (λ (z : SiteWords). Each (λ v. WatchOk o size k (get_or us seq_at 0) z v.ext) (set vs id u)) (sym same)
          (each-set (λ v. WatchOk o size k (get_or ws seq_at 0) (site k ws) v.ext) (λ v. WatchOk o size k (get_or us seq_at 0) (site k ws) v.ext) vs id u watch (λ j x _ _ p. moved x p) r.watches);
    },
    (
      subst (λ (z : SiteWords). SiteMoveWhere true id (get_or ws seq_at 0) (site k ws) vs z (set vs id u)) (sym same)
          (set-moves id (site k ws) (site k ws) vs v u at (hold-moved (site k ws) v h e goes (inl saw))),
      changes v.hand,
    ),
  )
    where
      changes : (g : Hand) → SeqStep ws us vs (set vs id (record v { hand = h; steps = v.steps + 1; ext = e }))
      changes g = elim word [
        | inl q ↦ inl (q.0, let x = q.1 in let a = alone-set vs id v (record v { hand = h; steps = v.steps + 1; ext = e }) at in omega (arith, a, x))
        | inr q ↦ inr q
      ]

      moved : (x : V) → WatchOk o size k (get_or ws seq_at 0) (site k ws) x.ext → WatchOk o size k (get_or us seq_at 0) (site k ws) x.ext
      moved x p = elim word [
        | inl q ↦ subst (λ (z : ℕ). WatchOk o size k z (site k ws) x.ext) (sym q.0) p
        | inr q ↦ watch-rises k (get_or ws seq_at 0) (get_or us seq_at 0) (site k ws) x.ext (omega (arith, q)) p
      ]
