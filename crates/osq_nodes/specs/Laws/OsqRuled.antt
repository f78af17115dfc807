-- The steps of seats and of the site's own words keep the rule of a spin queue.
use Rattle.std.proofs.Common.{MatchBool, ◌≡◌, ◌≢◌, ℕ, zero, suc, ◌+◌, ◌<◌, ◌≤◌, Bool, false, if◌then◌else◌, List, [], ◌∷◌, ◌++◌, length, map, get_or, set, Option, Some, None, sym, refl, ap, ◌∙◌}
use Rattle.std.proofs.Common.{subst, inl, inr, arith, length-set, eq-eqb, ne_eqb}
use Rattle.std.proofs.lemmas.List.{take-set-le, get_or-take, get_or_past, length-take}
use mathlib.Core.Option.{some, some-injective, some-ne-none}
use mathlib.Core.Logic.{dite}
use native.Mathlib.Decide.{ℕ_discrete, dec_le}
use lib.ListN.{get_elem?}
use Rattle.atomic_table.proofs.Lists.{at_longer, at_map, set_else}
use Rattle.word_bits.specs.declared.TheConstants.{MAX_TASKS}
use Rattle.word_bits.specs.Histories.{Plan}
use Rattle.lock_core.specs.declared.layout.TheConstants.{LOCK_WORDS}
use Rattle.lock_core.specs.Nothings.{never, nothing}
use Rattle.lock_core.specs.Layout.{SiteWords, site, width, fresh}
use Rattle.lock_core.specs.Views.{hand_of, named_of, is_number, SpinStays, seated, ticked, first, split_off, merged, spent}
use Rattle.lock_core.specs.Sites.{SiteKept}
use Rattle.lock_core.specs.Moves.{Goes, KeepsHold, SiteMove}
use Rattle.lock_core.specs.Pasts.{marks_of}
use Rattle.lock_core.specs.Totals.{total, total-at, total-set, total-same, total-snoc}
use Rattle.lock_core.specs.ViewParts.{Each, each-set, each-snoc, set_part, snoc_part, set-there}
use Rattle.lock_core.proofs.HandLaws.{is_number-here, is_number-else}
use Rattle.lock_core.specs.NodeLists.{Has, IsFirst, last_from}
use Rattle.lock_core.specs.Laws.NodeList.{first-has, right-has, last-none}
use Rattle.osq_nodes.specs.OsqKept.{IsAt, RowKept}
use Rattle.osq_nodes.specs.OsqPlaces.{IsHeadNode, is_swap, is_coming_first, is_queued, numbers_of, node_marks, place_in, swaps_in, found_in}
use Rattle.osq_nodes.specs.Laws.Walks.{is-queue, are-linked, head-is, queue-same}
use Rattle.osq_nodes.specs.Words.{row_of, tail_in, next_in, prev_in, locked_in, next_at}
use Rattle.osq_nodes.specs.OsqStated.{IsQueue, AreLinked, IsSpinQueue, Changes, seat_place, places}
use Rattle.osq_nodes.specs.OsqRuled.{V, idle, table_at, Seated, OsqKept, NodeStep, OsqMoves, node_after, fronts_after}
use Rattle.osq_nodes.specs.Types.{Hand, Marks, SpinHand, Place, Out, Cleared, Swapped, Linking, Waiting, Unlinked, Splicing, Relinking, Head, Granting, Node}

module _ (size : ℕ) (row : List ℕ) (place : ℕ → Place) (q : List ℕ) (r : RowKept size row place q) where
  pub row-queue : IsQueue (tail_in row) (prev_in row) (locked_in row) place q
  row-queue = is-queue size (tail_in row) (next_in row) (prev_in row) (locked_in row) place q r

  pub row-linked : AreLinked (next_in row) place q
  row-linked = are-linked size (tail_in row) (next_in row) (prev_in row) (locked_in row) place q r

-- what the passes say of each task, its moment keeps

pub place-back : (p : Place) (s f : ℕ) → place_in (numbers_of p s f) ≡ p
place-back Out s f = refl
place-back Cleared s f = refl
place-back (Swapped p) s f = refl
place-back (Linking p) s f = refl
place-back Waiting s f = refl
place-back (Unlinked p) s f = refl
place-back (Splicing p n) s f = refl
place-back (Relinking p n) s f = refl
place-back Head s f = refl
place-back (Granting n) s f = refl

-- the places of these views
abbrev views_places : List V → ℕ → Place
views_places vs = places (map hand_of vs) (map (marks_of node_marks) vs)

seat-here : (t u : ℕ) (p others : Place) → u ≡ t → seat_place t (Some u) p others ≡ p
seat-here t u p others e = ap (λ (b : Bool). if b then p else others) (eq-eqb u t e)

seat-else : (t u : ℕ) (p others : Place) → u ≢ t → seat_place t (Some u) p others ≡ others
seat-else t u p others n = ap (λ (b : Bool). if b then p else others) (ne_eqb u t n)

pub swaps-back : (p : Place) (s f : ℕ) → (swaps_in (numbers_of p s f) ≡ s) × (found_in (numbers_of p s f) ≡ f)
swaps-back Out s f = (refl, refl)
swaps-back Cleared s f = (refl, refl)
swaps-back (Swapped p) s f = (refl, refl)
swaps-back (Linking p) s f = (refl, refl)
swaps-back Waiting s f = (refl, refl)
swaps-back (Unlinked p) s f = (refl, refl)
swaps-back (Splicing p n) s f = (refl, refl)
swaps-back (Relinking p n) s f = (refl, refl)
swaps-back Head s f = (refl, refl)
swaps-back (Granting n) s f = (refl, refl)

-- a seat without the task's number says nothing of it
seat-passes : (t : ℕ) (task : Option ℕ) (p others : Place) → is_number t task ≡ 0 → seat_place t task p others ≡ others
seat-passes t None p others z = refl
seat-passes t (Some u) p others z = seat-else t u p others (λ e. let one = is_number-here t in let is = ap (λ (x : ℕ). is_number t (Some x)) e in omega (arith, z, one, is))

place-said-by : (t : ℕ) (P : Place) (x : Node) (others : Place) (task : Option ℕ) → (task ≡ Some t → P ≡ x.place) → (is_number t task ≡ 0 → P ≡ others)
    → P ≡ seat_place t task (place_in (node_marks x)) others
place-said-by t P x others None mine rest = rest refl
place-said-by t P x others (Some u) mine rest = dite (ℕ_discrete u t)
    (λ is. mine (ap Some is) ∙ (sym (place-back x.place x.swaps x.found) ∙ sym (seat-here t u (place_in (node_marks x)) others is)))
    (λ n. rest (is_number-else t u n) ∙ sym (seat-else t u (place_in (node_marks x)) others n))

place-said : (t : ℕ) (P : Place) (vs : List V) → Each (λ (v : V). v.hand.task ≡ Some t → P ≡ v.ext.place) vs → (total (named_of t) (map hand_of vs) ≡ 0 → P ≡ Out) → P ≡ views_places vs t
place-said t P [] mine free = free refl
place-said t P (v ∷ vs) mine free = place-said-by t P v.ext (views_places vs t) v.hand.task (mine 0 v refl) (λ z. place-said t P vs (λ j u at. mine (suc j) u at) (λ e. free (omega (arith, e, z))))

places-said : (place : ℕ → Place) (vs : List V) → Seated place vs → place ≡ views_places vs
places-said place vs r = λ i t. place-said t (place t) vs (λ j v at e. r.mine j v at t e) (r.free t) i

-- a step that leaves the place of its pass
never-swaps : (p : Place) → is_swap p p ≡ false
never-swaps Out = refl
never-swaps Cleared = refl
never-swaps (Swapped p) = refl
never-swaps (Linking p) = refl
never-swaps Waiting = refl
never-swaps (Unlinked p) = refl
never-swaps (Splicing p n) = refl
never-swaps (Relinking p n) = refl
never-swaps Head = refl
never-swaps (Granting n) = refl

never-comes : (p : Place) → is_coming_first p p ≡ false
never-comes Out = refl
never-comes Cleared = refl
never-comes (Swapped p) = refl
never-comes (Linking p) = refl
never-comes Waiting = refl
never-comes (Unlinked p) = refl
never-comes (Splicing p n) = refl
never-comes (Relinking p n) = refl
never-comes Head = refl
never-comes (Granting n) = refl

pub node-stays : (tail id : ℕ) (vs vs' : List V) (v u : V) → get_elem? vs id ≡ some v → get_elem? vs' id ≡ some u → u.ext ≡ v.ext → u.fronts ≡ v.fronts → NodeStep tail id vs vs'
node-stays tail id vs vs' v u at at' same fronts = let x : Node = v.ext in let p : Place = x.place in record {
  before = v;
  after = u;
  at = at;
  at' = at';
  node = subst (λ (y : Node). y ≡ node_after p x y.place tail) (sym same)
      (λ i. record { place = p; swaps = if sym (never-swaps p) i then x.swaps + 1 else x.swaps; found = if sym (never-swaps p) i then tail else x.found });
  fronts = subst (λ (y : Node). u.fronts ≡ fronts_after p y.place v.fronts) (sym same) (fronts ∙ sym (ap (λ (b : Bool). if b then v.fronts + 1 else v.fronts) (never-comes p)));
}

-- a step from one table to another
pub goes : (k : Plan) (id : ℕ) (ws us : List ℕ) (vs vs' : List V) (r : OsqKept k ws vs) (r' : OsqKept k us vs') → SiteMove id (get_or ws 0 0) (site k ws) vs (site k us) vs'
    → NodeStep (tail_in (row_of ws)) id vs vs' → Changes (row_of ws) (row_of us) r.place r.queue r'.queue
    → Goes (OsqKept k) (OsqMoves k) id ws vs us vs'
goes k id ws us vs vs' r r' move node changes = (
  r',
  record {
    site = move;
    node = node;
    queue = record {
      queue = r.queue;
      queue' = r'.queue;
      before = subst (λ (place : ℕ → Place). IsQueue (tail_in (row_of ws)) (prev_in (row_of ws)) (locked_in (row_of ws)) place r.queue) (places-said r.place vs r.seated)
          (row-queue (length k) (row_of ws) r.place r.queue r.kept);
      after = subst (λ (place : ℕ → Place). IsQueue (tail_in (row_of us)) (prev_in (row_of us)) (locked_in (row_of us)) place r'.queue) (places-said r'.place vs' r'.seated)
          (row-queue (length k) (row_of us) r'.place r'.queue r'.kept);
      changes = subst (λ (place : ℕ → Place). Changes (row_of ws) (row_of us) place r.queue r'.queue) (places-said r.place vs r.seated) changes;
    };
  },
)

-- who has a number, as a weight
has-number : (t : ℕ) (task : Option ℕ) {P : Type 0} → (task ≡ Some t → P) → (is_number t task ≡ 0 → P) → P
has-number t None {P} has lacks = lacks refl
has-number t (Some u) {P} has lacks = dite (ℕ_discrete u t) (λ e. has (ap Some e)) (λ n. lacks (is_number-else t u n))

none-some : (x : Option ℕ) (t : ℕ) {P : Type 0} → x ≡ None → x ≡ Some t → P
none-some x t {P} e f = absurd cc

pub number-one : (t : ℕ) (task : Option ℕ) → task ≡ Some t → is_number t task ≡ 1
number-one t task e = ap (is_number t) e ∙ is_number-here t

module _ (place : ℕ → Place) (vs : List V) (id : ℕ) (v w : V) (r : Seated place vs) (at : get_elem? vs id ≡ some v) where
  -- the seat keeps its number and its place
  pub seat-stays : w.hand.task ≡ v.hand.task → w.ext.place ≡ v.ext.place → Seated place (set vs id w)
  seat-stays task same = record {
    mine = each-set (λ (u : V). (t : ℕ) → u.hand.task ≡ Some t → place t ≡ u.ext.place) (λ (u : V). (t : ℕ) → u.hand.task ≡ Some t → place t ≡ u.ext.place) vs id w
        (λ t e. r.mine id v at t (sym task ∙ e) ∙ sym same) (λ j u _ _ p. p) r.mine;
    free = λ t z. r.free t (sym (total-same (named_of t) (map hand_of vs) id v.hand w.hand (at_map hand_of vs id v at) (ap (is_number t) task))
        ∙ set_part hand_of (λ (hs : List Hand). total (named_of t) hs ≡ 0 → total (named_of t) (set (map hand_of vs) id w.hand) ≡ 0) vs id w (λ e. e) z);
    nameless = each-set (λ (u : V). u.hand.task ≡ None → u.ext.place ≡ Out) (λ (u : V). u.hand.task ≡ None → u.ext.place ≡ Out) vs id w (λ e. same ∙ r.nameless id v at (sym task ∙ e))
        (λ j u _ _ p. p) r.nameless;
  }

  -- a seat that is in no call gets another number, or gives its own back
  pub seat-turns : v.ext.place ≡ Out → w.ext.place ≡ v.ext.place → ((t : ℕ) → w.hand.task ≡ Some t → total (named_of t) (set (map hand_of vs) id w.hand) ≤ 1) → Seated place (set vs id w)
  seat-turns out same one = let hs : List Hand = map hand_of vs in let at' = at_map hand_of vs id v at in
      let known : (t : ℕ) → total (named_of t) hs ≤ named_of t v.hand → place t ≡ Out = λ t l. has-number t v.hand.task (λ e. r.mine id v at t e ∙ out) (λ z. r.free t (omega (arith, l, z))) in
      record {
        mine = each-set (λ (u : V). (t : ℕ) → u.hand.task ≡ Some t → place t ≡ u.ext.place) (λ (u : V). (t : ℕ) → u.hand.task ≡ Some t → place t ≡ u.ext.place) vs id w
            (λ t e. known t (let a = total-set (named_of t) hs id v.hand w.hand at' in let b = number-one t w.hand.task e in let c = one t e in omega (arith, a, b, c)) ∙ sym (same ∙ out))
            (λ j u _ _ p. p) r.mine;
        free = λ t z. known t (let a = total-set (named_of t) hs id v.hand w.hand at' in
            let b : total (named_of t) (set hs id w.hand) ≡ 0 = set_part hand_of (λ (gs : List Hand). total (named_of t) gs ≡ 0 → total (named_of t) (set hs id w.hand) ≡ 0) vs id w (λ e. e) z in
            omega (arith, a, b));
        nameless = each-set (λ (u : V). u.hand.task ≡ None → u.ext.place ≡ Out) (λ (u : V). u.hand.task ≡ None → u.ext.place ≡ Out) vs id w (λ _. same ∙ out) (λ j u _ _ p. p) r.nameless;
      }

pub osq-site : (k : Plan) (ws : List ℕ) (vs : List V) → OsqKept k ws vs → SiteKept nothing never 0 k (site k ws) (map hand_of vs)
osq-site k ws vs r = r.site_holds

pub osq-sites : (k : Plan) (ws : List ℕ) (vs : List V) (id i n : ℕ) (v : V) (h : Hand) (s : SpinHand) → OsqKept k ws vs → get_elem? vs id ≡ some v → KeepsHold (λ (u : V). u.ext.place ≡ Out) v h
    → SpinStays v.spin s
    → SiteKept nothing never 0 k (site k (set ws (LOCK_WORDS + i) n)) (set (map hand_of vs) id h)
    → SiteMove id (get_or ws 0 0) (site k ws) vs (site k (set ws (LOCK_WORDS + i) n)) (set vs id (seated v h s))
    → Goes (OsqKept k) (OsqMoves k) id ws vs (set ws (LOCK_WORDS + i) n) (set vs id (seated v h s))
osq-sites k ws vs id i n v h s r at holds stays there move = let w : V = seated v h s in let us : List ℕ = set ws (LOCK_WORDS + i) n in
    let same : row_of us ≡ row_of ws = take-set-le LOCK_WORDS ws (LOCK_WORDS + i) n (omega arith) in
    let one : (t : ℕ) → h.task ≡ Some t → total (named_of t) (set (map hand_of vs) id h) ≤ 1 = λ t e. (let few = there.laid.small.tasks in
    let mine = (((there.each id h (set-there (map hand_of vs) id v.hand h (at_map hand_of vs id v at))).mine t e).0) in (there.balances.named t (omega arith)).1) in
    goes k id ws us vs (set vs id w) r
    record {
      wide = length-set ws (LOCK_WORDS + i) n ∙ r.wide;
      site_holds = set_part hand_of (SiteKept nothing never 0 k (site k us)) vs id w there;
      place = r.place;
      queue = r.queue;
      seated = elim holds.1 [
        | inl task ↦ seat-stays r.place vs id v w r.seated at task refl
        | inr (inl none) ↦ seat-turns r.place vs id v w r.seated at (r.seated.nameless id v at none) refl one
        | inr (inr rests) ↦ seat-turns r.place vs id v w r.seated at rests.1 refl one
      ];
      kept = subst (λ (row : List ℕ). RowKept (length k) row r.place r.queue) (sym same) r.kept;
    }
    move (node-stays (tail_in (row_of ws)) id vs (set vs id w) v w at (set-there vs id v w at) refl refl) (inl refl)

-- a seat without a number comes
seat-comes : (place : ℕ → Place) (vs : List V) (w : V) → Seated place vs → w.hand.task ≡ None → w.ext.place ≡ Out → Seated place (vs ++ w ∷ [])
seat-comes place vs w r none out = record {
  mine = each-snoc (λ (u : V). (t : ℕ) → u.hand.task ≡ Some t → place t ≡ u.ext.place) vs w (λ t e. none-some w.hand.task t none e) r.mine;
  free = λ t z. r.free t (snoc_part hand_of (λ (hs : List Hand). total (named_of t) hs ≡ 0 → total (named_of t) (map hand_of vs) ≡ 0) vs w
      (λ e. let a = total-snoc (named_of t) (map hand_of vs) w.hand in omega (arith, a, e)) z);
  nameless = each-snoc (λ (u : V). u.hand.task ≡ None → u.ext.place ≡ Out) vs w (λ _. out) r.nameless;
}

pub osq-opens : (k : Plan) → length (fresh k) ≡ width k → ((i : ℕ) → i < LOCK_WORDS → get_or (fresh k) i 0 ≡ 0)
    → SiteKept nothing never 0 k (site k (fresh k)) (map hand_of (first {E = Node} k idle ∷ [])) → OsqKept k (fresh k) (first k idle ∷ [])
osq-opens k wide zeros there = let zero_at : (i : ℕ) → get_or (row_of (fresh k)) i 0 ≡ 0 =
    λ i. elim (dec_le (suc i) LOCK_WORDS) [
      | yes l ↦ get_or-take LOCK_WORDS (fresh k) i 0 l
          ∙ zeros i l
      | no l ↦ get_or_past (row_of (fresh k)) i 0 (let e = length-take LOCK_WORDS (fresh k) in omega (arith, e, l))
    ] in record {
      wide = wide;
      site_holds = there;
      place = λ _. Out;
      queue = [];
      seated = record {
        mine = each-snoc (λ (u : V). (t : ℕ) → u.hand.task ≡ Some t → Out ≡ u.ext.place) [] (first k idle) (λ t e. refl) (λ j v e. absurd (some-ne-none v (sym e)));
        free = λ t z. refl;
        nameless = each-snoc (λ (u : V). u.hand.task ≡ None → u.ext.place ≡ Out) [] (first k idle) (λ _. refl) (λ j v e. absurd (some-ne-none v (sym e)));
      };
      kept = record {
        debtor = λ _. 0;
        once = tt;
        ends = zero_at 0;
        inside = λ t m. absurd m;
        links = λ x y e. absurd (let z = zero_at (next_at x) in omega (arith, z, e));
        owed = λ x y h z. absurd h;
        behind = λ x y h. absurd h;
        head = λ t f. absurd f;
        each = λ t m. m;
      };
    }

pub osq-splits : (k : Plan) (ws : List ℕ) (vs : List V) (id : ℕ) (v : V) → OsqKept k ws vs → get_elem? vs id ≡ some v
    → SiteKept nothing never 0 k (site k ws) (map hand_of (set vs id (ticked v) ++ split_off idle v ∷ []))
    → SiteMove id (get_or ws 0 0) (site k ws) vs (site k ws) (set vs id (ticked v) ++ split_off idle v ∷ []) → Goes (OsqKept k) (OsqMoves k) id ws vs ws (set vs id (ticked v) ++ split_off idle v ∷ [])
osq-splits k ws vs id v r at there move = let us : List V = set vs id (ticked v) in goes k id ws ws vs (us ++ split_off idle v ∷ []) r
    record {
      wide = r.wide;
      site_holds = there;
      place = r.place;
      queue = r.queue;
      seated = seat-comes r.place us (split_off idle v) (seat-stays r.place vs id v (ticked v) r.seated at refl refl) refl refl;
      kept = r.kept;
    }
    move (node-stays (tail_in (row_of ws)) id vs (us ++ split_off idle v ∷ []) v (ticked v) at (at_longer us (split_off idle v ∷ []) id (ticked v) (set-there vs id v (ticked v) at)) refl refl)
    (inl refl)

pub osq-joins : (k : Plan) (ws : List ℕ) (vs : List V) (id other : ℕ) (v w : V) → OsqKept k ws vs → get_elem? vs id ≡ some v → other ≢ id → get_elem? vs other ≡ some w → w.hand.task ≡ None
    → SiteKept nothing never 0 k (site k ws) (map hand_of (set (set vs id (merged v w)) other (spent idle)))
    → SiteMove id (get_or ws 0 0) (site k ws) vs (site k ws) (set (set vs id (merged v w)) other (spent idle))
    → Goes (OsqKept k) (OsqMoves k) id ws vs ws (set (set vs id (merged v w)) other (spent idle))
osq-joins k ws vs id other v w r at apart at' none there move = let u : V = merged v w in let us : List V = set vs id u in goes k id ws ws vs (set us other (spent idle)) r
    record {
      wide = r.wide;
      site_holds = there;
      place = r.place;
      queue = r.queue;
      seated = seat-stays r.place us other w (spent idle) (seat-stays r.place vs id v u r.seated at refl refl) (set_else vs id other u apart ∙ at') (sym none)
          (sym (r.seated.nameless other w at' none));
      kept = r.kept;
    }
    move (node-stays (tail_in (row_of ws)) id vs (set us other (spent idle)) v u at (set_else us other id (spent idle) (λ e. apart (sym e)) ∙ set-there vs id v u at) refl refl) (inl refl)

-- a task's place says whether it stands in the queue
place-stands : (size : ℕ) (q : List ℕ) (b : ℕ → ℕ) (t : ℕ) (p : Place) (w l : ℕ) → IsAt size q b t p w l → MatchBool (is_queued p) (Has q t) (¬ Has q t)
place-stands size q b t Out w l at = at
place-stands size q b t Cleared w l at = at.0
place-stands size q b t (Swapped p) w l at = right-has q p t at.0
place-stands size q b t (Linking p) w l at = right-has q p t at.0
place-stands size q b t Waiting w l at = at.0
place-stands size q b t (Unlinked p) w l at = right-has q p t at.0
place-stands size q b t (Splicing p n) w l at = right-has q p t at.0.0
place-stands size q b t (Relinking p n) w l at = at.0
place-stands size q b t Head w l at = first-has q t at
place-stands size q b t (Granting n) w l at = first-has q t at.0

-- a number beyond those of the tasks nobody has, and any other one pass at most

none-named : (t : ℕ) (hs : List Hand) → Each (λ (h : Hand). h.task ≡ Some t → ⊥) hs → total (named_of t) hs ≡ 0
none-named t [] each = refl
none-named t (h ∷ hs) each = let a = has-number t h.task {P = named_of t h ≡ 0} (λ e. absurd (each 0 h refl e)) (λ z. z) in let b = none-named t hs (λ j g at. each (suc j) g at) in omega (arith, a, b)

named-once : (k : Plan) (w : SiteWords) (hs : List Hand) → SiteKept nothing never 0 k w hs → (t : ℕ) → total (named_of t) hs ≤ 1
named-once k w hs r t = elim (dec_le (suc t) MAX_TASKS) [
  | yes l ↦ (r.balances.named t (omega (arith, l))).1
  | no n ↦ let few = r.laid.small.tasks in let none = none-named t hs (λ j h at e. absurd (let l = ((r.each j h at).mine t e).0 in omega (arith, l, few, n))) in omega (arith, none)
]

-- the place of a task whose number one pass has is what that pass's seat says
pub its-place : (t : ℕ) (hs : List Hand) (ms : List Marks) (seat : ℕ) (h : Hand) (m : Marks) → get_elem? hs seat ≡ some h → get_elem? ms seat ≡ some m → h.task ≡ Some t → total (named_of t) hs ≤ 1
    → places hs ms t ≡ place_in m.numbers
its-place t [] ms seat h m at is mine few = absurd (some-ne-none h (sym at))
its-place t (g ∷ hs) [] seat h m at is mine few = absurd (some-ne-none m (sym is))
its-place t (g ∷ hs) (n ∷ ms) zero h m at is mine few = let others = places hs ms t in
    ap (λ (task : Option ℕ). seat_place t task (place_in n.numbers) others) (ap (λ (x : Hand). x.task) (some-injective g h at) ∙ mine)
    ∙ (seat-here t t (place_in n.numbers) others refl ∙ ap (λ (x : Marks). place_in x.numbers) (some-injective n m is))
its-place t (g ∷ hs) (n ∷ ms) (suc seat) h m at is mine few = let rest = its-place t hs ms seat h m at is mine (omega (arith, few)) in
    let here = total-at (named_of t) hs seat h at in let one = number-one t h.task mine in
    let other : is_number t g.task ≡ 0 = omega (arith, here, one, few) in seat-passes t g.task (place_in n.numbers) (places hs ms t) other ∙ rest

-- what is stated of a spin queue, its rule implies
pub osq-states : (k : Plan) (ws : List ℕ) (vs : List V) → OsqKept k ws vs → IsSpinQueue (length k) (table_at ws vs)
osq-states k ws vs r = let row : List ℕ = row_of ws in let said = places-said r.place vs r.seated in
    let is = subst (λ (place : ℕ → Place). IsQueue (tail_in row) (prev_in row) (locked_in row) place r.queue) said (row-queue (length k) row r.place r.queue r.kept) in record {
      queue = r.queue;
      is_queue = is;
      only = λ other so. queue-same (tail_in row) (prev_in row) (locked_in row) (views_places vs) other r.queue so is;
      empty = (λ none. r.kept.ends ∙ ap (λ (q : List ℕ). last_from 0 q) none, λ zero. last-none r.queue (sym r.kept.ends ∙ zero));
      inside = r.kept.inside;
      linked = subst (λ (place : ℕ → Place). AreLinked (next_in row) place r.queue) said (row-linked (length k) row r.place r.queue r.kept);
      first = subst (λ (place : ℕ → Place). (t : ℕ) → IsFirst r.queue t → IsHeadNode (place t) (locked_in row t)) said (λ t is_first. head-is (r.place t) (locked_in row t) (r.kept.head t is_first));
      head = subst (λ (place : ℕ → Place). (t : ℕ) → place t ≡ Head → IsFirst r.queue t) said
          (λ t e. subst (λ (p : Place). IsAt (length k) r.queue r.kept.debtor t p (prev_in row t) (locked_in row t)) e (r.kept.each t));
      stands = subst (λ (place : ℕ → Place). (t : ℕ) → MatchBool (is_queued (place t)) (Has r.queue t) (¬ Has r.queue t)) said
          (λ t. place-stands (length k) r.queue r.kept.debtor t (r.place t) (prev_in row t) (locked_in row t) (r.kept.each t));
      named = named-once k (site k ws) (map hand_of vs) r.site_holds;
    }
