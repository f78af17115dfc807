-- What a pass knows of the guarded words after it looked at them and wrote.
use Rattle.std.proofs.Common.{◌≡◌, ℕ, ◌+◌, ◌-◌, ◌<◌, ◌≤◌, ◌⊎◌, inl, inr, true, List, length, slice_index, slice_set, refl, sym, ap, ◌∙◌, arith}
use Rattle.std.proofs.lemmas.Bool.{cases_lt, cases_eq}
use Rattle.lock_core.specs.Shown.{Shown, PastGoesOn}
use Rattle.lock_core.specs.Locking.{Looks, Has}
use Rattle.lock_core.specs.Views.{wrote}
use Rattle.guarded.specs.CallServing.{AreZeroFrom}
use Rattle.guarded.specs.Splicing.{ChangesWords, IsCleared, IsWritten, MakeRoom, MovesDown}
use Rattle.guarded.specs.Types.{Hand, Alone}
use Rattle.guarded.proofs.Spliced.{set-here, set-off}

pub looked : (v u : Shown) → PastGoesOn v u → Looks v u → ChangesWords v u
looked v u on looks = (on, (v.hand.writes, (looks.0 ∙ ap {B = Hand} (λ (xs : List ℕ). record v.hand { writes = v.hand.writes; known = xs }) (sym (ap {A = Hand} (λ h. h.known) looks.0)), looks.1)))

pub wrote-word : (v u : Shown) (at value : ℕ) → PastGoesOn v u → Has (wrote v.hand at value) v u → ChangesWords v u
wrote-word v u at value on has = (on, (true, (has.0 ∙ ap {B = Hand} (λ (xs : List ℕ). record v.hand { writes = true; known = xs }) (sym (ap {A = Hand} (λ h. h.known) has.0)), has.1)))

pub still-alone : (v u : Shown) → ChangesWords v u → v.hand.held ≡ Alone → u.hand.held ≡ Alone
still-alone v u changes held = ap {A = Hand} (λ h. h.held) changes.1.1.0 ∙ held

pub same-known : (v u : Shown) → Looks v u → u.hand.known ≡ v.hand.known
same-known v u looks = ap {A = Hand} (λ h. h.known) looks.0

-- a word more that is moved down
pub closed-more : (old now new : List ℕ) (at fewer place value : ℕ) → place < length now → at + 1 ≤ place → new ≡ slice_set now place value → value ≡ slice_index old (place + fewer) → ((i : ℕ) → at < i → i < place → slice_index now i ≡ slice_index old (i + fewer)) → (i : ℕ) → at < i → i < place + 1 → slice_index new i ≡ slice_index old (i + fewer)
closed-more old now new at fewer place value below from is found moved i over upto = go (cases_eq i place)
  where
    go : (i ≡ place) ⊎ (i ≡ place → ⊥) → slice_index new i ≡ slice_index old (i + fewer)
    go (inl here) = ap (slice_index new) here ∙ ap (λ xs. slice_index xs place) is ∙ set-here now place value below ∙ found ∙ ap (λ n. slice_index old (n + fewer)) (sym here)
    go (inr there) = ap (λ xs. slice_index xs i) is ∙ set-off now place i value there ∙ moved i over (omega (arith, there, upto))

-- a word more that is moved up
pub roomed-more : (old now new : List ℕ) (more place value : ℕ) → place + more < length now → 0 < place → new ≡ slice_set now (place + more) value → value ≡ slice_index old place → ((i : ℕ) → place + more < i → slice_index now i ≡ slice_index old (i - more)) → (i : ℕ) → place - 1 + more < i → slice_index new i ≡ slice_index old (i - more)
roomed-more old now new more place value below some is found moved i over = go (cases_eq i (place + more))
  where
    go : (i ≡ place + more) ⊎ (i ≡ place + more → ⊥) → slice_index new i ≡ slice_index old (i - more)
    go (inl here) = ap (slice_index new) here ∙ ap (λ xs. slice_index xs (place + more)) is ∙ set-here now (place + more) value below ∙ found ∙ ap (slice_index old) (let e : place ≡ i - more = omega (arith, here) in e)
    go (inr there) = ap (λ xs. slice_index xs i) is ∙ set-off now (place + more) i value there ∙ moved i (omega (arith, there, over, some))

-- a piece more that is written
pub pieced-more : (words now new : List ℕ) (at n value : ℕ) → at + n + 1 < length now → new ≡ slice_set now (at + n + 1) value → value ≡ slice_index words n → ((i : ℕ) → i < n → slice_index now (at + 1 + i) ≡ slice_index words i) → (i : ℕ) → i < n + 1 → slice_index new (at + 1 + i) ≡ slice_index words i
pieced-more words now new at n value below is found written i upto = go (cases_eq i n)
  where
    go : (i ≡ n) ⊎ (i ≡ n → ⊥) → slice_index new (at + 1 + i) ≡ slice_index words i
    go (inl here) = ap (slice_index new) (let e : at + 1 + i ≡ at + n + 1 = omega (arith, here) in e) ∙ ap (λ xs. slice_index xs (at + n + 1)) is ∙ set-here now (at + n + 1) value below ∙ found ∙ ap (slice_index words) (sym here)
    go (inr there) = ap (λ xs. slice_index xs (at + 1 + i)) is ∙ set-off now (at + n + 1) (at + 1 + i) value (λ e. there (omega (arith, e))) ∙ written i (omega (arith, there, upto))

-- the others
pub others-same : (old now new : List ℕ) (place i value : ℕ) → new ≡ slice_set now place value → (i ≡ place → ⊥) → slice_index now i ≡ slice_index old i → slice_index new i ≡ slice_index old i
others-same old now new place i value is there same = ap (λ xs. slice_index xs i) is ∙ set-off now place i value there ∙ same

pub fits-fewer : (at count pieces : ℕ) (old new : List ℕ) → pieces < count → MakeRoom (at + pieces) (count - pieces) 0 old new → MakeRoom at count pieces old new
fits-fewer at count pieces old new fewer made = record {
  as_long = made.as_long;
  front = λ i l. made.front i (omega (arith, l));
  back = λ i l. made.back i (omega (arith, l)) ∙ ap (slice_index old) (let e : i + (count - pieces) - 0 ≡ i + count - pieces = omega (arith, fewer) in e);
}

pub fits-more : (at count pieces : ℕ) (old new : List ℕ) → count ≤ pieces → MakeRoom (at + count) 0 (pieces - count) old new → MakeRoom at count pieces old new
fits-more at count pieces old new more made = record {
  as_long = made.as_long;
  front = λ i l. made.front i (omega (arith, l));
  back = λ i l. made.back i (omega (arith, l, more)) ∙ ap (slice_index old) (let e : i + 0 - (pieces - count) ≡ i + count - pieces = omega (arith, more, l) in e);
}

-- what a move down leaves
pub moved-down : (old now : List ℕ) (at fewer left place : ℕ) → length now ≡ length old → left + 1 ≤ place → place ≤ left + 1 → ((i : ℕ) → i ≤ at → slice_index now i ≡ slice_index old i) → ((i : ℕ) → at < i → i < place → slice_index now i ≡ slice_index old (i + fewer)) → ((i : ℕ) → place ≤ i → slice_index now i ≡ slice_index old i) → MovesDown at fewer left old now
moved-down old now at fewer left place long done upto front moved behind = record {
  as_long = long;
  front = front;
  moved = λ i l u. moved i l (omega (arith, u, done));
  back = λ i l. behind i (omega (arith, l, upto));
}

-- a word more that is cleared
pub cleared-more : (now new : List ℕ) (at place : ℕ) → place < length now → new ≡ slice_set now place 0 → ((i : ℕ) → at < i → i < place → slice_index now i ≡ 0) → (i : ℕ) → at < i → i < place + 1 → slice_index new i ≡ 0
cleared-more now new at place below is cleared i over upto = go (cases_eq i place)
  where
    go : (i ≡ place) ⊎ (i ≡ place → ⊥) → slice_index new i ≡ 0
    go (inl here) = ap (slice_index new) here ∙ ap (λ xs. slice_index xs place) is ∙ set-here now place 0 below
    go (inr there) = ap (λ xs. slice_index xs i) is ∙ set-off now place i 0 there ∙ cleared i over (omega (arith, there, upto))

pub cleared-all : (old now : List ℕ) (at upto place : ℕ) → length now ≡ length old → upto + 1 ≤ place → place ≤ upto + 1 → ((i : ℕ) → i ≤ at → slice_index now i ≡ slice_index old i) → ((i : ℕ) → at < i → i < place → slice_index now i ≡ 0) → ((i : ℕ) → place ≤ i → slice_index now i ≡ slice_index old i) → IsCleared at upto old now
cleared-all old now at upto place long done most front cleared behind = record {
  as_long = long;
  front = front;
  zeros = λ i l u. cleared i l (omega (arith, u, done));
  back = λ i l. behind i (omega (arith, l, most));
}

-- the areas that are left have moved down, and behind them stands 0
pub closed-up : (old mid now : List ℕ) (at fewer len : ℕ) → at + fewer ≤ len → AreZeroFrom (len + 1) old → MovesDown at fewer (len - fewer) old mid → IsCleared (len - fewer) len mid now → MakeRoom at fewer 0 old now
closed-up old mid now at fewer len within zeros moved cleared = record {
  as_long = cleared.as_long ∙ moved.as_long;
  front = λ i l. cleared.front i (omega (arith, l, within)) ∙ moved.front i l;
  back = λ i l. go i (omega (arith, l)) (cases_lt (len - fewer) i);
}
  where
    go : (i : ℕ) → at < i → (len - fewer < i) ⊎ (i ≤ len - fewer) → slice_index now i ≡ slice_index old (i + fewer - 0)
    go i over (inr low) = cleared.front i low ∙ moved.moved i over low ∙ ap (slice_index old) (let e : i + fewer ≡ i + fewer - 0 = omega arith in e)
    go i over (inl high) = empty i high (cases_lt len i) ∙ sym (zeros (i + fewer - 0) (omega (arith, within, high)))
      where
        empty : (i : ℕ) → len - fewer < i → (len < i) ⊎ (i ≤ len) → slice_index now i ≡ 0
        empty i high (inl out) = cleared.back i out ∙ moved.back i high ∙ zeros i (omega (arith, out))
        empty i high (inr inside) = cleared.zeros i high inside

-- what a move up leaves
pub roomed-all : (old now : List ℕ) (at more place : ℕ) → length now ≡ length old → place ≤ at → at ≤ place → ((i : ℕ) → i ≤ place → slice_index now i ≡ slice_index old i) → ((i : ℕ) → place + more < i → slice_index now i ≡ slice_index old (i - more)) → MakeRoom at 0 more old now
roomed-all old now at more place long done from upto moved = record {
  as_long = long;
  front = λ i l. upto i (omega (arith, l, from));
  back = λ i l. moved i (omega (arith, l, done)) ∙ ap (slice_index old) (let e : i - more ≡ i + 0 - more = omega arith in e);
}

-- no room is made for none
pub roomed-none : (old : List ℕ) (at more : ℕ) → more ≡ 0 → MakeRoom at 0 more old old
roomed-none old at more none = record {
  as_long = refl;
  front = λ i l. refl;
  back = λ i l. ap (slice_index old) (let e : i ≡ i + 0 - more = omega (arith, none) in e);
}

-- what was written of pieces
pub pieced-all : (words old now : List ℕ) (at n : ℕ) → length now ≡ length old → length words ≤ n → n ≤ length words → ((i : ℕ) → i ≤ at → slice_index now i ≡ slice_index old i) → ((i : ℕ) → i < n → slice_index now (at + 1 + i) ≡ slice_index words i) → ((i : ℕ) → at + n < i → slice_index now i ≡ slice_index old i) → IsWritten at words old now
pieced-all words old now at n long all few front written behind = record {
  as_long = long;
  front = front;
  pieces = λ i l. written i (omega (arith, l, all));
  back = λ i l. behind i (omega (arith, l, few));
}
