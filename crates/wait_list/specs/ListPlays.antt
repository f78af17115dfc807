-- What a step on the list tells its pass.
use Rattle.std.specs.Prelude.{◌≡◌, ◌≤◌, ℕ, ◌-◌, List, Some, length, slice_index}
use Rattle.word_bits.specs.Histories.{Plan}
use Rattle.atomic_table.specs.Table.{Step}
use Rattle.lock_core.specs.SitePlays.{Sat, Turns}
use Rattle.wait_list.specs.Lists.{ArePlanned, list_part, listed, sighted, IsLawful, Learnt, Allowed}
use Rattle.wait_list.specs.Types.{View, Waiter, Change, Stay, ListHand}

module _ {E : Type 0} where
  abbrev pub Got : ℕ → (E → ListHand) → (Change → View E → ListHand → E) → (Change → View E → List Waiter → Type 0) → Step (Unit {0}) → Sat E → ℕ → Sat E → Type 0
  Got place list with_list may_change st m n m' = (b : ListHand) × Learnt (list_part list m.0) b × (n ≡ slice_index b.words (st.word - place)) × IsLawful may_change m.0 b.list
      × Turns m (listed with_list Stay m.0 b) m' × ArePlanned m.0 b.list

  abbrev pub Laid : (E → ListHand) → (Change → View E → ListHand → E) → Change → ListHand → Step (Unit {0}) → Sat E → ℕ → Sat E → Type 0
  Laid list with_list c b st m n m' = Allowed c (list m.0.ext).list × Turns m (listed with_list c m.0 b) m'

  abbrev pub Sighted : (View E → ℕ → E) → Step (Unit {0}) → Sat E → ℕ → Sat E → Type 0
  Sighted saw_first st m n m' = Turns m (sighted saw_first m.0 n) m'

  abbrev pub FoundHead : (View E → ℕ → E) → Step (Unit {0}) → Sat E → ℕ → Sat E → Type 0
  FoundHead saw_first st m n m' = ((k : Plan) → m.0.hand.plan ≡ Some k → n ≤ length k) × Turns m (sighted saw_first m.0 n) m'
