-- A space or a table with its passes.
use Rattle.std.specs.Prelude.{Bool, true, false, List}
use Rattle.word_bits.specs.Histories.{Plan}
use Rattle.mm_serve.specs.Types.{Hand, Moment}
use Rattle.lock_core.specs.Shown.{Shown}
use Rattle.mm_serve.specs.declared.space_or_table.SpaceOrTable.{SpaceOrTable}
use Rattle.mm_serve.specs.declared.space_or_table.SpaceOrTable.TheVariants.{Space, Table}
use Rattle.mm_serve.specs.declared.space_or_table.SpaceOrTablePass.{SpaceOrTablePass}
use Rattle.mm_serve.specs.declared.space_or_table.SpaceOrTablePass.TheVariants.{OfSpace, OfTable}

abbrev pub hand_of : {P Q : Type 0} → (P → Shown) → (Q → Shown) → SpaceOrTablePass P Q → Hand
hand_of space_view table_view (OfSpace p) = (space_view p).hand
hand_of space_view table_view (OfTable p) = (table_view p).hand

-- the moments of the object's table up to the pass's last step
abbrev pub past_of : {P Q : Type 0} → (P → Shown) → (Q → Shown) → SpaceOrTablePass P Q → List Moment
past_of space_view table_view (OfSpace p) = (space_view p).past
past_of space_view table_view (OfTable p) = (table_view p).past

-- the moments of the spin queue of the object's lock up to the pass's last step there
abbrev pub spun_of : {P Q : Type 0} → (P → List Moment) → (Q → List Moment) → SpaceOrTablePass P Q → List Moment
spun_of space_spun table_spun (OfSpace p) = space_spun p
spun_of space_spun table_spun (OfTable p) = table_spun p

module _ {A T : Type 0} where
  abbrev pub holds_space : SpaceOrTable A T → Bool
  holds_space (Space s) = true
  holds_space (Table s) = false

  abbrev pub calls_of : (A → Plan) → (T → Plan) → SpaceOrTable A T → Plan
  calls_of space_calls table_calls (Space s) = space_calls s
  calls_of space_calls table_calls (Table s) = table_calls s

  -- the pass is one of an object of its kind, and this is so of both
  abbrev pub Matches : {P Q : Type 0} → (A → P → Type 0) → (T → Q → Type 0) → SpaceOrTable A T → SpaceOrTablePass P Q → Type 0
  Matches OnSpace OnTable (Space s) (OfSpace p) = OnSpace s p
  Matches OnSpace OnTable (Space s) (OfTable p) = ⊥
  Matches OnSpace OnTable (Table s) (OfSpace p) = ⊥
  Matches OnSpace OnTable (Table s) (OfTable p) = OnTable s p
