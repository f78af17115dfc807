-- What each step makes of what a pass knows.
use Rattle.std.specs.Prelude.{◌≡◌, ℕ, zero, suc, ◌+◌, ◌-◌, ◌/◌, ◌==◌, ◌<◌, if◌then◌else◌}
use Rattle.osq_nodes.specs.OsqRuled.{V, stepped}
use Rattle.osq_nodes.specs.Types.{Place, Out, Cleared, Swapped, Linking, Waiting, Unlinked, Splicing, Relinking, Head, Granting}

-- the pass goes on to a place
abbrev pub placed : V → Place → V
placed v p = record v { ext = record v.ext { place = p }; steps = v.steps + 1 }

-- it has become the head
abbrev pub fronted : V → V
fronted v = record v { ext = record v.ext { place = Head }; steps = v.steps + 1; fronts = v.fronts + 1 }

-- where a swap of the tail leads that found n
abbrev pub swap_place : ℕ → Place
swap_place zero = Head
swap_place (suc p) = Swapped p

abbrev pub swapped : V → ℕ → V
swapped v n = stepped Cleared v (swap_place n) n

-- where a load of the own `locked` leads that found n
abbrev pub look_place : ℕ → Place
look_place n = if n == 1 then Head else Waiting

-- where an exchange leads that found n in place of `old`
abbrev pub try_place : Place → Place → ℕ → ℕ → Place
try_place from to old n = if n == old then to else from

-- where a swap of the own `next` for 0 leads that found n
abbrev pub take_place : (ℕ → Place) → Place → ℕ → Place
take_place to from zero = from
take_place to from (suc y) = to y

-- the code of a task, or 0
abbrev pub IsCodeOrNone : ℕ → ℕ → Type 0
IsCodeOrNone size n = (p : ℕ) → n ≡ suc p → p < size

-- where a task goes on to from its place

abbrev pub linking_of : Place → Place
linking_of (Swapped p) = Linking p
linking_of _ = Out

abbrev pub relinking_of : Place → Place
relinking_of (Splicing p n) = Relinking p n
relinking_of _ = Out

abbrev pub taking_of : Place → ℕ → Place
taking_of (Unlinked p) n = Splicing p n
taking_of _ n = Granting n

-- the task whose `next` stands there
abbrev pub task_at : ℕ → ℕ
task_at at = (at - 64) / 32
