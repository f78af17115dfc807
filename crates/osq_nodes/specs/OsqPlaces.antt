-- What the place of a task says of it.
use Rattle.std.specs.Prelude.{◌≡◌, ℕ, suc, ◌⊎◌, ◌==◌, Bool, true, false, if◌then◌else◌, List, [], ◌∷◌, slice_index, Option, None, Some}
use Rattle.osq_nodes.specs.Types.{Place, Out, Cleared, Swapped, Linking, Waiting, Unlinked, Splicing, Relinking, Head, Granting, Node}

-- the code of the task that a node stands behind: what its tail swap found until it has stored its own `prev`, and that word from then on
abbrev pub back_of : Place → ℕ → ℕ
back_of Out prev = prev
back_of Cleared prev = prev
back_of (Swapped p) prev = suc p
back_of (Linking p) prev = prev
back_of Waiting prev = prev
back_of (Unlinked p) prev = prev
back_of (Splicing p n) prev = prev
back_of (Relinking p n) prev = prev
back_of Head prev = prev
back_of (Granting n) prev = prev

-- a head node: one that found the tail empty, was granted, holds or is releasing
abbrev pub IsHeadNode : Place → ℕ → Type 0
IsHeadNode Out locked = ⊥
IsHeadNode Cleared locked = ⊥
IsHeadNode (Swapped p) locked = locked ≡ 1
IsHeadNode (Linking p) locked = locked ≡ 1
IsHeadNode Waiting locked = locked ≡ 1
IsHeadNode (Unlinked p) locked = locked ≡ 1
IsHeadNode (Splicing p n) locked = locked ≡ 1
IsHeadNode (Relinking p n) locked = ⊥
IsHeadNode Head locked = Unit {0}
IsHeadNode (Granting n) locked = Unit {0}

-- the node of a task at this place stands in the queue
abbrev pub is_queued : Place → Bool
is_queued Out = false
is_queued Cleared = false
is_queued (Swapped p) = true
is_queued (Linking p) = true
is_queued Waiting = true
is_queued (Unlinked p) = true
is_queued (Splicing p n) = true
is_queued (Relinking p n) = false
is_queued Head = true
is_queued (Granting n) = true

-- the task d, at this place, owes the link from x to y: it stores it, or leaves, before it returns
abbrev pub Owes : ℕ → Place → ℕ → ℕ → Type 0
Owes d Out x y = ⊥
Owes d Cleared x y = ⊥
Owes d (Swapped p) x y = (p ≡ x) × (d ≡ y)
Owes d (Linking p) x y = (p ≡ x) × (d ≡ y)
Owes d Waiting x y = ⊥
Owes d (Unlinked p) x y = (p ≡ x) × (d ≡ y)
Owes d (Splicing p n) x y = ((p ≡ x) × (d ≡ y)) ⊎ ((d ≡ x) × (n ≡ y))
Owes d (Relinking p n) x y = (p ≡ x) × (n ≡ y)
Owes d Head x y = ⊥
Owes d (Granting n) x y = (d ≡ x) × (n ≡ y)

-- the place of a task that waits for a successor, or to be the last: it is the head, or has this predecessor and is leaving
abbrev pub waits_at : Option ℕ → Place
waits_at None = Head
waits_at (Some p) = Unlinked p

-- its place once it has its successor
abbrev pub takes_at : Option ℕ → ℕ → Place
takes_at None n = Granting n
takes_at (Some p) n = Splicing p n

-- the step between these places is a swap of the tail
abbrev pub is_swap : Place → Place → Bool
is_swap Cleared (Swapped p) = true
is_swap Cleared Head = true
is_swap p p' = false

-- the step between them makes the task the head
abbrev pub is_coming_first : Place → Place → Bool
is_coming_first Head p' = false
is_coming_first p Head = true
is_coming_first p p' = false

-- what a moment keeps of what a pass knows: its place as three numbers, its swaps, and what the last one found
abbrev pub numbers_of : Place → ℕ → ℕ → List ℕ
numbers_of Out s f = 0 ∷ 0 ∷ 0 ∷ s ∷ f ∷ []
numbers_of Cleared s f = 1 ∷ 0 ∷ 0 ∷ s ∷ f ∷ []
numbers_of (Swapped p) s f = 2 ∷ p ∷ 0 ∷ s ∷ f ∷ []
numbers_of (Linking p) s f = 3 ∷ p ∷ 0 ∷ s ∷ f ∷ []
numbers_of Waiting s f = 4 ∷ 0 ∷ 0 ∷ s ∷ f ∷ []
numbers_of (Unlinked p) s f = 5 ∷ p ∷ 0 ∷ s ∷ f ∷ []
numbers_of (Splicing p n) s f = 6 ∷ p ∷ n ∷ s ∷ f ∷ []
numbers_of (Relinking p n) s f = 7 ∷ p ∷ n ∷ s ∷ f ∷ []
numbers_of Head s f = 8 ∷ 0 ∷ 0 ∷ s ∷ f ∷ []
numbers_of (Granting n) s f = 9 ∷ 0 ∷ n ∷ s ∷ f ∷ []

abbrev pub node_marks : Node → List ℕ
node_marks x = numbers_of x.place x.swaps x.found

abbrev pub place_by : ℕ → ℕ → ℕ → Place
place_by kind p n = if kind == 1 then Cleared else if kind == 2 then Swapped p else if kind == 3 then Linking p else if kind == 4 then Waiting else if kind == 5 then Unlinked p
    else if kind == 6 then Splicing p n else if kind == 7 then Relinking p n else if kind == 8 then Head else if kind == 9 then Granting n else Out

-- the place that they say
abbrev pub place_in : List ℕ → Place
place_in ns = place_by (slice_index ns 0) (slice_index ns 1) (slice_index ns 2)

-- and the counts
abbrev pub swaps_in : List ℕ → ℕ
swaps_in ns = slice_index ns 3

abbrev pub found_in : List ℕ → ℕ
found_in ns = slice_index ns 4
