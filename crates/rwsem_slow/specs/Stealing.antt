-- How a reader comes to hold by the bias that its first addition left in the count, though tasks wait.
use Rattle.std.specs.Prelude.{◌≡◌, ℕ, ◌+◌, ◌/◌, ◌%◌, ◌^◌, ◌<◌, ◌⊎◌}
use Rattle.word_bits.specs.Objects.{Obj}
use Rattle.rwsem_slow.specs.Types.{How, Fast, Spun, Slept, Shared, Bias, Clear, Transit, Reserve, RwSemHand}
use Rattle.lock_core.specs.Kinds.{lets_in, semaphore}
use Rattle.lock_core.specs.SitePlays.{Sat, Turns}
use Rattle.lock_core.specs.Shown.{LeavesHold, Shown}
use Rattle.lock_core.specs.Views.{ticked}
use Rattle.rwsem_wake.specs.GrantQueues.{GetsSem}
use Rattle.rwsem_wake.specs.RwSemViews.{with_sem, with_wake}

-- the count that the addition of a bias left
abbrev pub left_by : Bias → ℕ
left_by Clear = 0
left_by (Transit word) = word + 256
left_by (Reserve word) = word + 256

-- the owner hint says that readers hold, and the count has more than the one that has just been added
abbrev pub IsShared : (left hint : ℕ) → Type 0
IsShared left hint = (hint % 8 ≡ 1) × (1 < left % 2 ^ 63 / 256)

-- a reader whose addition left this count may hold by its bias where the owner hint is so
abbrev pub MaySteal : (left hint : ℕ) → Type 0
MaySteal left hint = lets_in semaphore left × (IsShared left hint → ⊥)

-- a reader whose bias is in the count looked at the owner hint, and holds by its bias where it may
abbrev pub StealsBy : {Call : Type 0} → Obj Call → Sat RwSemHand → ℕ → Sat RwSemHand → Type 0
StealsBy o m n m' = (MaySteal (left_by m.0.ext.sem.bias) n → GetsSem with_sem with_wake o Shared (record m.0.ext.sem { bias = Clear }) m.0.ext.wake m m')
    × ((MaySteal (left_by m.0.ext.sem.bias) n → ⊥) → Turns m (ticked m.0) m')

-- How a reader went on whose addition left this count, and didn't let it in at once: by way of the wait lock, with the list or without, or by its bias, by which its next step left it holding.
abbrev pub WentOn : (left : ℕ) → How → Shown → Shown → Type 0
WentOn left Fast v u = ⊥
WentOn left Spun v u = ((v.spin.entries < u.spin.entries) ⊎ (lets_in semaphore left × (u.hand.saw ≡ v.hand.saw) × LeavesHold (v.steps + 1) Shared v u)) × (u.fronts ≡ v.fronts)
    × (u.hand.misses ≡ v.hand.misses) × (u.line.appends ≡ v.line.appends)
WentOn left Slept v u = (v.spin.entries < u.spin.entries) × (u.fronts ≡ v.fronts) × (u.hand.misses ≡ v.hand.misses) × (u.line.appends ≡ v.line.appends + 1)
