-- Which words a mutex or a semaphore can have: those that decoding tells.
use Rattle.std.specs.Prelude.{◌≡◌, ℕ, ◌↔◌}
use Rattle.word_bits.specs.declared.owner.Owner.{Owner}
use Rattle.word_bits.specs.declared.count.Count.{Count}
use Rattle.word_bits.specs.OwnerWord.{owner_word}
use Rattle.word_bits.specs.CountWord.{count_word}
use Rattle.lock_decode.specs.Here.{IsMutexOwner, IsSemaphoreCount}
use Rattle.mutex_word.specs.Owners.{Mutex, States as StatesMutex}
use Rattle.rwsem_count.specs.CountSemaphores.{Semaphore, States as StatesSemaphore}

-- the word states some mutex, exactly where it is the word of an owner that a lock can have
abbrev pub OwnersAreTold : Type 0
OwnersAreTold = (word : ℕ) → ((m : Mutex) × StatesMutex word m) ↔ ((o : Owner) × IsMutexOwner o × (owner_word o ≡ word))

abbrev pub CountsAreTold : Type 0
CountsAreTold = (word : ℕ) → ((s : Semaphore) × StatesSemaphore word s) ↔ ((c : Count) × IsSemaphoreCount c × (count_word c ≡ word))
