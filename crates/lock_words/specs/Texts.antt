-- The fields of words, and what they say.
use Rattle.std.specs.Prelude.{ℕ, zero, suc, ◌==◌, Bool, true, false, List, [], ◌++◌, Option, Some, None, codes, decimal, if◌then◌else◌}
use Rattle.word_bits.specs.declared.count.Count.{Count}
use Rattle.word_bits.specs.declared.spin.Spin.{Spin}
use Rattle.word_bits.specs.declared.spin.Tail.{Tail}
use Rattle.lock_words.specs.declared.texts.Who.{Who}
use Rattle.lock_words.specs.declared.texts.Who.TheVariants.{Nobody, Task, Address}
use Rattle.lock_words.specs.declared.texts.OwnerView.{OwnerView}
use Rattle.lock_words.specs.Numbers.{hex_text}

abbrev pub flag_text : Bool → List ℕ → List ℕ
flag_text is name = if is then name else []

abbrev pub who_text : Who → List ℕ
who_text Nobody = codes "nobody"
who_text (Task t) = codes "task " ++ decimal t
who_text (Address a) = codes "the task at " ++ hex_text a

abbrev pub owner_fields : OwnerView → List ℕ
owner_fields o = who_text o.who ++ flag_text o.waiters (codes ", WAITERS") ++ flag_text o.handoff (codes ", HANDOFF") ++ flag_text o.pickup (codes ", PICKUP")

abbrev pub holds_text : Who → (pickup : Bool) → List ℕ
holds_text who pickup = if pickup then codes "  nobody holds; " ++ who_text who ++ codes " is picked: no other can take\n" else codes "  " ++ who_text who ++ codes " holds\n"

abbrev pub waits_text : Bool → List ℕ
waits_text waiters = if waiters then codes "  tasks wait in the list\n" else codes "  nobody waits\n"

abbrev pub asks_text : Bool → List ℕ
asks_text handoff = if handoff then codes "  the first waiter asks: the holder hands over and doesn't let go first\n" else []

abbrev pub owner_says : OwnerView → List ℕ
owner_says o = holds_text o.who o.pickup ++ waits_text o.waiters ++ asks_text o.handoff

abbrev pub writes_text : Bool → List ℕ
writes_text writer = if writer then codes "  a writer holds\n" else codes "  no writer holds\n"

abbrev pub biases_text : ℕ → List ℕ
biases_text readers = decimal readers ++ (if readers == 1 then codes " bias" else codes " biases")

abbrev pub count_fields : Count → List ℕ
count_fields c = flag_text c.writer (codes "writer, ") ++ biases_text c.readers ++ flag_text c.waiters (codes ", WAITERS") ++ flag_text c.handoff (codes ", HANDOFF") ++ flag_text c.read_fail
    (codes ", READFAIL")

abbrev pub counted_text : (writer : Bool) → (readers : ℕ) → List ℕ
counted_text writer zero = codes "  no bias is counted\n"
counted_text true (suc n) = codes "  each bias is of a reader that tries to get in, or of a waker that looks\n"
counted_text false (suc n) = codes "  each bias is of a reader that holds, tries or is let in, or of a waker that looks\n"

abbrev pub read_fail_text : Bool → List ℕ
read_fail_text read_fail = if read_fail then codes "  so many readers are counted that no other may come in\n" else []

abbrev pub biased_asks_text : Bool → List ℕ
biased_asks_text handoff = if handoff then codes "  the first waiter asks: no new reader holds, and no writer but it while it is marked\n" else []

abbrev pub count_says : Count → List ℕ
count_says c = writes_text c.writer ++ counted_text c.writer c.readers ++ waits_text c.waiters ++ biased_asks_text c.handoff ++ read_fail_text c.read_fail

abbrev pub tail_text : Option Tail → List ℕ
tail_text None = []
tail_text (Some t) = codes ", tail CPU " ++ decimal t.cpu ++ codes " node " ++ decimal t.index

abbrev pub spin_fields : Spin → List ℕ
spin_fields s = (if s.locked then codes "locked" else codes "not locked") ++ flag_text s.pending (codes ", pending") ++ tail_text s.tail

abbrev pub spin_holds_text : Bool → List ℕ
spin_holds_text locked = if locked then codes "  a CPU holds\n" else codes "  nobody holds\n"

abbrev pub pending_says : Bool → List ℕ
pending_says pending = if pending then codes "  a CPU has set the pending bit: it is next, or is to clear the bit\n" else []

abbrev pub queue_says : Option ℕ → List ℕ
queue_says None = codes "  the queue is empty\n"
queue_says (Some cpu) = codes "  CPU " ++ decimal cpu ++ codes " is the last of the queue\n"

abbrev pub cpu_of : Option Tail → Option ℕ
cpu_of None = None
cpu_of (Some t) = Some t.cpu

abbrev pub spin_says : Spin → List ℕ
spin_says s = spin_holds_text s.locked ++ pending_says s.pending ++ queue_says (cpu_of s.tail)

abbrev pub queue_fields : Option ℕ → List ℕ
queue_fields None = codes "  no tail\n"
queue_fields (Some cpu) = codes "  tail CPU " ++ decimal cpu ++ codes "\n"

abbrev pub queue_text : Option ℕ → List ℕ
queue_text cpu = queue_fields cpu ++ queue_says cpu

abbrev pub blocker_text : Option ℕ → List ℕ
blocker_text None = codes "  nobody blocks\n  readers come in\n"
blocker_text (Some task) = codes "  task " ++ decimal task ++ codes " blocks\n" ++ codes "  no new reader holds; it holds alone once it has seen each count 0\n"

abbrev pub block_text : Bool → List ℕ
block_text blocked = if blocked then codes "  a writer blocks\n  no new reader holds; it holds once the counts add up to 0\n" else codes "  nobody blocks\n  readers come in\n"
