-- Which words a mutex or a semaphore can have.
use Rattle.std.proofs.Common.{◌≡◌, ℕ, Bool, true, false, List, [], ◌∷◌, Option, Some, None, is_some, refl, sym, ◌∙◌, arith}
use Rattle.word_bits.specs.declared.owner.Owner.{Owner}
use Rattle.mutex_word.specs.Owners.{Mutex, Describes as DescribesMutex, holder_of, picked_of, is_waited}
use Rattle.rwsem_count.specs.CountSemaphores.{is_waited as is_waited_for}
use Rattle.lock_courses.specs.Laws.{OwnersAreTold, CountsAreTold}

abbrev some_list : Bool → List ℕ
some_list true = 0 ∷ []
some_list false = []

is_listed : (b : Bool) → b ≡ is_waited (some_list b)
is_listed true = refl
is_listed false = refl

is_listed_for : (b : Bool) → b ≡ is_waited_for (some_list b)
is_listed_for true = refl
is_listed_for false = refl

abbrev some_task : Bool → Option ℕ
some_task true = Some 0
some_task false = None

is_there : (b : Bool) → b ≡ is_some (some_task b)
is_there true = refl
is_there false = refl

named : (t : Option ℕ) {P : Type 0} → (t ≡ None → P) → (P → ⊥) → is_some t ≡ true
named None none not = absurd (not (none refl))
named (Some task) none not = refl

unnamed : (t : Option ℕ) → t ≡ None → is_some t ≡ true → ⊥
unnamed None e n = cc
unnamed (Some task) e n = cc

both : (b : Bool) → b ≡ true → b ≡ false → ⊥
both b t f = cc

not_true : (b : Bool) → (b ≡ true → ⊥) → b ≡ false
not_true true isnt = absurd (isnt refl)
not_true false isnt = refl

told_owner : (o : Owner) (m : Mutex) → DescribesMutex o m → (o.handoff ≡ true → (is_some o.task ≡ true) × (o.waiters ≡ true)) × (o.pickup ≡ true → (is_some o.task ≡ true) × (o.waiters ≡ true))
told_owner o m d =
    (λ e. (named o.task d.nobody (λ none. both o.handoff e none.0), d.waiters ∙ (d.asked e).0), λ e. (named o.task d.nobody (λ none. both o.pickup e none.1), d.waiters ∙ d.handed e))

pub owners_are_told : OwnersAreTold
owners_are_told word = (
  λ s. let d = s.1.describes in let t = told_owner s.1.owner s.0 d in (s.1.owner, record { ranged = s.1.ranged; flags = record { once = λ e. (d.asked e).1; asks = t.0; picks = t.1 } }, s.1.is),
  λ p. let o = p.0 in let f = p.1.flags in (
    record { holder = holder_of o; picked = picked_of o; waiting = some_list o.waiters },
    record {
      owner = o;
      ranged = p.1.ranged;
      is = p.2;
      describes = record {
        holder = refl;
        picked = refl;
        waiters = is_listed o.waiters;
        nobody = λ none. (not_true o.handoff (λ e. unnamed o.task none (f.asks e).0), not_true o.pickup (λ e. unnamed o.task none (f.picks e).0));
        asked = λ e. (sym (is_listed o.waiters) ∙ (f.asks e).1, f.once e);
        handed = λ e. sym (is_listed o.waiters) ∙ (f.picks e).1;
      };
    },
  ),
)

pub counts_are_told : CountsAreTold
counts_are_told word = (
  λ s. let d = s.1.describes in let r = d.readers in let w = d.few in (s.1.count, record { few = omega arith; asks = λ e. d.waiters ∙ d.handoff e; no_fail = d.no_fail }, s.1.is),
  λ p. let c = p.0 in let k = p.1 in let few = k.few in (
    record { writer = some_task c.writer; readers = []; biases = c.readers; waiting = some_list c.waiters; marked = false },
    record {
      count = c;
      ranged = omega arith;
      is = p.2;
      describes = record {
        writer = is_there c.writer;
        apart = λ e. refl;
        readers = omega arith;
        few = omega arith;
        waiters = is_listed_for c.waiters;
        handoff = λ e. sym (is_listed_for c.waiters) ∙ k.asks e;
        marked = λ e. cc;
        no_fail = k.no_fail;
      };
    },
  ),
)
