-- A list that changes beside a word which stays.
use Rattle.std.proofs.Common.{◌≡◌, ℕ, suc, ◌<◌, true, false, List, [], ◌∷◌, length, take, drop, None, refl, sym, ◌∙◌, arith}
use Rattle.std.specs.Prelude.{All, remove}
use Rattle.std.proofs.lemmas.List.Elements.{All-append, All-take, All-drop}
use Rattle.mutex_word.specs.Owners.{Mutex, is_waited, States}

-- the list stays empty, or stays one that isn't
pub waited_alike : (word : ℕ) (m : Mutex) (rest : List ℕ) → is_waited m.waiting ≡ is_waited rest → States word m → States word (record m { waiting = rest })
waited_alike word m rest e s =
    let d = s.describes in record {
      owner = s.owner;
      ranged = s.ranged;
      is = s.is;
      describes = record {
        holder = d.holder;
        picked = d.picked;
        waiters = d.waiters ∙ e;
        nobody = d.nobody;
        asked = λ h. (sym e ∙ (d.asked h).0, (d.asked h).1);
        handed = λ h. sym e ∙ d.handed h;
      };
    }

pub some_wait : (tasks : List ℕ) → 0 < length tasks → is_waited tasks ≡ true
some_wait [] some = absurd (omega arith)
some_wait (t ∷ ts) some = refl

-- what is so of each is so of all but one
pub all_but_one : (P : ℕ → Type 0) (xs : List ℕ) (i : ℕ) → All P xs → All P (remove xs i)
all_but_one P xs i all = All-append P (take i xs) (drop (suc i) xs) (All-take P i xs all) (All-drop P (suc i) xs all)

-- a free mutex
pub free : States 0 (record { holder = None; picked = None; waiting = [] })
free = record {
  owner = record { task = None; waiters = false; handoff = false; pickup = false };
  ranged = tt;
  is = refl;
  describes = record { holder = refl; picked = refl; waiters = refl; nobody = λ e. (refl, refl); asked = λ e. cc; handed = λ e. cc };
}
