-- The name and the arguments of a call are kept as the words that mean the call.
use Rattle.std.proofs.Common.{◌≡◌, ℕ, ◌+◌, ◌*◌, ◌/◌, ◌%◌, ◌^◌, ◌<◌, ◌==◌, zero, suc, Bool, true, false, cond, List, [], ◌∷◌, ◌++◌, refl, ap, ◌∙◌, arith, Some, Ok, codes, nat_lt, inl, inr}
use Rattle.std.specs.Prelude.{decimal, flat_map}
use Rattle.std.specs.Str.{bytes_eq}
use Rattle.std.proofs.lemmas.Bool.Decides.{nat_tests}
use Rattle.word_bits.proofs.Modes.{mode_number-lt}
use Rattle.word_bits.proofs.CallParts.{unthirded}
use Rattle.word_bits.specs.CallKinds.{kind_of_number}
use Rattle.word_bits.specs.Calls.{words_of, with_third, mode_number, signal_of}
use Rattle.vma_map.specs.Spaces.{IsAccess}
use Rattle.vma_map.specs.Laws.SpaceCall as space_laws
use Rattle.vma_map.specs.declared.call.SpaceCall.TheVariants.{Fault}
use Rattle.fd_table.specs.Laws.TableCall as table_laws
use Rattle.task_script.specs.Tokens.{prot, access}
use Rattle.task_script.specs.Verbs.{call_on}
use Rattle.task_script.specs.Versions.{most_tasks}
use Rattle.task_script.specs.Texts.{prot_text, access_text, bare_text}
use Rattle.task_script.proofs.Decimals.{number-decimal}
use Rattle.task_script.proofs.Inner.{BeginsWithDigit, decimal_begins}
use Rattle.mm_report.specs.Meanings.{IsKeptAs, SpaceCallsAreNamed, TableCallsAreNamed, SignalsAreNamed}
use Rattle.mm_report.specs.Types.{CallWords, Mode, Plain, Int, Try, Map, MapAny, MapNew, Unmap, Protect, Populate, Remap, Open, Close, Dup, Dup2, Get, Version, One, Two}

-- a number isn't the word any
not_any : (ds : List ℕ) → BeginsWithDigit ds → bytes_eq ds (codes "any") ≡ false
not_any [] begins = absurd begins
not_any (d ∷ ds) begins = let other : (d == 97) ≡ false = grind (arith, nat_tests) in rw other refl

prot_read : (bits : ℕ) → bits < 8 → prot (prot_text bits) ≡ Some bits
prot_read zero small = refl
prot_read (suc zero) small = refl
prot_read (suc (suc zero)) small = refl
prot_read (suc (suc (suc zero))) small = refl
prot_read (suc (suc (suc (suc zero)))) small = refl
prot_read (suc (suc (suc (suc (suc zero))))) small = refl
prot_read (suc (suc (suc (suc (suc (suc zero)))))) small = refl
prot_read (suc (suc (suc (suc (suc (suc (suc zero))))))) small = refl
prot_read (suc (suc (suc (suc (suc (suc (suc (suc n)))))))) small = absurd (omega arith)

access_read : (bits : ℕ) → IsAccess bits → access (access_text bits) ≡ Some bits
access_read bits (inl is) = rw is refl
access_read bits (inr (inl is)) = rw is refl
access_read bits (inr (inr is)) = rw is refl

small_access : (bits : ℕ) → IsAccess bits → bits < 2 ^ 8
small_access bits (inl is) = omega arith
small_access bits (inr (inl is)) = omega arith
small_access bits (inr (inr is)) = omega arith

mode_numbered : (mode : Mode) → cond (mode_number mode == 1) Int (cond (mode_number mode == 2) Try Plain) ≡ mode
mode_numbered Plain = refl
mode_numbered Int = refl
mode_numbered Try = refl

-- packed words are told by what they were packed from
kept_as : (version : Version) (is_space : Bool) (mode : Mode) (name : List ℕ) (arguments : List (List ℕ)) (kind first second third p a : ℕ) → kind < 2 ^ 8 → first < 2 ^ 32 → p < 2 ^ 8 → a < 2 ^ 8
    → call_on version is_space mode name arguments ≡ Ok (with_third (words_of kind first second p a (mode_number mode)) third) → bare_text (record { first = first; second = second; third = third; prot = p; access = a }) (kind_of_number kind) ≡ name ++ flat_map (λ word. 32 ∷ word) arguments
    → IsKeptAs version is_space mode name arguments (with_third (words_of kind first second p a (mode_number mode)) third)
kept_as version is_space mode name arguments kind first second third p a k f p8 a8 read told =
    let w = with_third (words_of kind first second p a (mode_number mode)) third in
    let mode3 = mode_number-lt mode in
    let high : w.b / 2 ^ 24 % 2 ^ 8 ≡ mode_number mode = omega (arith, k, p8, a8, mode3) in
    let low : w.b % 2 ^ 8 ≡ kind = omega (arith, k, p8, a8, mode3) in
    let one : w.a % 2 ^ 32 ≡ first = omega arith in
    let two : w.a / 2 ^ 32 ≡ second = omega arith in
    let three : w.b / 2 ^ 32 ≡ third = omega (arith, k, p8, a8, mode3) in
    let bits : w.b / 2 ^ 8 % 2 ^ 8 ≡ p = omega (arith, k, p8, a8, mode3) in
    let accesses : w.b / 2 ^ 16 % 2 ^ 8 ≡ a = omega (arith, k, p8, a8, mode3) in record {
      read = read;
      moded = rw high (mode_numbered mode);
      told = (λ i. bare_text (record { first = one i; second = two i; third = three i; prot = bits i; access = accesses i }) (kind_of_number (low i))) ∙ told;
    }

pub space_calls_are_named : SpaceCallsAreNamed
space_calls_are_named version mode (Map start len bits) valid = record {
  kept = _;
  is = kept_as version true mode (codes "map") (decimal start ∷ decimal len ∷ prot_text bits ∷ []) 1 start len 0 bits 0 (omega arith) valid.0 (let small = valid.2 in omega (arith, small)) (omega arith)
      (rw (not_any (decimal start) (decimal_begins start), number-decimal start valid.0, number-decimal len valid.1, prot_read bits valid.2) refl) refl;
  meant = space_laws.call_of-complete _ (Map start len bits) (valid, (mode, unthirded _));
}
space_calls_are_named version mode (MapAny len bits) valid = record {
  kept = _;
  is = kept_as version true mode (codes "map") (codes "any" ∷ decimal len ∷ prot_text bits ∷ []) 2 len 0 0 bits 0 (omega arith) valid.0 (let small = valid.1 in omega (arith, small)) (omega arith)
      (rw (number-decimal len valid.0, prot_read bits valid.1) refl) refl;
  meant = space_laws.call_of-complete _ (MapAny len bits) (valid, (mode, unthirded _));
}
space_calls_are_named version mode (MapNew start len bits) valid = record {
  kept = _;
  is = kept_as version true mode (codes "mapnew") (decimal start ∷ decimal len ∷ prot_text bits ∷ []) 3 start len 0 bits 0 (omega arith) valid.0 (let small = valid.2 in omega (arith, small)) (omega arith)
      (rw (number-decimal start valid.0, number-decimal len valid.1, prot_read bits valid.2) refl) refl;
  meant = space_laws.call_of-complete _ (MapNew start len bits) (valid, (mode, unthirded _));
}
space_calls_are_named version mode (Unmap start len) valid = record {
  kept = _;
  is = kept_as version true mode (codes "unmap") (decimal start ∷ decimal len ∷ []) 4 start len 0 0 0 (omega arith) valid.0 (omega arith) (omega arith) (rw (number-decimal start valid.0, number-decimal len valid.1) refl) refl;
  meant = space_laws.call_of-complete _ (Unmap start len) (valid, (mode, unthirded _));
}
space_calls_are_named version mode (Protect start len bits) valid = record {
  kept = _;
  is = kept_as version true mode (codes "protect") (decimal start ∷ decimal len ∷ prot_text bits ∷ []) 5 start len 0 bits 0 (omega arith) valid.0 (let small = valid.2 in omega (arith, small)) (omega arith)
      (rw (number-decimal start valid.0, number-decimal len valid.1, prot_read bits valid.2) refl) refl;
  meant = space_laws.call_of-complete _ (Protect start len bits) (valid, (mode, unthirded _));
}
space_calls_are_named version mode (Populate start len bits) valid = record {
  kept = _;
  is = kept_as version true mode (codes "populate") (decimal start ∷ decimal len ∷ prot_text bits ∷ []) 6 start len 0 bits 0 (omega arith) valid.0 (let small = valid.2 in omega (arith, small)) (omega arith)
      (rw (number-decimal start valid.0, number-decimal len valid.1, prot_read bits valid.2) refl) refl;
  meant = space_laws.call_of-complete _ (Populate start len bits) (valid, (mode, unthirded _));
}
space_calls_are_named version mode (Fault page a) valid = record {
  kept = _;
  is = kept_as version true mode (codes "fault") (decimal page ∷ access_text a ∷ []) 7 page 0 0 0 a (omega arith) valid.0 (omega arith) (small_access a valid.1) (rw (number-decimal page valid.0, access_read a valid.1) refl) refl;
  meant = space_laws.call_of-complete _ (Fault page a) (valid, (mode, unthirded _));
}
space_calls_are_named version mode (Remap start len to) valid = λ second. record {
  kept = _;
  is = kept_as version true mode (codes "remap") (decimal start ∷ decimal len ∷ decimal to ∷ []) 13 start len to 0 0 (omega arith) valid.0 (omega arith) (omega arith) (rw (second, number-decimal start valid.0, number-decimal len valid.1, number-decimal to valid.2) refl) refl;
  meant = space_laws.call_of-complete _ (Remap start len to) (valid, (mode, refl));
}

pub table_calls_are_named : TableCallsAreNamed
table_calls_are_named version mode (Open file) valid = let test : nat_lt file 65536 ≡ true = grind (arith, nat_tests) in record {
  kept = _;
  is = kept_as version false mode (codes "open") (decimal file ∷ []) 8 file 0 0 0 0 (omega arith) (omega arith) (omega arith) (omega arith) (rw (number-decimal file (omega arith), test) refl) refl;
  meant = table_laws.call_of-complete _ (Open file) (valid, (mode, unthirded _));
}
table_calls_are_named version mode (Close fd) valid = record {
  kept = _;
  is = kept_as version false mode (codes "close") (decimal fd ∷ []) 9 fd 0 0 0 0 (omega arith) valid (omega arith) (omega arith) (rw (number-decimal fd valid) refl) refl;
  meant = table_laws.call_of-complete _ (Close fd) (valid, (mode, unthirded _));
}
table_calls_are_named version mode (Dup fd) valid = record {
  kept = _;
  is = kept_as version false mode (codes "dup") (decimal fd ∷ []) 10 fd 0 0 0 0 (omega arith) valid (omega arith) (omega arith) (rw (number-decimal fd valid) refl) refl;
  meant = table_laws.call_of-complete _ (Dup fd) (valid, (mode, unthirded _));
}
table_calls_are_named version mode (Dup2 fd to) valid = record {
  kept = _;
  is = kept_as version false mode (codes "dup2") (decimal fd ∷ decimal to ∷ []) 11 fd to 0 0 0 (omega arith) valid.0 (omega arith) (omega arith) (rw (number-decimal fd valid.0, number-decimal to valid.1) refl) refl;
  meant = table_laws.call_of-complete _ (Dup2 fd to) (valid, (mode, unthirded _));
}
table_calls_are_named version mode (Get fd) valid = record {
  kept = _;
  is = kept_as version false mode (codes "get") (decimal fd ∷ []) 12 fd 0 0 0 0 (omega arith) valid (omega arith) (omega arith) (rw (number-decimal fd valid) refl) refl;
  meant = table_laws.call_of-complete _ (Get fd) (valid, (mode, unthirded _));
}

small_task : (version : Version) (task : ℕ) → task < most_tasks version → task < 2 ^ 32
small_task One task few = omega arith
small_task Two task few = omega arith

pub signals_are_named : SignalsAreNamed
signals_are_named version is_space task few =
    let small = small_task version task few in
    let test : nat_lt task (most_tasks version) ≡ true = grind (arith, nat_tests) in
    let first : (task + 0 * 2 ^ 32) % 2 ^ 32 ≡ task = omega (arith, small) in
    go is_space small test first
  where
    go : (is_space : Bool) → task < 2 ^ 32 → nat_lt task (most_tasks version) ≡ true → (task + 0 * 2 ^ 32) % 2 ^ 32 ≡ task → (kept : CallWords) × IsKeptAs version is_space Plain (codes "signal") (decimal task ∷ []) kept × (signal_of kept ≡ Some task)
    go true small test first = (_, kept_as version true Plain (codes "signal") (decimal task ∷ []) 15 task 0 0 0 0 (omega arith) small (omega arith) (omega arith) (rw (number-decimal task small, test) refl) refl, ap Some first)
    go false small test first = (_, kept_as version false Plain (codes "signal") (decimal task ∷ []) 15 task 0 0 0 0 (omega arith) small (omega arith) (omega arith) (rw (number-decimal task small, test) refl) refl, ap Some first)
