-- The lines of a script are calls of their objects, or signals.
use Rattle.std.proofs.Common.{◌≡◌, ℕ, zero, suc, ◌<◌, Bool, true, false, List, [], ◌∷◌, cond, map, refl, sym, ap, subst, ◌∙◌, arith, is_some, Some, inl, inr}
use Rattle.std.specs.Prelude.{◌⊎◌, filter, slice_get}
use Rattle.std.specs.List.{AllByRecursion}
use Rattle.std.proofs.lemmas.Bool.Decides.{nat_tests}
use Rattle.std.proofs.lemmas.Option.{same_Some}
use Rattle.word_bits.specs.declared.TheConstants.{MAX_TASKS}
use Rattle.word_bits.specs.CallKinds.{kind_number}
use Rattle.word_bits.specs.Calls.{first_in, mode_number, words_of, with_third}
use Rattle.word_bits.specs.Histories.{Plan}
use Rattle.word_bits.proofs.CallParts.{unthirded}
use Rattle.vma_map.specs.Spaces.{space, IsCall as IsSpaceCall, IsCallOf as IsSpaceCallOf, words_of_call as space_words_of}
use Rattle.vma_map.specs.Laws.SpaceCall.{call_of-complete as space_call_of}
use Rattle.fd_table.specs.Tables.{table, IsCall as IsTableCall, IsCallOf as IsTableCallOf, words_of_call as table_words_of}
use Rattle.fd_table.specs.Laws.TableCall.{call_of-complete as table_call_of}
use Rattle.lock_core.specs.Records.{row, IsCallOrSignal}
use Rattle.lock_core.proofs.RowLaws.{none-some, same-some}
use Rattle.task_script.specs.Scripts.{Declared, Listing, call_words, is_on, plan_of}
use Rattle.task_script.specs.Sound.{IsCall, IsLine, IsSound, only}
use Rattle.task_script.specs.Verbs.{arguments_of}
use Rattle.task_script.specs.Versions.{most_tasks}
use Rattle.mm_serve.specs.MachineHistories.{IsPlanOn}
use Rattle.mm_serve.specs.Machines.{staffed}
use Rattle.mm_serve.specs.Types.{CallWords, SpaceCall, Map, MapAny, MapNew, Unmap, Protect, Populate, Fault, Remap, TableCall, Open, Close, Dup, Dup2, Get, Line, Version, One, Two}

-- the tasks of a script are among those of a table
few_tasks : (version : Version) (task : ℕ) → task < most_tasks version → task < MAX_TASKS
few_tasks One task few = omega arith
few_tasks Two task few = omega arith

-- a plain signal to a task
signal_sent : (w : CallWords) (first : ℕ) → first < MAX_TASKS → w ≡ words_of 15 first 0 0 0 0 → IsCallOrSignal space w × IsCallOrSignal table w
signal_sent w first few is =
    let sent = words_of 15 first 0 0 0 0 in
    let target : first_in sent < MAX_TASKS = omega (arith, few) in (
      subst (λ (v : CallWords). IsCallOrSignal space v) (sym is) (inl (refl, (first_in sent, refl, target))),
      subst (λ (v : CallWords). IsCallOrSignal table v) (sym is) (inl (refl, (first_in sent, refl, target))),
    )

space_call : (w : CallWords) (call : SpaceCall) → IsSpaceCallOf w call → IsCallOrSignal space w
space_call w call is = inr (ap is_some (space_call_of w call is))

table_call : (w : CallWords) (call : TableCall) → IsTableCallOf w call → IsCallOrSignal table w
table_call w call is = inr (ap is_some (table_call_of w call is))

-- the fields of a call's words
abbrev kind : {version : Version} {is_space : Bool} {w : CallWords} → IsCall version is_space w → ℕ
kind is = kind_number is.verb

abbrev first : {version : Version} {is_space : Bool} {w : CallWords} → IsCall version is_space w → ℕ
first is = (only (arguments_of is.verb) is.values).first

abbrev second : {version : Version} {is_space : Bool} {w : CallWords} → IsCall version is_space w → ℕ
second is = (only (arguments_of is.verb) is.values).second

abbrev third : {version : Version} {is_space : Bool} {w : CallWords} → IsCall version is_space w → ℕ
third is = (only (arguments_of is.verb) is.values).third

abbrev prot : {version : Version} {is_space : Bool} {w : CallWords} → IsCall version is_space w → ℕ
prot is = (only (arguments_of is.verb) is.values).prot

abbrev access : {version : Version} {is_space : Bool} {w : CallWords} → IsCall version is_space w → ℕ
access is = (only (arguments_of is.verb) is.values).access

-- the words of these fields
abbrev fields : {version : Version} {is_space : Bool} {w : CallWords} → IsCall version is_space w → CallWords
fields is = with_third (words_of (kind is) (first is) (second is) (prot is) (access is) (mode_number is.mode)) (third is)

-- words of the kind of a signal are those of a plain one
signal_on : (version : Version) {is_space : Bool} (w : CallWords) (is : IsCall version is_space w) → kind is ≡ 15 → IsCallOrSignal space w × IsCallOrSignal table w
signal_on version w is k =
    let few : first is < most_tasks version = grind (arith, is.ranged, k) in
    let plain : mode_number is.mode ≡ 0 = grind (arith, is.moded, k) in
    let none : second is ≡ 0 = grind (arith, is.ranged, k) in
    let no_third : third is ≡ 0 = grind (arith, is.ranged, k) in
    let no_prot : prot is ≡ 0 = grind (arith, is.ranged, k) in
    let no_access : access is ≡ 0 = grind (arith, is.ranged, k) in
    let words : w ≡ with_third (words_of 15 (first is) 0 0 0 0) 0 = is.words ∙ (λ i. with_third (words_of (k i) (first is) (none i) (no_prot i) (no_access i) (plain i)) (no_third i)) in
    signal_sent w (first is) (few_tasks version (first is) few) (words ∙ sym (unthirded (words_of 15 (first is) 0 0 0 0)))

-- words of no third number are those of a call that has none
space_words : {version : Version} (w : CallWords) (is : IsCall version true w) (call : SpaceCall) → IsSpaceCall call × (with_third (space_words_of call is.mode) 0 ≡ fields is) → IsCallOrSignal space w
space_words w is call (valid, same) = space_call w call (valid, (is.mode, unthirded (space_words_of call is.mode) ∙ same ∙ sym is.words))

remap_words : {version : Version} (w : CallWords) (is : IsCall version true w) (call : SpaceCall) → IsSpaceCall call × (space_words_of call is.mode ≡ fields is) → IsCallOrSignal space w
remap_words w is call (valid, same) = space_call w call (valid, (is.mode, same ∙ sym is.words))

table_words : {version : Version} (w : CallWords) (is : IsCall version false w) (call : TableCall) → IsTableCall call × (with_third (table_words_of call is.mode) 0 ≡ fields is) → IsCallOrSignal table w
table_words w is call (valid, same) = table_call w call (valid, (is.mode, unthirded (table_words_of call is.mode) ∙ same ∙ sym is.words))

-- a call on a space is one of its calls, or a signal
space_on : (version : Version) (w : CallWords) (is : IsCall version true w) → IsCallOrSignal space w
space_on version w is = go (grind (arith, is.known))
  where
    go : (kind is ≡ 1) ⊎ (kind is ≡ 2) ⊎ (kind is ≡ 3) ⊎ (kind is ≡ 4) ⊎ (kind is ≡ 5) ⊎ (kind is ≡ 6) ⊎ (kind is ≡ 7) ⊎ (kind is ≡ 13) ⊎ (kind is ≡ 15) → IsCallOrSignal space w
    go (inl k) = space_words w is (Map (first is) (second is) (prot is)) (grind (arith, is.ranged, k))
    go (inr (inl k)) = space_words w is (MapAny (first is) (prot is)) (grind (arith, is.ranged, k))
    go (inr (inr (inl k))) = space_words w is (MapNew (first is) (second is) (prot is)) (grind (arith, is.ranged, k))
    go (inr (inr (inr (inl k)))) = space_words w is (Unmap (first is) (second is)) (grind (arith, is.ranged, k))
    go (inr (inr (inr (inr (inl k))))) = space_words w is (Protect (first is) (second is) (prot is)) (grind (arith, is.ranged, k))
    go (inr (inr (inr (inr (inr (inl k)))))) = space_words w is (Populate (first is) (second is) (prot is)) (grind (arith, is.ranged, k))
    go (inr (inr (inr (inr (inr (inr (inl k))))))) = space_words w is (Fault (first is) (access is)) (grind (arith, is.ranged, k))
    go (inr (inr (inr (inr (inr (inr (inr (inl k)))))))) = remap_words w is (Remap (first is) (second is) (third is)) (grind (arith, is.ranged, k))
    go (inr (inr (inr (inr (inr (inr (inr (inr k)))))))) = (signal_on version w is k).0

-- a call on a table is one of its calls, or a signal
table_on : (version : Version) (w : CallWords) (is : IsCall version false w) → IsCallOrSignal table w
table_on version w is = go (grind (arith, is.known))
  where
    go : (kind is ≡ 8) ⊎ (kind is ≡ 9) ⊎ (kind is ≡ 10) ⊎ (kind is ≡ 11) ⊎ (kind is ≡ 12) ⊎ (kind is ≡ 15) → IsCallOrSignal table w
    go (inl k) = table_words w is (Open (first is)) (grind (arith, is.ranged, k))
    go (inr (inl k)) = table_words w is (Close (first is)) (grind (arith, is.ranged, k))
    go (inr (inr (inl k))) = table_words w is (Dup (first is)) (grind (arith, is.ranged, k))
    go (inr (inr (inr (inl k)))) = table_words w is (Dup2 (first is) (second is)) (grind (arith, is.ranged, k))
    go (inr (inr (inr (inr (inl k))))) = table_words w is (Get (first is)) (grind (arith, is.ranged, k))
    go (inr (inr (inr (inr (inr k))))) = (signal_on version w is k).1

-- a call of this kind of object, or a signal
abbrev IsCallOn : (is_space : Bool) → CallWords → Type 0
IsCallOn true w = IsCallOrSignal space w
IsCallOn false w = IsCallOrSignal table w

call_on : (version : Version) (is_space : Bool) (w : CallWords) → IsCall version is_space w → IsCallOn is_space w
call_on version true w is = space_on version w is
call_on version false w is = table_on version w is

-- a line is a call of its object
line_on : (version : Version) (objects : List Declared) (l : Line) (object : ℕ) (d : Declared) → IsLine version objects l → is_on object l ≡ true → slice_get objects object ≡ Some d → IsCallOn d.is_space (call_words l)
line_on version objects l object d is on at =
    let same : l.object ≡ object = grind (arith, nat_tests) in
    let declared : is.declared ≡ d = same_Some is.declared d (sym is.place ∙ ap (slice_get objects) same ∙ at) in
    subst (λ e. IsCallOn e.is_space (call_words l)) declared (subst (IsCallOn is.declared.is_space) (sym (ap call_words is.words)) (call_on version is.declared.is_space is.call is.is))

task_on : (version : Version) (objects : List Declared) (object : ℕ) (d : Declared) (ls : List Line) → AllByRecursion (IsLine version objects) ls → slice_get objects object ≡ Some d → (c : ℕ) (w : CallWords) → slice_get (map call_words (filter (is_on object) ls)) c ≡ Some w → IsCallOn d.is_space w
task_on version objects object d [] each at c w has = none-some w has
task_on version objects object d (l ∷ ls) each at c w has = go (λ n more. task_on version objects object d ls each.1 at n w more) (is_on object l) refl c has
  where
    go : ((n : ℕ) → slice_get (map call_words (filter (is_on object) ls)) n ≡ Some w → IsCallOn d.is_space w) → (b : Bool) → is_on object l ≡ b → (c : ℕ) → slice_get (map call_words (cond b (l ∷ filter (is_on object) ls) (filter (is_on object) ls))) c ≡ Some w → IsCallOn d.is_space w
    go rest true on zero has = subst (IsCallOn d.is_space) (same-some (call_words l) w has) (line_on version objects l object d each.0 on at)
    go rest true on (suc c) has = rest c has
    go rest false on c has = rest c has

tasks_on : (version : Version) (objects : List Declared) (object : ℕ) (d : Declared) (lss : List (List Line)) → AllByRecursion (AllByRecursion (IsLine version objects)) lss → slice_get objects object ≡ Some d → (t c : ℕ) (w : CallWords) → slice_get (row (map (λ ls. map call_words (filter (is_on object) ls)) lss) t) c ≡ Some w → IsCallOn d.is_space w
tasks_on version objects object d [] each at t c w has = none-some w has
tasks_on version objects object d (ls ∷ lss) each at zero c w has = task_on version objects object d ls each.0 at c w has
tasks_on version objects object d (ls ∷ lss) each at (suc t) c w has = tasks_on version objects object d lss each.1 at t c w has

staffed_on : (plan : Plan) (is_space : Bool) → ((t c : ℕ) (w : CallWords) → slice_get (row plan t) c ≡ Some w → IsCallOn is_space w) → (t c : ℕ) (w : CallWords) → slice_get (row (staffed plan) t) c ≡ Some w → IsCallOn is_space w
staffed_on [] is_space each zero c w has = none-some w has
staffed_on [] is_space each (suc t) c w has = none-some w has
staffed_on (ws ∷ plan) is_space each t c w has = each t c w has

plan_on : (is_space : Bool) (plan : Plan) → ((t c : ℕ) (w : CallWords) → slice_get (row plan t) c ≡ Some w → IsCallOn is_space w) → IsPlanOn is_space plan
plan_on true plan each = each
plan_on false plan each = each

-- the calls of a script that are planned on an object are calls of its kind, or signals
pub planned_on : (s : Listing) (object : ℕ) (d : Declared) → IsSound s → slice_get s.objects object ≡ Some d → IsPlanOn d.is_space (staffed (plan_of s object))
planned_on s object d sound at = plan_on d.is_space (staffed (plan_of s object)) (staffed_on (plan_of s object) d.is_space (tasks_on s.version s.objects object d s.tasks sound.calls at))
