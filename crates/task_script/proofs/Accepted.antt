-- What follows where the grammar accepts a call.
use Rattle.std.proofs.Common.{◌≡◌, ℕ, ◌+◌, ◌^◌, ◌<◌, ◌≤◌, Bool, true, false, cond, not, ◌&&◌, ◌==◌, List, [], ◌∷◌, length, refl, sym, ap, ◌∙◌, subst, arith, codes, Option, Some, None, Result, Ok, Err, nat_lt, ok_or, inl, inr}
use Rattle.std.specs.List.{AllByRecursion, list_all}
use Rattle.std.specs.Str.{bytes_eq}
use Rattle.std.proofs.lemmas.Slice.Eq.{bytes_eq-Decides}
use Rattle.std.specs.Char.{is_ascii_digit}
use Rattle.std.proofs.lemmas.Bool.Decides.{nat_tests}
use Rattle.std.proofs.lemmas.Option.{same_Some}
use Rattle.task_script.specs.declared.reason.Reason.TheVariants.{Mode as NoMode}
use Rattle.task_script.specs.declared.version.Version.{Version}
use Rattle.task_script.specs.Tokens.{number, access, flag, all_flags, prot, leads_zero, value_after}
use Rattle.task_script.specs.Verbs.{and_then, number_below, with_argument, with_arguments, arguments_of, no_values, is_on_kind, takes_mode, space_verb, table_verb, verb_of, Begun, with_any, call_with, call_on, call_words_of}
use Rattle.task_script.specs.Sound.{IsAccess, IsInRange, only, IsCall}
use Rattle.task_script.specs.Types.{CallWords, Mode, CallKind, Map, MapAny, MapNew, Unmap, Protect, Populate, Fault, Open, Close, Dup, Dup2, Get, Remap, Signal, Reason, Words, Call, Number}
use Rattle.task_script.specs.Types.{Limit, Prot, Access, Argument, First, Second, Third, File, Target, Protection, AccessBit, Values}
use Rattle.task_script.specs.Versions.{has_remap, most_tasks}

-- what was accepted at last was so at first
pub and_then_ok : {A B : Type 0} (r : Result A Reason) (next : A → Result B Reason) (b : B) → and_then r next ≡ Ok b → (a : A) × (r ≡ Ok a) × (next a ≡ Ok b)
and_then_ok (Ok a) next b is = (a, refl, is)
and_then_ok (Err reason) next b is = cc

-- a value that was there
pub ok_or_ok : {A : Type 0} (o : Option A) (reason : Reason) (a : A) → ok_or o reason ≡ Ok a → o ≡ Some a
ok_or_ok None reason a is = cc
ok_or_ok (Some b) reason a is = let same : b ≡ a = cc in ap Some same

-- what passes a test
pub unless_refused : {A : Type 0} (refused : Bool) (reason : Reason) (r : Result A Reason) (a : A) → cond refused (Err reason) r ≡ Ok a → (refused ≡ false) × (r ≡ Ok a)
unless_refused true reason r a is = cc
unless_refused false reason r a is = (refl, is)

-- an access is one of three bits
access_is : (w : List ℕ) (bits : ℕ) → access w ≡ Some bits → IsAccess bits
access_is w bits is = go (bytes_eq w (codes "r")) (bytes_eq w (codes "w")) (bytes_eq w (codes "x")) is
  where
    go : (r w x : Bool) → cond r (Some 1) (cond w (Some 2) (cond x (Some 4) None)) ≡ Some bits → IsAccess bits
    go true w x is = inl (sym (same_Some 1 bits is))
    go false true x is = inr (inl (sym (same_Some 2 bits is)))
    go false false true is = inr (inr (sym (same_Some 4 bits is)))
    go false false false is = cc

-- a number has 32 bits
number_fits : (w : List ℕ) (n : ℕ) → number w ≡ Some n → n < 2 ^ 32
number_fits w n is = go (leads_zero w) (list_all is_ascii_digit w) (nat_lt (value_after 0 w) (2 ^ 32)) refl is
  where
    go : (zero digits small : Bool) → nat_lt (value_after 0 w) (2 ^ 32) ≡ small → cond zero None (cond (digits && small) (Some (value_after 0 w)) None) ≡ Some n → n < 2 ^ 32
    go true digits small test is = cc
    go false false small test is = cc
    go false true true test is = let same = same_Some (value_after 0 w) n is in grind (arith, nat_tests)
    go false true false test is = cc

-- a flag is at most its bit
flag_at_most : (letter bit byte n : ℕ) → flag letter bit byte ≡ Some n → n ≤ bit
flag_at_most letter bit byte n is = go (byte == 45) (byte == letter) is
  where
    go : (a b : Bool) → cond a (Some 0) (cond b (Some bit) None) ≡ Some n → n ≤ bit
    go true b is = let same = same_Some 0 n is in omega arith
    go false true is = let same = same_Some bit n is in omega arith
    go false false is = cc

-- a protection has three bits
prot_fits : (word : List ℕ) (bits : ℕ) → prot word ≡ Some bits → bits < 8
prot_fits [] bits is = cc
prot_fits (r ∷ []) bits is = cc
prot_fits (r ∷ w ∷ []) bits is = cc
prot_fits (r ∷ w ∷ x ∷ []) bits is = go (flag 114 1 r) (flag 119 2 w) (flag 120 4 x) (flag_at_most 114 1 r) (flag_at_most 119 2 w) (flag_at_most 120 4 x) is
  where
    go : (a b c : Option ℕ) → ((n : ℕ) → a ≡ Some n → n ≤ 1) → ((n : ℕ) → b ≡ Some n → n ≤ 2) → ((n : ℕ) → c ≡ Some n → n ≤ 4) → all_flags a b c ≡ Some bits → bits < 8
    go (Some a) (Some b) (Some c) read write execute is = let same = same_Some (a + b + c) bits is in omega (arith, read a refl, write b refl, execute c refl)
    go None b c read write execute is = cc
    go (Some a) None c read write execute is = cc
    go (Some a) (Some b) None read write execute is = cc
prot_fits (r ∷ w ∷ x ∷ more ∷ others) bits is = cc

-- what an argument says is in its range, and the others say what they said
abbrev pub Says : Version → Argument → (before now : Values) → Type 0
Says version First v u = (n : ℕ) × (n < 2 ^ 32) × (u ≡ record v { first = n })
Says version Second v u = (n : ℕ) × (n < 2 ^ 32) × (u ≡ record v { second = n })
Says version Third v u = (n : ℕ) × (n < 2 ^ 32) × (u ≡ record v { third = n })
Says version File v u = (n : ℕ) × (n < 65536) × (u ≡ record v { first = n })
Says version Target v u = (n : ℕ) × (n < most_tasks version) × (u ≡ record v { first = n })
Says version Protection v u = (n : ℕ) × (n < 8) × (u ≡ record v { prot = n })
Says version AccessBit v u = (n : ℕ) × IsAccess n × (u ≡ record v { access = n })

-- a number that an argument sets
set_number : (w : List ℕ) (set : ℕ → Values) (u : Values) → and_then (ok_or (number w) Number) (λ n. Ok (set n)) ≡ Ok u → (n : ℕ) × (n < 2 ^ 32) × (u ≡ set n)
set_number w set u is =
    let read = and_then_ok (ok_or (number w) Number) (λ n. Ok (set n)) u is in
    let same : set read.0 ≡ u = cc read.2 in
    (read.0, number_fits w read.0 (ok_or_ok (number w) Number read.0 read.1), sym same)

-- the same of one below a limit
set_below : (limit : ℕ) (reason : Reason) (w : List ℕ) (set : ℕ → Values) (u : Values) → and_then (number_below limit reason w) (λ n. Ok (set n)) ≡ Ok u → (n : ℕ) × (n < limit) × (u ≡ set n)
set_below limit reason w set u is =
    let read = and_then_ok (number_below limit reason w) (λ n. Ok (set n)) u is in
    let value = and_then_ok (ok_or (number w) Number) (λ n. cond (nat_lt n limit) (Ok n) (Err reason)) read.0 read.1 in
    let small = small_is value.0 read.0 (nat_lt value.0 limit) refl value.2 in
    let same : set read.0 ≡ u = cc read.2 in
    (read.0, small, sym same)
  where
    small_is : (n m : ℕ) (t : Bool) → nat_lt n limit ≡ t → cond t (Ok n) (Err reason) ≡ Ok m → m < limit
    small_is n m true test is = let same : n ≡ m = cc in grind (arith, nat_tests)
    small_is n m false test is = cc

says : (version : Version) (a : Argument) (w : List ℕ) (v u : Values) → with_argument version a w v ≡ Ok u → Says version a v u
says version First w v u is = set_number w (λ n. record v { first = n }) u is
says version Second w v u is = set_number w (λ n. record v { second = n }) u is
says version Third w v u is = set_number w (λ n. record v { third = n }) u is
says version File w v u is = set_below 65536 Number w (λ n. record v { first = n }) u is
says version Target w v u is = set_below (most_tasks version) Limit w (λ n. record v { first = n }) u is
says version Protection w v u is =
    let read = and_then_ok (ok_or (prot w) Prot) (λ n. Ok (record v { prot = n })) u is in
    let same : record v { prot = read.0 } ≡ u = cc read.2 in
    (read.0, prot_fits w read.0 (ok_or_ok (prot w) Prot read.0 read.1), sym same)
says version AccessBit w v u is =
    let read = and_then_ok (ok_or (access w) Access) (λ n. Ok (record v { access = n })) u is in
    let same : record v { access = read.0 } ≡ u = cc read.2 in
    (read.0, access_is w read.0 (ok_or_ok (access w) Access read.0 read.1), sym same)

-- all arguments say it, one after the other
abbrev pub SayAll : Version → List Argument → (before now : Values) → Type 0
SayAll version [] v u = u ≡ v
SayAll version (a ∷ arguments) v u = (m : Values) × Says version a v m × SayAll version arguments m u

say_all : (version : Version) (arguments : List Argument) (ws : List (List ℕ)) (v u : Values) → length ws ≡ length arguments → with_arguments version arguments ws v ≡ Ok u → SayAll version arguments v u
say_all version [] [] v u same is = let e : v ≡ u = cc in sym e
say_all version [] (w ∷ ws) v u same is = absurd (omega arith)
say_all version (a ∷ arguments) [] v u same is = absurd (omega arith)
say_all version (a ∷ arguments) (w ∷ ws) v u same is =
    let read = and_then_ok (with_argument version a w v) (with_arguments version arguments ws) u is in
    (read.0, says version a w v read.0 read.1, say_all version arguments ws read.0 u (omega arith) read.2)

-- what these arguments say is in their ranges, and nothing else is said
abbrev Ranged : Version → List Argument → Type 0
Ranged version arguments = (u : Values) → SayAll version arguments no_values u → AllByRecursion (IsInRange version u) arguments × (only arguments u ≡ u)

ranged_prot : (version : Version) → Ranged version (First ∷ Second ∷ Protection ∷ [])
ranged_prot version u s =
    let first = s.1 in
    let second = s.2.1 in
    let bits = s.2.2.1 in
    let is : u ≡ record { first = first.0; second = second.0; third = 0; prot = bits.0; access = 0 } = cc (s.2.2.2, bits.2, second.2, first.2) in
    rw is ((first.1, (second.1, (bits.1, tt))), refl)

ranged_length : (version : Version) → Ranged version (First ∷ Protection ∷ [])
ranged_length version u s =
    let first = s.1 in
    let bits = s.2.1 in
    let is : u ≡ record { first = first.0; second = 0; third = 0; prot = bits.0; access = 0 } = cc (s.2.2, bits.2, first.2) in
    rw is ((first.1, (bits.1, tt)), refl)

ranged_two : (version : Version) → Ranged version (First ∷ Second ∷ [])
ranged_two version u s =
    let first = s.1 in
    let second = s.2.1 in
    let is : u ≡ record { first = first.0; second = second.0; third = 0; prot = 0; access = 0 } = cc (s.2.2, second.2, first.2) in
    rw is ((first.1, (second.1, tt)), refl)

ranged_three : (version : Version) → Ranged version (First ∷ Second ∷ Third ∷ [])
ranged_three version u s =
    let first = s.1 in
    let second = s.2.1 in
    let third = s.2.2.1 in
    let is : u ≡ record { first = first.0; second = second.0; third = third.0; prot = 0; access = 0 } = cc (s.2.2.2, third.2, second.2, first.2) in
    rw is ((first.1, (second.1, (third.1, tt))), refl)

ranged_access : (version : Version) → Ranged version (First ∷ AccessBit ∷ [])
ranged_access version u s =
    let first = s.1 in
    let bits = s.2.1 in
    let is : u ≡ record { first = first.0; second = 0; third = 0; prot = 0; access = bits.0 } = cc (s.2.2, bits.2, first.2) in
    rw is ((first.1, (bits.1, tt)), refl)

ranged_one : (version : Version) → Ranged version (First ∷ [])
ranged_one version u s =
    let first = s.1 in
    let is : u ≡ record { first = first.0; second = 0; third = 0; prot = 0; access = 0 } = cc (s.2, first.2) in
    rw is ((first.1, tt), refl)

ranged_file : (version : Version) → Ranged version (File ∷ [])
ranged_file version u s =
    let first = s.1 in
    let is : u ≡ record { first = first.0; second = 0; third = 0; prot = 0; access = 0 } = cc (s.2, first.2) in
    rw is ((first.1, tt), refl)

ranged_target : (version : Version) → Ranged version (Target ∷ [])
ranged_target version u s =
    let first = s.1 in
    let is : u ≡ record { first = first.0; second = 0; third = 0; prot = 0; access = 0 } = cc (s.2, first.2) in
    rw is ((first.1, tt), refl)

ranged : (version : Version) (verb : CallKind) → Ranged version (arguments_of verb)
ranged version Map = ranged_prot version
ranged version MapAny = ranged_length version
ranged version MapNew = ranged_prot version
ranged version Unmap = ranged_two version
ranged version Protect = ranged_prot version
ranged version Populate = ranged_prot version
ranged version Fault = ranged_access version
ranged version Open = ranged_file version
ranged version Close = ranged_one version
ranged version Dup = ranged_one version
ranged version Dup2 = ranged_two version
ranged version Get = ranged_one version
ranged version Remap = ranged_three version
ranged version Signal = ranged_target version

-- the words of an accepted call
call_with_is : (version : Version) (is_space : Bool) (mode : Mode) (c : Begun) (w : CallWords) → is_on_kind version is_space c.verb ≡ true → call_with version mode c ≡ Ok w → IsCall version is_space w × (length c.behind ≡ length (arguments_of c.verb))
call_with_is version is_space mode c w known is =
    let moded = unless_refused (not (takes_mode c.verb mode)) NoMode _ w is in
    let counted = unless_refused (not (length c.behind == length (arguments_of c.verb))) Words _ w moded.1 in
    let count : length c.behind ≡ length (arguments_of c.verb) = counts (length c.behind) (length (arguments_of c.verb)) counted.0 in
    let read = and_then_ok (with_arguments version (arguments_of c.verb) c.behind no_values) (λ v. Ok (call_words_of c.verb mode v)) w counted.1 in
    let in_range = ranged version c.verb read.0 (say_all version (arguments_of c.verb) c.behind no_values read.0 count read.1) in
    let words : call_words_of c.verb mode read.0 ≡ w = cc read.2 in (
      record {
        verb = c.verb;
        mode = mode;
        values = read.0;
        known = known;
        moded = truly (takes_mode c.verb mode) moded.0;
        ranged = in_range.0;
        words = sym words ∙ ap (call_words_of c.verb mode) (sym in_range.1);
      },
      count,
    )
  where
    truly : (b : Bool) → not b ≡ false → b ≡ true
    truly true is = refl
    truly false is = cc

    counts : (m n : ℕ) → not (m == n) ≡ false → m ≡ n
    counts m n is = grind (arith, nat_tests)

-- a verb of a kind of object is on it, and has at least three letters
abbrev IsVerbOf : Version → Bool → List ℕ → CallKind → Type 0
IsVerbOf version is_space w verb = (is_on_kind version is_space verb ≡ true) × (3 ≤ length w)

pub text_same : (w t : List ℕ) → bytes_eq w t ≡ true → w ≡ t
text_same w t same = (bytes_eq-Decides w t).0 same

same_text : (w t : List ℕ) → bytes_eq w t ≡ true → 3 ≤ length t → 3 ≤ length w
same_text w t same long = let e = text_same w t same in rw e long

space_verb_is : (version : Version) (w : List ℕ) (verb : CallKind) → space_verb version w ≡ Some verb → IsVerbOf version true w verb
space_verb_is version w verb is = go (bytes_eq w (codes "map")) (bytes_eq w (codes "mapnew")) (bytes_eq w (codes "unmap")) (bytes_eq w (codes "protect")) (bytes_eq w (codes "populate")) (bytes_eq w (codes "fault")) (bytes_eq w (codes "remap")) (has_remap version) (bytes_eq w (codes "signal")) refl refl refl refl refl refl refl refl refl is
  where
    made : (v : CallKind) (t : List ℕ) → bytes_eq w t ≡ true → 3 ≤ length t → is_on_kind version true v ≡ true → Some v ≡ Some verb → IsVerbOf version true w verb
    made v t same long on e = let is : v ≡ verb = cc in (subst (λ u. is_on_kind version true u ≡ true) is on, same_text w t same long)

    -- a remap is told from a version on that has it
    last : (g h : Bool) (k : Bool) → bytes_eq w (codes "remap") ≡ g → has_remap version ≡ h → bytes_eq w (codes "signal") ≡ k → cond (g && h) (Some Remap) (cond k (Some Signal) None) ≡ Some verb → IsVerbOf version true w verb
    last true true k pg ph pk is = made Remap (codes "remap") pg (omega arith) ph is
    last true false true pg ph pk is = made Signal (codes "signal") pk (omega arith) refl is
    last true false false pg ph pk is = cc
    last false h true pg ph pk is = made Signal (codes "signal") pk (omega arith) refl is
    last false h false pg ph pk is = cc

    go : (a b c d e f g h k : Bool) → bytes_eq w (codes "map") ≡ a → bytes_eq w (codes "mapnew") ≡ b → bytes_eq w (codes "unmap") ≡ c → bytes_eq w (codes "protect") ≡ d → bytes_eq w (codes "populate") ≡ e → bytes_eq w (codes "fault") ≡ f → bytes_eq w (codes "remap") ≡ g → has_remap version ≡ h → bytes_eq w (codes "signal") ≡ k
        → cond a (Some Map) (cond b (Some MapNew) (cond c (Some Unmap) (cond d (Some Protect) (cond e (Some Populate) (cond f (Some Fault) (cond (g && h) (Some Remap) (cond k (Some Signal) None))))))) ≡ Some verb → IsVerbOf version true w verb
    go true b c d e f g h k pa pb pc pd pe pf pg ph pk is = made Map (codes "map") pa (omega arith) refl is
    go false true c d e f g h k pa pb pc pd pe pf pg ph pk is = made MapNew (codes "mapnew") pb (omega arith) refl is
    go false false true d e f g h k pa pb pc pd pe pf pg ph pk is = made Unmap (codes "unmap") pc (omega arith) refl is
    go false false false true e f g h k pa pb pc pd pe pf pg ph pk is = made Protect (codes "protect") pd (omega arith) refl is
    go false false false false true f g h k pa pb pc pd pe pf pg ph pk is = made Populate (codes "populate") pe (omega arith) refl is
    go false false false false false true g h k pa pb pc pd pe pf pg ph pk is = made Fault (codes "fault") pf (omega arith) refl is
    go false false false false false false g h k pa pb pc pd pe pf pg ph pk is = last g h k pg ph pk is

table_verb_is : (version : Version) (w : List ℕ) (verb : CallKind) → table_verb w ≡ Some verb → IsVerbOf version false w verb
table_verb_is version w verb is = go (bytes_eq w (codes "open")) (bytes_eq w (codes "close")) (bytes_eq w (codes "dup")) (bytes_eq w (codes "dup2")) (bytes_eq w (codes "get")) (bytes_eq w (codes "signal")) refl refl refl refl refl refl is
  where
    made : (v : CallKind) (t : List ℕ) → bytes_eq w t ≡ true → 3 ≤ length t → is_on_kind version false v ≡ true → Some v ≡ Some verb → IsVerbOf version false w verb
    made v t same long on e = let is : v ≡ verb = cc in (subst (λ u. is_on_kind version false u ≡ true) is on, same_text w t same long)

    go : (a b c d e f : Bool) → bytes_eq w (codes "open") ≡ a → bytes_eq w (codes "close") ≡ b → bytes_eq w (codes "dup") ≡ c → bytes_eq w (codes "dup2") ≡ d → bytes_eq w (codes "get") ≡ e → bytes_eq w (codes "signal") ≡ f
        → cond a (Some Open) (cond b (Some Close) (cond c (Some Dup) (cond d (Some Dup2) (cond e (Some Get) (cond f (Some Signal) None))))) ≡ Some verb → IsVerbOf version false w verb
    go true b c d e f pa pb pc pd pe pf is = made Open (codes "open") pa (omega arith) refl is
    go false true c d e f pa pb pc pd pe pf is = made Close (codes "close") pb (omega arith) refl is
    go false false true d e f pa pb pc pd pe pf is = made Dup (codes "dup") pc (omega arith) refl is
    go false false false true e f pa pb pc pd pe pf is = made Dup2 (codes "dup2") pd (omega arith) refl is
    go false false false false true f pa pb pc pd pe pf is = made Get (codes "get") pe (omega arith) refl is
    go false false false false false true pa pb pc pd pe pf is = made Signal (codes "signal") pf (omega arith) refl is
    go false false false false false false pa pb pc pd pe pf is = cc

verb_is : (version : Version) (is_space : Bool) (w : List ℕ) (verb : CallKind) → verb_of version is_space w ≡ Some verb → IsVerbOf version is_space w verb
verb_is version true w verb is = space_verb_is version w verb is
verb_is version false w verb is = table_verb_is version w verb is

-- map and any are on a space as map is
with_any_on : (version : Version) (is_space : Bool) (verb : CallKind) (ws : List (List ℕ)) → is_on_kind version is_space verb ≡ true → is_on_kind version is_space (with_any verb ws).verb ≡ true
with_any_on version is_space Map [] on = on
with_any_on version is_space Map (w ∷ ws) on = go (bytes_eq w (codes "any"))
  where
    go : (b : Bool) → is_on_kind version is_space (cond b (record { verb = MapAny; behind = ws }) (let c : Begun = record { verb = Map; behind = w ∷ ws } in c)).verb ≡ true
    go true = on
    go false = on
with_any_on version is_space MapAny ws on = on
with_any_on version is_space MapNew ws on = on
with_any_on version is_space Unmap ws on = on
with_any_on version is_space Protect ws on = on
with_any_on version is_space Populate ws on = on
with_any_on version is_space Fault ws on = on
with_any_on version is_space Open ws on = on
with_any_on version is_space Close ws on = on
with_any_on version is_space Dup ws on = on
with_any_on version is_space Dup2 ws on = on
with_any_on version is_space Get ws on = on
with_any_on version is_space Remap ws on = on
with_any_on version is_space Signal ws on = on

-- and leave at most as many words
with_any_behind : (verb : CallKind) (ws : List (List ℕ)) → length (with_any verb ws).behind ≤ length ws
with_any_behind Map [] = omega arith
with_any_behind Map (w ∷ ws) = go (bytes_eq w (codes "any"))
  where
    go : (b : Bool) → length (cond b (record { verb = MapAny; behind = ws }) (let c : Begun = record { verb = Map; behind = w ∷ ws } in c)).behind ≤ length (w ∷ ws)
    go true = omega arith
    go false = omega arith
with_any_behind MapAny ws = omega arith
with_any_behind MapNew ws = omega arith
with_any_behind Unmap ws = omega arith
with_any_behind Protect ws = omega arith
with_any_behind Populate ws = omega arith
with_any_behind Fault ws = omega arith
with_any_behind Open ws = omega arith
with_any_behind Close ws = omega arith
with_any_behind Dup ws = omega arith
with_any_behind Dup2 ws = omega arith
with_any_behind Get ws = omega arith
with_any_behind Remap ws = omega arith
with_any_behind Signal ws = omega arith

some_argument : (verb : CallKind) → 1 ≤ length (arguments_of verb)
some_argument Map = omega arith
some_argument MapAny = omega arith
some_argument MapNew = omega arith
some_argument Unmap = omega arith
some_argument Protect = omega arith
some_argument Populate = omega arith
some_argument Fault = omega arith
some_argument Open = omega arith
some_argument Close = omega arith
some_argument Dup = omega arith
some_argument Dup2 = omega arith
some_argument Get = omega arith
some_argument Remap = omega arith
some_argument Signal = omega arith

-- an accepted call is one of the object, and takes a verb of at least three letters and an argument
pub record IsAccepted (version : Version) (is_space : Bool) (w : List ℕ) (ws : List (List ℕ)) (c : CallWords) : Type 0 where
  pub call : IsCall version is_space c
  pub verb : 3 ≤ length w
  pub arguments : 1 ≤ length ws

pub accepted_call : (version : Version) (is_space : Bool) (mode : Mode) (w : List ℕ) (ws : List (List ℕ)) (c : CallWords) → call_on version is_space mode w ws ≡ Ok c → IsAccepted version is_space w ws c
accepted_call version is_space mode w ws c is =
    let read = and_then_ok (ok_or (verb_of version is_space w) Call) (λ verb. call_with version mode (with_any verb ws)) c is in
    let verb = verb_is version is_space w read.0 (ok_or_ok (verb_of version is_space w) Call read.0 read.1) in
    let call = call_with_is version is_space mode (with_any read.0 ws) c (with_any_on version is_space read.0 ws verb.0) read.2 in
    let count = call.1 in
    let some = some_argument (with_any read.0 ws).verb in
    let behind = with_any_behind read.0 ws in
    record { call = call.0; verb = verb.1; arguments = omega arith }
