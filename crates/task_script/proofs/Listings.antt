-- What a script keeps, and what of it is read.
use Rattle.std.proofs.Common.{◌≡◌, ℕ, ◌+◌, ◌<◌, ◌≤◌, Bool, true, false, cond, not, zero, suc, List, [], ◌∷◌, ◌++◌, length, length-append, ◌&&◌, get_or, map, refl, sym, ap, subst, ◌∙◌, arith, Some, None, nat_lt, nat_eq, All, Result, Ok, Err, is_ok}
use Rattle.std.specs.Prelude.{slice_get, slice_set, position, OnOk}
use Rattle.std.specs.List.{position_or_len, AllByRecursion}
use Rattle.std.specs.Global.{Vec}
use Rattle.std.specs.Str.{bytes_eq}
use Rattle.std.specs.Cmp.Lexicographic.{pointwise}
use Rattle.std.proofs.lemmas.Bool.{and_parts, and_from}
use Rattle.std.proofs.lemmas.List.{length-map}
use Rattle.std.proofs.lemmas.List.Folds.{list_all-append}
use Rattle.std.proofs.lemmas.Slice.Eq.{bytes_eq-Decides}
use Rattle.std.proofs.lemmas.Option.{slice_get-map, slice_get-get_or, slice_get_read, slice_get_within, same_Some}
use Rattle.std.proofs.lemmas.Bool.Decides.{nat_tests}
use Rattle.arrayvec.specs.ArrayString.{ArrayString}
use Rattle.indexmap.specs.IndexMap.{insert_entry}
use Rattle.task_script.specs.declared.script.Line.{Line}
use Rattle.task_script.specs.declared.version.Version.{Version}
use Rattle.task_script.specs.declared.script.Kind.{Kind}
use Rattle.task_script.specs.declared.script.Kind.TheVariants.{Space, Table}
use Rattle.task_script.specs.Scripts.{Declared}
use Rattle.task_script.specs.Inside.{are_named, declared_of, is_space_kind, listing}
use Rattle.task_script.specs.Texts.{name_at}
use Rattle.task_script.specs.Tokens.{is_name}
use Rattle.task_script.specs.Types.{One, Two}
use Rattle.task_script.specs.Versions.{most_objects}
use Rattle.task_script.specs.Sound.{IsLine, AreNamed, IsSound}
use Rattle.task_script.specs.Grammar.{is_space_at, place_of, with_call}

-- the keys are looked through as the names are
position_or_len-declared : (name : List ℕ) (entries : List (ArrayString × Kind)) → position_or_len (λ (k : ArrayString). pointwise nat_eq name k.bytes) (map (λ (e : ArrayString × Kind). e.0) entries) ≡ position_or_len (λ (d : Declared). bytes_eq name d.name) (map declared_of entries)
position_or_len-declared name [] = refl
position_or_len-declared name (e ∷ entries) = ap (λ n. cond (not (bytes_eq name e.0.bytes)) (1 + n) 0) (position_or_len-declared name entries)

-- so a key's place is that of the name
pub place_kept : (name : List ℕ) (entries : List (ArrayString × Kind)) → position (λ (k : ArrayString). pointwise nat_eq name k.bytes) (map (λ (e : ArrayString × Kind). e.0) entries) ≡ place_of name (map declared_of entries)
place_kept name entries = rw (position_or_len-declared name entries, length-map, length-map) refl

-- an element that was read stands, mapped, at its place
pub mapped_at : {X Y : Type 0} (f : X → Y) (xs : List X) (i : ℕ) (x : X) → i < length (map f xs) → x ≡ get_or xs i x → slice_get (map f xs) i ≡ Some (f x)
mapped_at f xs i x within is = slice_get-map f xs i ∙ rw (slice_get_read xs (length xs) i x refl (rw length-map at within) is) refl

-- the name that is kept at a place is that of the object there
pub name_kept : (entries : List (ArrayString × Kind)) (i : ℕ) (e : ArrayString × Kind) → Some e ≡ slice_get entries i → slice_get (map (λ (d : Declared). d.name) (map declared_of entries)) i ≡ Some e.0.bytes
name_kept entries i e at = slice_get-map (λ (d : Declared). d.name) (map declared_of entries) i ∙ rw (slice_get-map declared_of entries i, ← at) refl

-- each object has a name
pub named_at : (before ds : List Declared) (i : ℕ) (name : List ℕ) → AreNamed before ds → slice_get (map (λ (d : Declared). d.name) ds) i ≡ Some name → is_name name ≡ true
named_at before [] i name named at = cc
named_at before (d ∷ ds) zero name named at = rw (← same_Some d.name name at) named.0
named_at before (d ∷ ds) (suc i) name named at = named_at (before ++ d ∷ []) ds i name named.2 at

-- each call is on a declared object
pub lines_declared : (version : Version) (objects : List Declared) (ls : List Line) → AllByRecursion (IsLine version objects) ls → All (λ (l : Line). l.object < length objects) ls
lines_declared version objects [] each i d within = absurd (omega arith)
lines_declared version objects (l ∷ ls) each zero d within = slice_get_within objects l.object each.0.declared each.0.place
lines_declared version objects (l ∷ ls) each (suc i) d within = lines_declared version objects ls each.1 i d (omega arith)

-- so are those of a task
pub task_declared : (version : Version) (objects : List Declared) (tasks : List (List Line)) (i : ℕ) (ls : List Line) → AllByRecursion (AllByRecursion (IsLine version objects)) tasks → slice_get tasks i ≡ Some ls → All (λ (l : Line). l.object < length objects) ls
task_declared version objects [] i ls each at = cc
task_declared version objects (ms ∷ more) zero ls each at = subst (All (λ (l : Line). l.object < length objects)) (same_Some ms ls at) (lines_declared version objects ms each.0)
task_declared version objects (ms ∷ more) (suc i) ls each at = task_declared version objects more i ls each.1 at

-- the kind that is kept at a place is that of the object there
pub kind_kept : (entries : List (ArrayString × Kind)) (i : ℕ) (kind : Kind) → slice_get (map (λ (e : ArrayString × Kind). e.1) entries) i ≡ Some kind → slice_get (map (λ (d : Declared). d.is_space) (map declared_of entries)) i ≡ Some (is_space_kind kind)
kind_kept [] i kind is = cc
kind_kept (e ∷ entries) zero kind is = ap (λ k. Some (is_space_kind k)) (same_Some e.1 kind is)
kind_kept (e ∷ entries) (suc i) kind is = kind_kept entries i kind is

-- what isn't a space is a table
pub table_other : (kind : Kind) → (kind ≡ Space → ⊥) → is_space_kind kind ≡ false
table_other Space other = absurd (other refl)
table_other Table other = refl

-- the same, as it is looked up
pub is_space_kept : (entries : List (ArrayString × Kind)) (i : ℕ) (kind : Kind) → slice_get (map (λ (e : ArrayString × Kind). e.1) entries) i ≡ Some kind → is_space_kind kind ≡ is_space_at (map declared_of entries) i
is_space_kept [] i kind is = cc
is_space_kept (e ∷ entries) zero kind is = ap is_space_kind (sym (same_Some e.1 kind is))
is_space_kept (e ∷ entries) (suc i) kind is = is_space_kept entries i kind is

-- a name that isn't there goes last
pub declared_last : (k : ArrayString) (kind : Kind) (entries : List (ArrayString × Kind)) → length entries ≤ position_or_len (λ (d : Declared). bytes_eq k.bytes d.name) (map declared_of entries)
    → map declared_of (insert_entry (λ (s t : ArrayString). pointwise nat_eq s.bytes t.bytes) entries k kind) ≡ map declared_of entries ++ declared_of (k, kind) ∷ []
declared_last k kind [] past = refl
declared_last k kind (e ∷ entries) past = go (bytes_eq k.bytes e.0.bytes) refl (declared_last k kind entries)
  where
    Inserted : List (ArrayString × Kind) → Type 0
    Inserted es = map declared_of (insert_entry (λ (s t : ArrayString). pointwise nat_eq s.bytes t.bytes) es k kind) ≡ map declared_of es ++ declared_of (k, kind) ∷ []

    go : (t : Bool) → bytes_eq k.bytes e.0.bytes ≡ t → (length entries ≤ position_or_len (λ (d : Declared). bytes_eq k.bytes d.name) (map declared_of entries) → Inserted entries) → Inserted (e ∷ entries)
    go true same rest = absurd (let z : position_or_len (λ (d : Declared). bytes_eq k.bytes d.name) (map declared_of (e ∷ entries)) ≡ 0 = rw same refl in omega arith)
    go false other rest =
        let more : position_or_len (λ (d : Declared). bytes_eq k.bytes d.name) (map declared_of (e ∷ entries)) ≡ 1 + position_or_len (λ (d : Declared). bytes_eq k.bytes d.name) (map declared_of entries) = rw other refl in
        rw other (ap (λ l. declared_of e ∷ l) (rest (omega arith)))

-- the same of a name that isn't declared
pub declared_new : (k : ArrayString) (kind : Kind) (entries : List (ArrayString × Kind)) → place_of k.bytes (map declared_of entries) ≡ None
    → map declared_of (insert_entry (λ (s t : ArrayString). pointwise nat_eq s.bytes t.bytes) entries k kind) ≡ map declared_of entries ++ declared_of (k, kind) ∷ []
declared_new k kind entries none = declared_last k kind entries (go (nat_lt (position_or_len (λ (d : Declared). bytes_eq k.bytes d.name) (map declared_of entries)) (length (map declared_of entries))) refl)
  where
    go : (t : Bool) → nat_lt (position_or_len (λ (d : Declared). bytes_eq k.bytes d.name) (map declared_of entries)) (length (map declared_of entries)) ≡ t → length entries ≤ position_or_len (λ (d : Declared). bytes_eq k.bytes d.name) (map declared_of entries)
    go true inside = let e = rw inside at none in cc
    go false outside = rw length-map at (let past : length (map declared_of entries) ≤ position_or_len (λ (d : Declared). bytes_eq k.bytes d.name) (map declared_of entries) = grind (arith, nat_tests) in past)

-- a name that is found is one
named_place : (name : List ℕ) (ds : List Declared) → are_named ds ≡ true → position_or_len (λ (d : Declared). bytes_eq name d.name) ds < length ds → is_name name ≡ true
named_place name [] named within = absurd (omega arith)
named_place name (d ∷ ds) named within = go (bytes_eq name d.name) refl (named_place name ds (and_parts (is_name d.name) (are_named ds) named).1)
  where
    go : (t : Bool) → bytes_eq name d.name ≡ t → (position_or_len (λ (d : Declared). bytes_eq name d.name) ds < length ds → is_name name ≡ true) → is_name name ≡ true
    go true same rest = rw ((bytes_eq-Decides name d.name).0 same) (and_parts (is_name d.name) (are_named ds) named).0
    go false other rest =
        let more : position_or_len (λ (d : Declared). bytes_eq name d.name) (d ∷ ds) ≡ 1 + position_or_len (λ (d : Declared). bytes_eq name d.name) ds = rw other refl in
        rest (omega arith)

pub found_named : (name : List ℕ) (ds : List Declared) (i : ℕ) → are_named ds ≡ true → place_of name ds ≡ Some i → is_name name ≡ true
found_named name ds i named found = go (nat_lt (position_or_len (λ (d : Declared). bytes_eq name d.name) ds) (length ds)) refl
  where
    go : (t : Bool) → nat_lt (position_or_len (λ (d : Declared). bytes_eq name d.name) ds) (length ds) ≡ t → is_name name ≡ true
    go true inside = named_place name ds named (grind (arith, nat_tests))
    go false outside = let e = rw outside at found in cc

-- one more object with a name leaves few objects with names
pub named_more : (objects : List Declared) (d : Declared) (entries : List (ArrayString × Kind)) → map declared_of entries ≡ objects ++ d ∷ [] → length objects < 32 → are_named objects ≡ true → is_name d.name ≡ true
    → (length entries ≤ 32) × (are_named (map declared_of entries) ≡ true)
named_more objects d entries added few named is =
    let len : length (map declared_of entries) ≡ length (objects ++ d ∷ []) = ap length added in (
      omega (arith, length-map entries declared_of, length-append objects (d ∷ [])),
      rw added (list_all-append (λ (d : Declared). is_name d.name) objects (d ∷ []) ∙ and_from (are_named objects) (is_name d.name && true) named (and_from (is_name d.name) true is refl)),
    )

-- the last task has one more call
pub call_added : (tasks : List (Vec Line)) (v w : Vec Line) (l : Line) (n : ℕ) → length tasks ≡ suc n → v ≡ get_or tasks n v → w.items ≡ v.items ++ l ∷ []
    → map (λ (u : Vec Line). u.items) (slice_set tasks n w) ≡ with_call (map (λ (u : Vec Line). u.items) tasks) l
call_added [] v w l n some last items = absurd (omega arith)
call_added (t ∷ []) v w l zero some last items = ap (λ ls. ls ∷ []) (items ∙ ap (λ (u : Vec Line). u.items ++ l ∷ []) last)
call_added (t ∷ []) v w l (suc n) some last items = absurd (omega arith)
call_added (t ∷ u ∷ us) v w l zero some last items = absurd (omega arith)
call_added (t ∷ u ∷ us) v w l (suc n) some last items = ap (λ ls. t.items ∷ ls) (call_added (u ∷ us) v w l n (omega arith) last items)

-- what holds at Ok holds where the result is one
pub on_ok : {T E P : Type 0} (r : Result T E) → is_ok r ≡ true → OnOk r P → P
on_ok (Ok x) ok is = is
on_ok (Err e) ok is = cc

-- the name of an object, found by its place
pub name_found : (objects : List Declared) (i : ℕ) (name : List ℕ) → slice_get (map (λ (d : Declared). d.name) objects) i ≡ Some name → name_at objects i ≡ name
name_found [] i name is = cc
name_found (d ∷ ds) zero name is = same_Some d.name name is
name_found (d ∷ ds) (suc i) name is = name_found ds i name is

most_few : (version : Version) → most_objects version ≤ 32
most_few One = omega arith
most_few Two = omega arith

-- so each call's object is one of 32
pub objects_few : (version : Version) (objects : List (ArrayString × Kind)) (tasks : List (Vec Line)) → IsSound (listing version objects tasks) → All (λ (v : Vec Line). All (λ (l : Line). l.object < 32) v.items) tasks
objects_few version objects tasks sound i d within j e below =
    let lines = get_or tasks i d in
    let at : slice_get (map (λ (v : Vec Line). v.items) tasks) i ≡ Some lines.items = slice_get-map (λ (v : Vec Line). v.items) tasks i ∙ rw (slice_get-get_or tasks i d within) refl in
    let on = task_declared version (map declared_of objects) (map (λ (v : Vec Line). v.items) tasks) i lines.items sound.calls at j e below in
    let few = sound.few_objects in
    omega (arith, on, few, most_few version)
