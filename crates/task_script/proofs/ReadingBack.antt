-- The canonical text of a script is read as that script.
use Rattle.std.proofs.Common.{◌≡◌, ℕ, ◌+◌, ◌<◌, ◌≤◌, Bool, true, false, cond, ◌&&◌, zero, suc, List, [], ◌∷◌, ◌++◌, length, length-append, refl, sym, ap, ◌∙◌, subst, arith, append_assoc, append-nil, codes, Option, Some, None, is_none, Ok, nat_lt, nat_le}
use Rattle.std.specs.Prelude.{flat_map, slice_get}
use Rattle.std.specs.List.{AllByRecursion, list_all, position_or_len}
use Rattle.std.specs.Str.{bytes_eq}
use Rattle.std.proofs.lemmas.Bool.{and_parts}
use Rattle.std.proofs.lemmas.Bool.Decides.{nat_tests}
use Rattle.std.proofs.lemmas.Option.{same_Some}
use Rattle.std.proofs.lemmas.Slice.Eq.{bytes_eq-Decides}
use Rattle.word_bits.specs.declared.call.Mode.TheVariants.{Int, Try}
use Rattle.word_bits.specs.Calls.{mode_of}
use Rattle.task_script.specs.declared.script.Line.{Line}
use Rattle.task_script.specs.declared.version.Version.{Version}
use Rattle.task_script.specs.Cuts.{is_clean, is_empty, lines, words}
use Rattle.task_script.specs.Tokens.{is_lower, is_name_byte, has_name_bytes, is_name, keyword_of}
use Rattle.task_script.specs.Scripts.{Declared, Listing, nothing, call_words}
use Rattle.task_script.specs.Sound.{IsLine, AreNamed, IsSound}
use Rattle.task_script.specs.Texts.{mode_text, declaration_text, name_at, named_text, line_text, task_text, body_text, canonical_text, verb_and_arguments}
use Rattle.task_script.specs.Versions.{most_objects, most_tasks, version_text}
use Rattle.task_script.specs.Grammar.{place_of, with_call, line_of, declare_line, call_line, line_of_words, line_after, then_lines, lines_after, script_of}
use Rattle.task_script.proofs.CallTexts.{IsCallText, call_text_is}
use Rattle.task_script.proofs.Reading.{short_script}
use Rattle.task_script.specs.Padding.{is_visible}
use Rattle.task_script.specs.Types.{Mode, Plain, One, Two}
use Rattle.task_script.proofs.Splitting.{words-cut, words-visible, clean-visible, clean-append, clean_line}

-- reading this text leads from a script to a script, whatever line it begins at and whatever stands behind it
abbrev Reaches : (s t : Listing) → List ℕ → Type 0
Reaches s t text = (n : ℕ) (rest : List ℕ) → (m : ℕ) × (lines_after n s (lines (text ++ rest)) ≡ lines_after m t (lines rest))

reaches_nothing : (s : Listing) → Reaches s s []
reaches_nothing s n rest = (n, refl)

-- one text behind the other
reaches_both : (s t u : Listing) (a b : List ℕ) → Reaches s t a → Reaches t u b → Reaches s u (a ++ b)
reaches_both s t u a b first second n rest =
    let p = first n (b ++ rest) in
    let q = second p.0 rest in
    (q.0, ap (λ l. lines_after n s (lines l)) (append_assoc a b rest) ∙ p.1 ∙ q.1)

-- one line
reaches_line : (s t : Listing) (line : List ℕ) → list_all is_clean line ≡ true → line_after s (words line) ≡ Ok t → Reaches s t (line ++ codes "\n")
reaches_line s t line clean is n rest =
    (n + 1, ap (λ l. lines_after n s (lines l)) (append_assoc line (codes "\n") rest) ∙ clean_line n s line rest clean ∙ ap (λ a. then_lines n a (λ u. lines_after (n + 1) u (lines rest))) is)

-- ---- names

name_byte_visible : (b : ℕ) → is_name_byte b ≡ true → is_visible b ≡ true
name_byte_visible b is = grind (arith, nat_tests)

name_bytes_visible : (bs : List ℕ) → list_all is_name_byte bs ≡ true → list_all is_visible bs ≡ true
name_bytes_visible [] all = refl
name_bytes_visible (b ∷ bs) all = let parts = and_parts (is_name_byte b) (list_all is_name_byte bs) all in rw (name_byte_visible b parts.0, name_bytes_visible bs parts.1) refl

lower_visible : (b : ℕ) → is_lower b ≡ true → is_visible b ≡ true
lower_visible b is = grind (arith, nat_tests)

-- a name is one word of visible bytes, and no keyword
record IsNameWord (name : List ℕ) : Type 0 where
  visible : list_all is_visible name ≡ true
  word : words name ≡ name ∷ []
  keyword : keyword_of name ≡ None

none_of : {X : Type 0} (o : Option X) → is_none o ≡ true → o ≡ None
none_of None is = refl
none_of (Some x) is = cc

name_word : (name : List ℕ) → is_name name ≡ true → IsNameWord name
name_word [] is = cc
name_word (b ∷ bs) is =
    let parts = and_parts (has_name_bytes (b ∷ bs)) (is_none (keyword_of (b ∷ bs))) is in
    let form = and_parts (is_lower b && nat_le (length bs) 15) (list_all is_name_byte bs) parts.0 in
    let first = and_parts (is_lower b) (nat_le (length bs) 15) form.0 in
    let visible : list_all is_visible (b ∷ bs) ≡ true = rw (lower_visible b first.0, name_bytes_visible bs form.1) refl in
    record { visible = visible; word = words-visible b bs visible; keyword = none_of (keyword_of (b ∷ bs)) parts.1 }

-- ---- declarations

declaration_is : (d : Declared) (s : Listing) → is_name d.name ≡ true → s.tasks ≡ [] → place_of d.name s.objects ≡ None → length s.objects < most_objects s.version
    → Reaches s (record { version = s.version; objects = s.objects ++ d ∷ []; tasks = s.tasks }) (declaration_text d)
declaration_is d s is empty none few = go d.is_space refl
  where
    w : IsNameWord d.name
    w = name_word d.name is

    limit : nat_le (most_objects s.version) (length s.objects) ≡ false
    limit = grind (arith, nat_tests)

    accepted : (is_space : Bool) → d.is_space ≡ is_space → declare_line is_space s (d.name ∷ []) ≡ Ok (record { version = s.version; objects = s.objects ++ d ∷ []; tasks = s.tasks })
    accepted is_space kind = rw (empty, is, none, limit, ← kind) refl

    go : (is_space : Bool) → d.is_space ≡ is_space → Reaches s (record { version = s.version; objects = s.objects ++ d ∷ []; tasks = s.tasks }) (cond is_space (codes "space ") (codes "table ") ++ d.name ++ codes "\n")
    go true kind = reaches_line s _ (codes "space " ++ d.name) (clean-append (codes "space ") d.name refl (clean-visible d.name w.visible)) (ap (λ ws. line_after s (codes "space" ∷ ws)) w.word ∙ accepted true kind)
    go false kind = reaches_line s _ (codes "table " ++ d.name) (clean-append (codes "table ") d.name refl (clean-visible d.name w.visible)) (ap (λ ws. line_after s (codes "table" ∷ ws)) w.word ∙ accepted false kind)

declarations_are : (version : Version) (before ds : List Declared) → AreNamed before ds → length before + length ds ≤ most_objects version → Reaches (record { version = version; objects = before; tasks = [] }) (record { version = version; objects = before ++ ds; tasks = [] }) (flat_map declaration_text ds)
declarations_are version before [] named few = subst (λ objects. Reaches (record { version = version; objects = before; tasks = [] }) (record { version = version; objects = objects; tasks = [] }) []) (sym (append-nil before)) (reaches_nothing (record { version = version; objects = before; tasks = [] }))
declarations_are version before (d ∷ ds) named few =
    subst (λ objects. Reaches (record { version = version; objects = before; tasks = [] }) (record { version = version; objects = objects; tasks = [] }) (declaration_text d ++ flat_map declaration_text ds)) (append_assoc before (d ∷ []) ds)
    (reaches_both (record { version = version; objects = before; tasks = [] }) (record { version = version; objects = before ++ d ∷ []; tasks = [] }) (record { version = version; objects = (before ++ d ∷ []) ++ ds; tasks = [] }) (declaration_text d) (flat_map declaration_text ds)
    (declaration_is d (record { version = version; objects = before; tasks = [] }) named.0 refl named.1 (omega arith))
    (declarations_are version (before ++ d ∷ []) ds named.2 (omega (arith, length-append before (d ∷ [])))))

-- ---- calls

-- a name that none in front has is found here
place_passed : (name : List ℕ) (before : List Declared) (d : Declared) (rest : List Declared) → name ≡ d.name → length before ≤ position_or_len (λ (e : Declared). bytes_eq name e.name) before
    → position_or_len (λ (e : Declared). bytes_eq name e.name) (before ++ d ∷ rest) ≡ length before
place_passed name [] d rest same past = let here : bytes_eq name d.name ≡ true = (bytes_eq-Decides name d.name).1 same in rw here refl
place_passed name (e ∷ before) d rest same past = go (bytes_eq name e.name) refl (place_passed name before d rest same)
  where
    go : (t : Bool) → bytes_eq name e.name ≡ t → (length before ≤ position_or_len (λ (e : Declared). bytes_eq name e.name) before → position_or_len (λ (e : Declared). bytes_eq name e.name) (before ++ d ∷ rest) ≡ length before)
        → position_or_len (λ (e : Declared). bytes_eq name e.name) (e ∷ (before ++ d ∷ rest)) ≡ length (e ∷ before)
    go true here more = absurd (let z : position_or_len (λ (e : Declared). bytes_eq name e.name) (e ∷ before) ≡ 0 = rw here refl in omega arith)
    go false other more =
        let one : position_or_len (λ (e : Declared). bytes_eq name e.name) (e ∷ before) ≡ 1 + position_or_len (λ (e : Declared). bytes_eq name e.name) before = rw other refl in
        rw (other, more (omega arith)) (omega arith)

place_here : (before : List Declared) (d : Declared) (rest : List Declared) → place_of d.name before ≡ None → place_of d.name (before ++ d ∷ rest) ≡ Some (length before)
place_here before d rest none = rw (place_passed d.name before d rest refl (past (nat_lt (position_or_len (λ (e : Declared). bytes_eq d.name e.name) before) (length before)) refl)) (found (nat_lt (length before) (length (before ++ d ∷ rest))) within)
  where
    past : (t : Bool) → nat_lt (position_or_len (λ (e : Declared). bytes_eq d.name e.name) before) (length before) ≡ t → length before ≤ position_or_len (λ (e : Declared). bytes_eq d.name e.name) before
    past true inside = let e = rw inside at none in cc
    past false outside = grind (arith, nat_tests)

    within : nat_lt (length before) (length (before ++ d ∷ rest)) ≡ true
    within = let more = length-append before (d ∷ rest) in grind (arith, nat_tests)

    found : (t : Bool) → t ≡ true → cond t (Some (length before)) None ≡ Some (length before)
    found true is = refl
    found false is = cc

-- each name is found at its own place
place_found : (before ds : List Declared) (i : ℕ) (d : Declared) → AreNamed before ds → slice_get ds i ≡ Some d → place_of d.name (before ++ ds) ≡ Some (length before + i)
place_found before [] i d named at = cc
place_found before (e ∷ ds) zero d named at = rw (← same_Some e d at) (place_here before e ds named.1 ∙ ap Some (omega arith))
place_found before (e ∷ ds) (suc i) d named at =
    ap (place_of d.name) (sym (append_assoc before (e ∷ []) ds)) ∙ place_found (before ++ e ∷ []) ds i d named.2 at ∙ ap Some (omega (arith, length-append before (e ∷ [])))

named_at : (before ds : List Declared) (i : ℕ) (d : Declared) → AreNamed before ds → slice_get ds i ≡ Some d → is_name d.name ≡ true
named_at before [] i d named at = cc
named_at before (e ∷ ds) zero d named at = rw (← same_Some e d at) named.0
named_at before (e ∷ ds) (suc i) d named at = named_at (before ++ e ∷ []) ds i d named.2 at

-- one more call of the last task
with_call-last : (done : List (List Line)) (ls : List Line) (l : Line) → with_call (done ++ ls ∷ []) l ≡ done ++ (ls ++ l ∷ []) ∷ []
with_call-last [] ls l = refl
with_call-last (m ∷ []) ls l = refl
with_call-last (m ∷ k ∷ done) ls l = ap (λ ts. m ∷ ts) (with_call-last (k ∷ done) ls l)

some_task : (done : List (List Line)) (ls : List Line) → is_empty (done ++ ls ∷ []) ≡ false
some_task [] ls = refl
some_task (m ∷ done) ls = refl

-- the words of a call's line lead to that call, behind its mode
mode_line : (mode : Mode) (s : Listing) (name : List ℕ) (ws : List (List ℕ)) (text : List ℕ) → IsNameWord name → words text ≡ ws
    → line_after s (words (mode_text mode ++ name ++ codes " " ++ text)) ≡ call_line mode s (name ∷ ws)
mode_line Plain s name ws text w is =
    let cut : words (name ++ codes " " ++ text) ≡ name ∷ ws = ap words (append_assoc name (codes " ") text) ∙ words-cut name text ∙ rw (w.word, is) refl in
    ap (line_after s) cut ∙ ap (λ k. line_of_words k s name ws) w.keyword
mode_line Int s name ws text w is =
    let cut : words (codes "int " ++ name ++ codes " " ++ text) ≡ codes "int" ∷ name ∷ ws = ap words (append_assoc (codes "int " ++ name) (codes " ") text) ∙ words-cut (codes "int " ++ name) text ∙ rw (w.word, is) refl in
    ap (line_after s) cut
mode_line Try s name ws text w is =
    let cut : words (codes "try " ++ name ++ codes " " ++ text) ≡ codes "try" ∷ name ∷ ws = ap words (append_assoc (codes "try " ++ name) (codes " ") text) ∙ words-cut (codes "try " ++ name) text ∙ rw (w.word, is) refl in
    ap (line_after s) cut

mode_clean : (mode : Mode) → list_all is_clean (mode_text mode) ≡ true
mode_clean Plain = refl
mode_clean Int = refl
mode_clean Try = refl

-- one call
call_is : (version : Version) (objects : List Declared) (done : List (List Line)) (ls : List Line) (l : Line) → AreNamed [] objects → IsLine version objects l
    → Reaches (record { version = version; objects = objects; tasks = done ++ ls ∷ [] }) (record { version = version; objects = objects; tasks = done ++ (ls ++ l ∷ []) ∷ [] }) (line_text objects l)
call_is version objects done ls l named is = subst (Reaches s t) (sym (ap (named_text (name_at objects l.object)) same ∙ ap (λ n. named_text n is.call) name)) (reaches_line s t line clean accepted)
  where
    d : Declared
    d = is.declared

    s : Listing
    s = record { version = version; objects = objects; tasks = done ++ ls ∷ [] }

    t : Listing
    t = record { version = version; objects = objects; tasks = done ++ (ls ++ l ∷ []) ∷ [] }

    line : List ℕ
    line = mode_text (mode_of is.call) ++ d.name ++ codes " " ++ verb_and_arguments is.call

    same : call_words l ≡ is.call
    same = ap call_words is.words

    name : name_at objects l.object ≡ d.name
    name = rw is.place refl

    w : IsNameWord d.name
    w = name_word d.name (named_at [] objects l.object d named is.place)

    text : IsCallText version d.is_space is.call
    text = call_text_is version d.is_space is.call is.is

    clean : list_all is_clean line ≡ true
    clean =
        clean-append (mode_text (mode_of is.call) ++ d.name ++ codes " ") (verb_and_arguments is.call)
        (clean-append (mode_text (mode_of is.call) ++ d.name) (codes " ") (clean-append (mode_text (mode_of is.call)) d.name (mode_clean (mode_of is.call)) (clean-visible d.name w.visible)) refl) text.clean

    place : place_of d.name objects ≡ Some l.object
    place = place_found [] objects l.object d named is.place ∙ ap Some (omega arith)

    tasks : with_call (done ++ ls ∷ []) (line_of l.object is.call) ≡ done ++ (ls ++ l ∷ []) ∷ []
    tasks = with_call-last done ls (line_of l.object is.call) ∙ ap (λ m. done ++ (ls ++ m ∷ []) ∷ []) (sym is.words)

    called : call_line (mode_of is.call) s (d.name ∷ text.word ∷ text.behind) ≡ Ok t
    called = rw (some_task done ls, named_at [] objects l.object d named is.place, place, is.place, text.is, tasks) refl

    accepted : line_after s (words line) ≡ Ok t
    accepted = mode_line (mode_of is.call) s d.name (text.word ∷ text.behind) (verb_and_arguments is.call) w text.words ∙ called

calls_are : (version : Version) (objects : List Declared) (done : List (List Line)) (before ls : List Line) → AreNamed [] objects → AllByRecursion (IsLine version objects) ls
    → Reaches (record { version = version; objects = objects; tasks = done ++ before ∷ [] }) (record { version = version; objects = objects; tasks = done ++ (before ++ ls) ∷ [] }) (flat_map (line_text objects) ls)
calls_are version objects done before [] named each = subst (λ cs. Reaches (record { version = version; objects = objects; tasks = done ++ before ∷ [] }) (record { version = version; objects = objects; tasks = done ++ cs ∷ [] }) []) (sym (append-nil before)) (reaches_nothing _)
calls_are version objects done before (l ∷ ls) named each =
    subst (λ cs. Reaches (record { version = version; objects = objects; tasks = done ++ before ∷ [] }) (record { version = version; objects = objects; tasks = done ++ cs ∷ [] }) (line_text objects l ++ flat_map (line_text objects) ls)) (append_assoc before (l ∷ []) ls)
    (reaches_both _ (record { version = version; objects = objects; tasks = done ++ (before ++ l ∷ []) ∷ [] }) _ (line_text objects l) (flat_map (line_text objects) ls) (call_is version objects done before l named each.0) (calls_are version objects done (before ++ l ∷ []) ls named each.1))

-- ---- tasks

task_is : (version : Version) (objects : List Declared) (done : List (List Line)) (ls : List Line) → AreNamed [] objects → AllByRecursion (IsLine version objects) ls → length done < most_tasks version
    → Reaches (record { version = version; objects = objects; tasks = done }) (record { version = version; objects = objects; tasks = done ++ ls ∷ [] }) (task_text objects ls)
task_is version objects done ls named each few =
    let limit : nat_le (most_tasks version) (length done) ≡ false = grind (arith, nat_tests) in
    reaches_both _ (record { version = version; objects = objects; tasks = done ++ [] ∷ [] }) _ (codes "task\n") (flat_map (line_text objects) ls)
    (reaches_line (record { version = version; objects = objects; tasks = done }) (record { version = version; objects = objects; tasks = done ++ [] ∷ [] }) (codes "task") refl (rw limit refl)) (calls_are version objects done [] ls named each)

tasks_are : (version : Version) (objects : List Declared) (done tasks : List (List Line)) → AreNamed [] objects → AllByRecursion (AllByRecursion (IsLine version objects)) tasks → length done + length tasks ≤ most_tasks version
    → Reaches (record { version = version; objects = objects; tasks = done }) (record { version = version; objects = objects; tasks = done ++ tasks }) (flat_map (task_text objects) tasks)
tasks_are version objects done [] named each few = subst (λ ts. Reaches (record { version = version; objects = objects; tasks = done }) (record { version = version; objects = objects; tasks = ts }) []) (sym (append-nil done)) (reaches_nothing _)
tasks_are version objects done (ls ∷ tasks) named each few =
    subst (λ ts. Reaches (record { version = version; objects = objects; tasks = done }) (record { version = version; objects = objects; tasks = ts }) (task_text objects ls ++ flat_map (task_text objects) tasks)) (append_assoc done (ls ∷ []) tasks)
    (reaches_both _ (record { version = version; objects = objects; tasks = done ++ ls ∷ [] }) _ (task_text objects ls) (flat_map (task_text objects) tasks) (task_is version objects done ls named each.0 (omega arith))
    (tasks_are version objects (done ++ ls ∷ []) tasks named each.1 (omega (arith, length-append done (ls ∷ [])))))

-- the line of a version leads to a script of it
version_is : (version : Version) → Reaches nothing (record { version = version; objects = []; tasks = [] }) (version_text version)
version_is One = reaches_nothing nothing
version_is Two = reaches_line nothing (record { version = Two; objects = []; tasks = [] }) (codes "version 2") refl refl

-- the canonical text of a sound script is read as it
pub read_back : (s : Listing) → IsSound s → length (canonical_text s) ≤ 1048576 → script_of (canonical_text s) ≡ Ok s
read_back s sound short =
    let empty : Listing = record { version = s.version; objects = []; tasks = [] } in
    let declared = declarations_are s.version [] s.objects sound.named (omega (arith, sound.few_objects)) in
    let body = reaches_both empty (record { version = s.version; objects = s.objects; tasks = [] }) s (flat_map declaration_text s.objects) (flat_map (task_text s.objects) s.tasks) declared (tasks_are s.version s.objects [] s.tasks sound.named sound.calls (omega (arith, sound.few_tasks))) in
    let all = reaches_both nothing empty s (version_text s.version) (body_text s) (version_is s.version) body in
    short_script (canonical_text s) short ∙ ap (λ l. lines_after 1 nothing (lines l)) (sym (append-nil (canonical_text s))) ∙ (all 1 []).1
