-- A text that is cut into its lines again, object by object.
use Rattle.std.proofs.Common.{◌≡◌, ℕ, ◌+◌, Bool, true, false, cond, List, [], ◌∷◌, ◌++◌, map, refl, sym, ap, ◌∙◌, subst, append_assoc, codes, Option, Some, None}
use Rattle.std.specs.Prelude.{flat_map, decimal}
use Rattle.std.specs.Char.{is_ascii_digit}
use Rattle.std.specs.List.{AllByRecursion, range_with_len}
use Rattle.std.proofs.lemmas.List.{append_cancel_left}
use Rattle.std.proofs.lemmas.List.Folds.{flat_map-map}
use Rattle.word_bits.specs.Histories.{Event, history, state_after}
use Rattle.word_bits.specs.PageMaps.{PageMap, runs}
use Rattle.vma_map.specs.Spaces.{space}
use Rattle.fd_table.specs.Tables.{FdMap, table}
use Rattle.task_script.specs.Scripts.{Declared, Listing, plan_of}
use Rattle.task_script.specs.Texts.{call_text, declaration_text, prot_text}
use Rattle.task_script.proofs.Inner.{BeginsWithDigit, decimal_begins}
use Rattle.mm_report.proofs.LineTexts.{IsInLine, line_both, decimal_in_line, prot_in_line, call_in_line, reply_in_line, same_front}
use Rattle.mm_report.specs.Results.{Told}
use Rattle.mm_report.specs.Text.{reply_text, event_line, event_text, number_of, task_lines, area_text, left_text, descriptor_text, descriptors_text, space_text, table_text, told_text}
use Rattle.mm_report.specs.Reports.{report_from}
use Rattle.mm_report.specs.Telling.{lines_told, state_told, TellTheSame, TextDeterminesHistories}
use Rattle.mm_report.specs.Types.{Area, CallWords, Reply}

-- ---- lines

abbrev BeginsOtherwise : List ℕ → Type 0
BeginsOtherwise [] = Unit {0}
BeginsOtherwise (b ∷ bs) = is_ascii_digit b ≡ false

begins_before : (xs ys : List ℕ) → BeginsWithDigit xs → BeginsWithDigit (xs ++ ys)
begins_before [] ys begins = absurd begins
begins_before (x ∷ xs) ys begins = begins

-- a line that begins with a digit
record IsDigitLine (line : List ℕ) : Type 0 where
  front : List ℕ
  is : line ≡ front ++ 10 ∷ []
  inner : IsInLine front
  begins : BeginsWithDigit front

abbrev joined : List (List ℕ) → List ℕ
joined ls = flat_map (λ l. l) ls

-- a line stands in front
line_first : (l : List ℕ) (ls : List (List ℕ)) (rest : List ℕ) (is : IsDigitLine l) → joined (l ∷ ls) ++ rest ≡ is.front ++ 10 ∷ (joined ls ++ rest)
line_first l ls rest is = ap (λ v. (v ++ joined ls) ++ rest) is.is ∙ append_assoc (is.front ++ 10 ∷ []) (joined ls) rest ∙ append_assoc is.front (10 ∷ []) (joined ls ++ rest)

begun_apart : (r front xs : List ℕ) → BeginsOtherwise r → BeginsWithDigit front → r ≡ front ++ xs → ⊥
begun_apart r [] xs other begins e = begins
begun_apart [] (f ∷ fs) xs other begins e = cc
begun_apart (b ∷ bs) (f ∷ fs) xs other begins e = let same : b ≡ f = cc in let no : is_ascii_digit f ≡ false = subst (λ d. is_ascii_digit d ≡ false) same other in cc

-- lines that begin with digits are told from what stands behind them and doesn't
same_lines : (ls ms : List (List ℕ)) (r q : List ℕ) → AllByRecursion IsDigitLine ls → AllByRecursion IsDigitLine ms → BeginsOtherwise r → BeginsOtherwise q → joined ls ++ r ≡ joined ms ++ q → (ls ≡ ms) × (r ≡ q)
same_lines [] [] r q all all_ms other other_q e = (refl, e)
same_lines [] (m ∷ ms) r q all all_ms other other_q e = absurd (begun_apart r all_ms.0.front (10 ∷ (joined ms ++ q)) other all_ms.0.begins (e ∙ line_first m ms q all_ms.0))
same_lines (l ∷ ls) [] r q all all_ms other other_q e = absurd (begun_apart q all.0.front (10 ∷ (joined ls ++ r)) other_q all.0.begins (sym e ∙ line_first l ls r all.0))
same_lines (l ∷ ls) (m ∷ ms) r q all all_ms other other_q e =
    let cut = same_front 10 all.0.front all_ms.0.front (joined ls ++ r) (joined ms ++ q) all.0.inner all_ms.0.inner (sym (line_first l ls r all.0) ∙ e ∙ line_first m ms q all_ms.0) in
    let first : l ≡ m = all.0.is ∙ ap (λ f. f ++ 10 ∷ []) cut.0 ∙ sym all_ms.0.is in
    let more = same_lines ls ms r q all.1 all_ms.1 other other_q cut.1 in
    (let h : l ∷ ls ≡ m ∷ ms = ap (λ k. l ∷ k) more.0 ∙ ap (λ k. k ∷ ms) first in h, more.1)

-- ---- the lines of a history and of a state

event_is : (task number : ℕ) (w : CallWords) (reply : Reply) → IsDigitLine (event_line task number w reply)
event_is task number w reply =
    let a = decimal task in
    let b = a ++ codes "." in
    let c = b ++ decimal number in
    let d = c ++ codes " " in
    let e = d ++ call_text w in
    let f = e ++ codes " = " in record {
      front = f ++ reply_text reply;
      is = refl;
      inner = line_both f (reply_text reply) (line_both e (codes " = ") (line_both d (call_text w) (line_both c (codes " ") (line_both b (decimal number) (line_both a (codes ".") (decimal_in_line task) refl) (decimal_in_line number)) refl) (call_in_line w)) refl) (reply_in_line reply);
      begins = begins_before f (reply_text reply) (begins_before e (codes " = ") (begins_before d (call_text w) (begins_before c (codes " ") (begins_before b (decimal number) (begins_before a (codes ".") (decimal_begins task))))));
    }

events_are : (s : Listing) (object : ℕ) (vs : List Event) → AllByRecursion IsDigitLine (map (event_text s object) vs)
events_are s object [] = tt
events_are s object (v ∷ vs) = (event_is v.entry.task (number_of object (task_lines s.tasks v.entry.task) v.entry.call) v.words v.told.reply, events_are s object vs)

area_is : (a : Area) → IsDigitLine (area_text a)
area_is a =
    let b = decimal a.start in
    let c = b ++ codes "-" in
    let d = c ++ decimal a.end in
    let e = d ++ codes " " in record {
      front = e ++ prot_text a.prot;
      is = refl;
      inner = line_both e (prot_text a.prot) (line_both d (codes " ") (line_both c (decimal a.end) (line_both b (codes "-") (decimal_in_line a.start) refl) (decimal_in_line a.end)) refl) (prot_in_line a.prot);
      begins = begins_before e (prot_text a.prot) (begins_before d (codes " ") (begins_before c (decimal a.end) (begins_before b (codes "-") (decimal_begins a.start))));
    }

file_is : (fd file : ℕ) → IsDigitLine (descriptor_text fd (Some file))
file_is fd file =
    let b = decimal fd in
    let c = b ++ codes " " in record {
      front = c ++ decimal file;
      is = refl;
      inner = line_both c (decimal file) (line_both b (codes " ") (decimal_in_line fd) refl) (decimal_in_line file);
      begins = begins_before c (decimal file) (begins_before b (codes " ") (decimal_begins fd));
    }

-- a text of such lines
record AreDigitLines (text : List ℕ) : Type 0 where
  lines : List (List ℕ)
  all : AllByRecursion IsDigitLine lines
  is : text ≡ joined lines

areas_are : (areas : List Area) → AllByRecursion IsDigitLine (map area_text areas)
areas_are [] = tt
areas_are (a ∷ areas) = (area_is a, areas_are areas)

files_are : (m : FdMap) (fds : List ℕ) → AreDigitLines (flat_map (λ k. descriptor_text k (m k)) fds)
files_are m [] = record { lines = []; all = tt; is = refl }
files_are m (fd ∷ fds) = go (m fd) (files_are m fds)
  where
    go : (file : Option ℕ) → AreDigitLines (flat_map (λ k. descriptor_text k (m k)) fds) → AreDigitLines (descriptor_text fd file ++ flat_map (λ k. descriptor_text k (m k)) fds)
    go None more = more
    go (Some file) more = record { lines = descriptor_text fd (Some file) ∷ more.lines; all = (file_is fd file, more.all); is = ap (λ t. descriptor_text fd (Some file) ++ t) more.is }

-- the state of an object: how much is left, and lines
record IsStateText (text : List ℕ) : Type 0 where
  count : ℕ
  left : List ℕ
  lines : AreDigitLines left
  is : text ≡ left_text count ++ left

space_is : (m : PageMap) → IsStateText (space_text m)
space_is m = record { count = _; left = flat_map area_text (runs m); lines = record { lines = map area_text (runs m); all = areas_are (runs m); is = sym (flat_map-map (λ l. l) area_text (runs m)) }; is = refl }

table_is : (m : FdMap) → IsStateText (table_text m)
unfolding descriptors_text
table_is m = record { count = _; left = descriptors_text m 0 64; lines = files_are m (range_with_len 0 64); is = refl }

state_is : (s : Listing) (object : ℕ) (is_space : Bool) (t : Told) → IsStateText (state_told s object is_space t)
state_is s object true t = space_is (state_after space (plan_of s object) t.log)
state_is s object false t = table_is (state_after table (plan_of s object) t.log)

lines_are : (s : Listing) (object : ℕ) (is_space : Bool) (t : Told) → AllByRecursion IsDigitLine (lines_told s object is_space t)
lines_are s object true t = events_are s object (history space (plan_of s object) t.records t.log)
lines_are s object false t = events_are s object (history table (plan_of s object) t.records t.log)

told_is : (s : Listing) (object : ℕ) (is_space : Bool) (t : Told) → told_text s object is_space t ≡ joined (lines_told s object is_space t) ++ state_told s object is_space t
told_is s object true t = ap (λ c. c ++ state_told s object true t) (sym (flat_map-map (λ l. l) (event_text s object) (history space (plan_of s object) t.records t.log)))
told_is s object false t = ap (λ c. c ++ state_told s object false t) (sym (flat_map-map (λ l. l) (event_text s object) (history table (plan_of s object) t.records t.log)))

-- ---- objects

-- a declaration begins with a letter
declaration_begins : (d : Declared) (rest : List ℕ) → BeginsOtherwise (declaration_text d ++ rest)
declaration_begins d rest = go d.is_space
  where
    go : (t : Bool) → BeginsOtherwise ((cond t (codes "space ") (codes "table ") ++ d.name ++ codes "\n") ++ rest)
    go true = refl
    go false = refl

declaration_some : (d : Declared) (rest : List ℕ) → declaration_text d ++ rest ≡ [] → ⊥
declaration_some d rest none = go d.is_space none
  where
    go : (t : Bool) → (cond t (codes "space ") (codes "table ") ++ d.name ++ codes "\n") ++ rest ≡ [] → ⊥
    go true e = cc
    go false e = cc

from_begins : (s : Listing) (object : ℕ) (ds : List Declared) (ts : List Told) → BeginsOtherwise (report_from false s object ds ts)
from_begins s object [] ts = tt
from_begins s object (d ∷ ds) [] = tt
from_begins s object (d ∷ ds) (t ∷ ts) =
    let told = told_text s object d.is_space t in
    let rest = report_from false s (object + 1) ds ts in
    subst BeginsOtherwise (sym (append_assoc (declaration_text d) told rest)) (declaration_begins d (told ++ rest))

-- how much is left, and what stands behind it
same_left : (m n : ℕ) (xs ys : List ℕ) → left_text m ++ xs ≡ left_text n ++ ys → (left_text m ≡ left_text n) × (xs ≡ ys)
same_left m n xs ys e =
    let inner : (k : ℕ) → IsInLine (codes "left " ++ decimal k) = λ (k : ℕ). line_both (codes "left ") (decimal k) refl (decimal_in_line k) in
    let at : (k : ℕ) (zs : List ℕ) → left_text k ++ zs ≡ (codes "left " ++ decimal k) ++ 10 ∷ zs = λ (k : ℕ) (zs : List ℕ). append_assoc (codes "left " ++ decimal k) (10 ∷ []) zs in
    let cut = same_front 10 (codes "left " ++ decimal m) (codes "left " ++ decimal n) xs ys (inner m) (inner n) (sym (at m xs) ∙ e ∙ at n ys) in
    (ap (λ f. f ++ 10 ∷ []) cut.0, cut.1)

-- a state, and what stands behind it
same_state : (a b r q : List ℕ) → IsStateText a → IsStateText b → BeginsOtherwise r → BeginsOtherwise q → a ++ r ≡ b ++ q → (a ≡ b) × (r ≡ q)
same_state a b r q is is_b other other_q e =
    let left = same_left is.count is_b.count (is.left ++ r) (is_b.left ++ q) (sym (ap (λ t. t ++ r) is.is ∙ append_assoc (left_text is.count) is.left r) ∙ e ∙ ap (λ t. t ++ q) is_b.is ∙ append_assoc (left_text is_b.count) is_b.left q) in
    let lines = same_lines is.lines.lines is_b.lines.lines r q is.lines.all is_b.lines.all other other_q (sym (ap (λ t. t ++ r) is.lines.is) ∙ left.1 ∙ ap (λ t. t ++ q) is_b.lines.is) in
    let same : is.left ≡ is_b.left = is.lines.is ∙ ap joined lines.0 ∙ sym is_b.lines.is in
    (is.is ∙ ap (λ l. l ++ is.left) left.0 ∙ ap (λ t. left_text is_b.count ++ t) same ∙ sym is_b.is, lines.1)

state_begins : (a r : List ℕ) → IsStateText a → BeginsOtherwise (a ++ r)
state_begins a r is = subst (λ t. BeginsOtherwise (t ++ r)) (sym is.is) refl

-- one object's lines and state, and what stands behind them
same_told : (s : Listing) (object : ℕ) (is_space : Bool) (t u : Told) (r q : List ℕ) → BeginsOtherwise r → BeginsOtherwise q → told_text s object is_space t ++ r ≡ told_text s object is_space u ++ q
    → (lines_told s object is_space t ≡ lines_told s object is_space u) × (state_told s object is_space t ≡ state_told s object is_space u) × (r ≡ q)
same_told s object is_space t u r q other other_q e =
    let a = state_told s object is_space t in
    let b = state_told s object is_space u in
    let is = state_is s object is_space t in
    let is_b = state_is s object is_space u in
    let at : (v : Told) (x : List ℕ) → told_text s object is_space v ++ x ≡ joined (lines_told s object is_space v) ++ (state_told s object is_space v ++ x) =
    λ (v : Told) (x : List ℕ). ap (λ y. y ++ x) (told_is s object is_space v) ∙ append_assoc (joined (lines_told s object is_space v)) (state_told s object is_space v) x in
    let lines = same_lines (lines_told s object is_space t) (lines_told s object is_space u) (a ++ r) (b ++ q) (lines_are s object is_space t) (lines_are s object is_space u) (state_begins a r is) (state_begins b q is_b) (sym (at t r) ∙ e ∙ at u q) in
    let states = same_state a b r q is is_b other other_q lines.1 in
    (lines.0, states.0, states.1)

same_from : (s : Listing) (object : ℕ) (ds : List Declared) (ts us : List Told) → report_from false s object ds ts ≡ report_from false s object ds us → TellTheSame s object ds ts us
same_from s object [] ts us e = tt
same_from s object (d ∷ ds) [] [] e = tt
same_from s object (d ∷ ds) [] (u ∷ us) e =
    let told = told_text s object d.is_space u in
    let rest = report_from false s (object + 1) ds us in
    declaration_some d (told ++ rest) (sym (append_assoc (declaration_text d) told rest) ∙ sym e)
same_from s object (d ∷ ds) (t ∷ ts) [] e =
    let told = told_text s object d.is_space t in
    let rest = report_from false s (object + 1) ds ts in
    declaration_some d (told ++ rest) (sym (append_assoc (declaration_text d) told rest) ∙ e)
same_from s object (d ∷ ds) (t ∷ ts) (u ∷ us) e =
    let a = told_text s object d.is_space t in
    let b = told_text s object d.is_space u in
    let r = report_from false s (object + 1) ds ts in
    let q = report_from false s (object + 1) ds us in
    let behind : a ++ r ≡ b ++ q = append_cancel_left (declaration_text d) (a ++ r) (b ++ q) (sym (append_assoc (declaration_text d) a r) ∙ e ∙ append_assoc (declaration_text d) b q) in
    let here = same_told s object d.is_space t u r q (from_begins s (object + 1) ds ts) (from_begins s (object + 1) ds us) behind in
    (here.0, here.1, same_from s (object + 1) ds ts us here.2)

-- the text determines what is told
pub text_determines_histories : TextDeterminesHistories
text_determines_histories s told other e = same_from s 0 s.objects told other e
