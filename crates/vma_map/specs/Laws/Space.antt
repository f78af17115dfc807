-- The laws of an address space.
use Rattle.std.proofs.Common.{◌≡◌, ℕ, ◌+◌, ◌-◌, ◌<◌, ◌≤◌, List, [], ◌++◌, ◌==◌, ◌/◌, ◌%◌, length, take, map, replicate, Option, Some, None, IfSome, Bool, cond, true, ◌&&◌, ◌||◌, ◌^◌, leb, ltb, refl}
use Rattle.std.proofs.Common.{sym, ap, ◌∙◌, arith}
use Rattle.std.proofs.lemmas.List.{length-map, length-append, length-replicate, take_at}
use Rattle.std.proofs.lemmas.Bool.{false≢true, cond_both, or_parts, ltb-false, leb-true}
use Rattle.std.proofs.lemmas.Bool.Decides.{nat_tests}
use Rattle.word_bits.specs.declared.area.Area.{Area}
use Rattle.word_bits.specs.declared.call.CallWords.{CallWords}
use Rattle.word_bits.specs.declared.reply.Reply.{Reply}
use Rattle.word_bits.specs.declared.reply.Reply.TheVariants.{Good, Num, Refused, AccErr}
use Rattle.word_bits.specs.declared.reply.Errno.{Errno}
use Rattle.word_bits.specs.declared.reply.Errno.TheVariants.{NoMem, Exist, Inval}
use Rattle.word_bits.specs.declared.reply.Errno.TheVariants as errnos
use Rattle.word_bits.specs.AreaWord.{area_word}
use Rattle.word_bits.specs.Calls.{signal_of}
use Rattle.word_bits.specs.Objects.{IsObjectReply}
use Rattle.word_bits.proofs.Signals.{none_either, signal_kind}
use Rattle.word_bits.specs.PageMaps.{PageMap, IsPageMap, no_pages, runs}
use Rattle.vma_map.specs.declared.call.SpaceCall.{SpaceCall}
use Rattle.vma_map.specs.declared.call.SpaceCall.TheVariants.{Map, MapAny, MapNew, Unmap, Protect, Populate, Fault, Remap}
use Rattle.vma_map.specs.Runs.{page_map, AreRuns, IsSpace, words_of_areas}
use Rattle.vma_map.specs.Spaces.{changed, unless_many, with_range, moved, share_page, remapped, if_valid, is_free, is_mapped, lowest_free, mapped, mapped_at, readable, access_reply, IsCall, call_of}
use Rattle.vma_map.specs.Spaces.{reads, meaning, stores}
use Rattle.vma_map.specs.Laws.Area.{page_map-past, page_map-prots, changed-above}
use Rattle.vma_map.specs.Laws.PageRun.{runs-runs, page_map-runs, runs-page_map}
use Rattle.vma_map.specs.Laws.Area.{map-area_word-injective}
use Rattle.vma_map.specs.Laws.SpaceCall.{call_of-sound}

-- stored areas fill all words
pub length-words_of_areas : (areas : List Area) → length areas ≤ 256 → length (words_of_areas areas) ≡ 257
length-words_of_areas areas few =
    simp (length-append, length-map, length-replicate) (omega arith)

-- stored pages fill all words
pub sized : (m : PageMap) → IsPageMap m → length (stores m) ≡ 257
sized m is = length-words_of_areas (runs m) is.few

-- no pages have no runs
runs-no_pages : runs no_pages ≡ []
runs-no_pages = runs-page_map [] tt

-- the pages of stored areas
pub IsPageMap-page_map : (areas : List Area) → IsSpace areas → IsPageMap (page_map areas)
IsPageMap-page_map areas is = record {
  within = page_map-past areas is.runs;
  prots = page_map-prots areas is.runs;
  few = rw (runs-page_map areas is.runs) is.few;
}

-- the runs of pages can be stored
pub IsSpace-runs : (m : PageMap) → IsPageMap m → IsSpace (runs m)
IsSpace-runs m is = record { runs = runs-runs m is.prots; few = is.few }

-- no pages can be stored
pub starts : IsPageMap no_pages
starts = IsPageMap-page_map [] (record { runs = tt; few = omega arith })

-- zeros store them
pub zeros : replicate 257 0 ≡ stores no_pages
zeros = sym (ap words_of_areas runs-no_pages)

-- words store one list of runs
words_of_areas-injective : (xs ys : List Area) → AreRuns xs → AreRuns ys → words_of_areas xs ≡ words_of_areas ys → xs ≡ ys
words_of_areas-injective xs ys rx ry same =
    let many : length xs ≡ length ys = cc in
    let rest : map area_word xs ++ replicate (256 - length xs) 0 ≡ map area_word ys ++ replicate (256 - length ys) 0 = cc in
    let left = take_at (map area_word xs) (replicate (256 - length xs) 0) (length xs) (length-map xs area_word) in
    let right = take_at (map area_word ys) (replicate (256 - length ys) 0) (length xs) (length-map ys area_word ∙ sym many) in
    map-area_word-injective xs ys rx ry (sym left ∙ ap (take (length xs)) rest ∙ right)

-- words store one page map
pub apart : (s t : PageMap) → IsPageMap s → IsPageMap t → stores s ≡ stores t → s ≡ t
apart s t is_s is_t same =
    let runs' = words_of_areas-injective (runs s) (runs t) (runs-runs s is_s.prots) (runs-runs t is_t.prots) same in
    sym (page_map-runs s is_s) ∙ ap page_map runs' ∙ page_map-runs t is_t

-- calls that are read are valid
pub called : (words : CallWords) (call : SpaceCall) → call_of words ≡ Some call → IsCall call
called words call e = (call_of-sound words call e).0

-- a change keeps the protections small
changed-prots : (m : PageMap) (start end : ℕ) (prot : Option ℕ) → ((page : ℕ) → IfSome (m page) (λ p. p < 8)) → IfSome prot (λ p. p < 8) → (page : ℕ)
    → IfSome (changed m start end prot page) (λ p. p < 8)
changed-prots m start end prot prots small page =
    cond_both (leb start page && ltb page end) prot (m page) (λ o. IfSome o (λ p. p < 8)) (λ _. small) (λ _. prots page)

-- a change in the pages that has few runs can be stored
IsPageMap-changed : (m : PageMap) (start end : ℕ) (prot : Option ℕ) → IsPageMap m → end ≤ 1048576 → IfSome prot (λ p. p < 8) → length (runs (changed m start end prot)) ≤ 256
    → IsPageMap (changed m start end prot)
IsPageMap-changed m start end prot is within small few = record {
  within = λ page past. changed-above m start end prot page (omega arith) ∙ is.within page past;
  prots = changed-prots m start end prot is.prots small;
  few = few;
}

-- a page behind the range that a move leads to
moved-above : (m : PageMap) (start len to page : ℕ) → to + len ≤ page → moved m start len to page ≡ changed m start (start + len) None page
moved-above m start len to page high = grind (arith, nat_tests)

-- a move keeps the protections small
moved-prots : (m : PageMap) (start len to : ℕ) → ((page : ℕ) → IfSome (m page) (λ p. p < 8)) → (page : ℕ) → IfSome (moved m start len to page) (λ p. p < 8)
moved-prots m start len to prots page =
    cond_both (leb to page && ltb page (to + len)) (m (start + (page - to))) (changed m start (start + len) None page) (λ o. IfSome o (λ p. p < 8)) (λ _. prots (start + (page - to)))
    (λ _. changed-prots m start (start + len) None prots tt page)

-- a move of a range that a call makes
record IsMove (m : PageMap) (start len to : ℕ) : Type 0 where
  source : start + len ≤ 1048576
  target : to + len ≤ 1048576
  few : length (runs (moved m start len to)) ≤ 256

-- its pages can be stored
IsPageMap-moved : (m : PageMap) (start len to : ℕ) → IsPageMap m → IsMove m start len to → IsPageMap (moved m start len to)
IsPageMap-moved m start len to is move =
    let source = move.source in
    let target = move.target in record {
      within = λ page past. moved-above m start len to page (omega (arith, target, past)) ∙ changed-above m start (start + len) None page (omega (arith, source, past)) ∙ is.within page past;
      prots = moved-prots m start len to is.prots;
      few = move.few;
    }

-- the reply of a change
abbrev IsDone : Reply → Type 0
IsDone Good = Unit {0}
IsDone (Num n) = n < 2 ^ 22
IsDone reply = ⊥

-- it is an object's
IsDone-object : (reply : Reply) → IsDone reply → IsObjectReply reply
IsDone-object Good done = tt
IsDone-object (Num n) done = done
IsDone-object reply done = absurd done

-- it is no refusal
IsDone-refused : (reply : Reply) (errno : Errno) → IsDone reply → reply ≡ Refused errno → ⊥
IsDone-refused Good errno done e = cc
IsDone-refused (Num n) errno done e = cc
IsDone-refused reply errno done e = done

-- a change of a range that a call makes
record IsChange (m : PageMap) (call : SpaceCall) (start len : ℕ) (prot : Option ℕ) (reply : Reply) : Type 0 where
  within : start + len ≤ 1048576
  few : length (runs (changed m start (start + len) prot)) ≤ 256
  small : IsCall call → IfSome prot (λ p. p < 8)
  done : IsDone reply

-- of the pages of a range at most all can be read
readable-le : (len prot : ℕ) → readable len prot ≤ len
readable-le len prot = cond_both ((prot % 2) == 1) len 0 (λ n. n ≤ len) (λ _. omega arith) (λ _. omega arith)

module _ (m : PageMap) (P : PageMap × Reply → Type 0) (none : (errno : Errno) → P (m, Refused errno)) where
  -- the tests of a range: what holds of both ends
  if_valid-cases : (start len : ℕ) (next : PageMap × Reply) → (start + len ≤ 1048576 → P next) → P (if_valid m start len next)
  if_valid-cases start len next holds =
      cond_both ((len == 0) || ltb 1048576 (start + len)) (m, Refused Inval) next P (λ _. none Inval)
      (λ e. holds (ltb-false 1048576 (start + len) (or_parts (len == 0) (ltb 1048576 (start + len)) e).1))

  -- the test of the number of runs
  unless_many-cases : (next : PageMap) (reply : Reply) → (length (runs next) ≤ 256 → P (next, reply)) → P (unless_many m next reply)
  unless_many-cases next reply holds =
      cond_both (leb (length (runs next)) 256) (next, reply) (m, Refused NoMem) P (λ e. holds (leb-true (length (runs next)) 256 e)) (λ _. none NoMem)

  -- that of a change
  with_range-cases : (start len : ℕ) (prot : Option ℕ) (reply : Reply) → (length (runs (changed m start (start + len) prot)) ≤ 256 → P (changed m start (start + len) prot, reply))
      → P (with_range m start len prot reply)
  with_range-cases start len prot reply holds =
      unless_many-cases (changed m start (start + len) prot) reply holds

  -- the tests of a remap
  remapped-cases : (start len to : ℕ) → (IsMove m start len to → P (moved m start len to, Num to)) → P (remapped m start len to)
  remapped-cases start len to holds =
      if_valid-cases start len _ (λ source. if_valid-cases to len _ (λ target. cond_both (share_page start to len) (m, Refused Inval) _ P (λ _. none Inval)
      (λ _. cond_both (is_mapped m start len) _ (m, Refused errnos.Fault) P
      (λ _. unless_many-cases (moved m start len to) (Num to) (λ few. holds (record { source = source; target = target; few = few }))) (λ _. none errnos.Fault))))

  module _ (call : SpaceCall) (holds : (start len : ℕ) (prot : Option ℕ) (reply : Reply) → IsChange m call start len prot reply → P (changed m start (start + len) prot, reply)) where
    -- both tests
    both-cases : (start len : ℕ) (prot : Option ℕ) (reply : Reply) → (IsCall call → IfSome prot (λ p. p < 8)) → start + len ≤ 1048576 → IsDone reply → P (with_range m start len prot reply)
    both-cases start len prot reply small within done =
        with_range-cases start len prot reply (λ few. holds start len prot reply (record { within = within; few = few; small = small; done = done }))

    -- map
    mapped-cases : (start len prot : ℕ) → (IsCall call → prot < 8) → P (mapped m start len prot)
    mapped-cases start len prot small =
        if_valid-cases start len _ (λ within. both-cases start len (Some prot) (Num start) small within (omega arith))

    -- map at a start, if there is one
    mapped_at-cases : (start : Option ℕ) (len prot : ℕ) → (IsCall call → prot < 8) → P (mapped_at m start len prot)
    mapped_at-cases None len prot small = none NoMem
    mapped_at-cases (Some start) len prot small = mapped-cases start len prot small

  -- a call is refused, changes a range, moves one, or is a fault: what holds of all four holds of its meaning
  meaning-cases : (call : SpaceCall) → ((start len : ℕ) (prot : Option ℕ) (reply : Reply) → IsChange m call start len prot reply → P (changed m start (start + len) prot, reply))
      → ((start len to : ℕ) → IsMove m start len to → P (moved m start len to, Num to)) → ((page access : ℕ) → P (m, access_reply (m page) access)) → P (meaning m call)
  meaning-cases (Map start len prot) holds moves fault =
      mapped-cases (Map start len prot) holds start len prot (λ is. is.2)
  meaning-cases (MapAny len prot) holds moves fault =
      cond_both (len == 0) (m, Refused Inval) (mapped_at m (lowest_free m len) len prot) P (λ _. none Inval) (λ _. mapped_at-cases (MapAny len prot) holds (lowest_free m len) len prot (λ is. is.1))
  meaning-cases (MapNew start len prot) holds moves fault =
      if_valid-cases start len _ (λ within. cond_both (is_free m start len) _ (m, Refused Exist) P
      (λ _. both-cases (MapNew start len prot) holds start len (Some prot) (Num start) (λ is. is.2) within (omega arith)) (λ _. none Exist))
  meaning-cases (Unmap start len) holds moves fault =
      if_valid-cases start len _ (λ within. both-cases (Unmap start len) holds start len None Good (λ is. tt) within tt)
  meaning-cases (Protect start len prot) holds moves fault =
      if_valid-cases start len _ (λ within. cond_both (is_mapped m start len) _ (m, Refused NoMem) P (λ _. both-cases (Protect start len prot) holds start len (Some prot) Good (λ is. is.2) within tt)
      (λ _. none NoMem))
  meaning-cases (Populate start len prot) holds moves fault =
      if_valid-cases start len _ (λ within. both-cases (Populate start len prot) holds start len (Some prot) (Num (readable len prot)) (λ is. is.2) within (omega (arith, readable-le len prot)))
  meaning-cases (Fault page access) holds moves fault = fault page access
  meaning-cases (Remap start len to) holds moves fault = remapped-cases start len to (moves start len to)

-- a call leads from stored pages to such
pub goes_on : (s : PageMap) (call : SpaceCall) → IsPageMap s → IsCall call → IsPageMap (meaning s call).0
goes_on s call is_s is_call =
    meaning-cases s (λ r. IsPageMap r.0) (λ _. is_s) call (λ start len prot reply c. IsPageMap-changed s start (start + len) prot is_s c.within (c.small is_call) c.few)
    (λ start len to move. IsPageMap-moved s start len to is_s move) (λ _ _. is_s)

-- what an access meets is an object's reply
access_reply-object : (o : Option ℕ) (access : ℕ) → IsObjectReply (access_reply o access)
access_reply-object None access = tt
access_reply-object (Some prot) access = cond_both ((prot / access % 2) == 1) Good AccErr IsObjectReply (λ _. tt) (λ _. tt)

-- replies are an object's
pub replies : (s : PageMap) (call : SpaceCall) → IsPageMap s → IsCall call → IsObjectReply (meaning s call).1
replies s call is_s is_call =
    meaning-cases s (λ r. IsObjectReply r.1) (λ _. tt) call (λ start len prot reply c. IsDone-object reply c.done) (λ start len to move. let target = move.target in omega (arith, target))
    (λ page access. access_reply-object (s page) access)

-- a call that reads changes nothing
pub reading : (s : PageMap) (call : SpaceCall) → reads call ≡ true → (meaning s call).0 ≡ s
reading s (Fault page access) e = refl
reading s (Map start len prot) e = absurd (false≢true e)
reading s (MapAny len prot) e = absurd (false≢true e)
reading s (MapNew start len prot) e = absurd (false≢true e)
reading s (Unmap start len) e = absurd (false≢true e)
reading s (Protect start len prot) e = absurd (false≢true e)
reading s (Populate start len prot) e = absurd (false≢true e)
reading s (Remap start len to) e = absurd (false≢true e)

-- a refused call changes nothing
pub refused : (s : PageMap) (call : SpaceCall) (errno : Errno) → (meaning s call).1 ≡ Refused errno → (meaning s call).0 ≡ s
refused s call errno =
    meaning-cases s (λ r. r.1 ≡ Refused errno → r.0 ≡ s) (λ _ _. refl) call (λ start len prot reply c e. absurd (IsDone-refused reply errno c.done e)) (λ start len to _ e. absurd cc) (λ _ _ _. refl)

-- two tests of which neither tells a call
none_twice : (test inner : Bool) → cond {A = Option SpaceCall} test (cond inner None None) None ≡ None
none_twice test inner = ap (λ o. cond test o None) (none_either inner) ∙ none_either test

-- the words of a signal are no call
pub signals : (w : CallWords) (task : ℕ) → signal_of w ≡ Some task → call_of w ≡ None
signals w task is = let kind = signal_kind w task is in rw kind (none_twice _ _)

-- the words are as many as may be
pub few_words : 257 ≤ 257
few_words = omega arith
