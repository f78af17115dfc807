-- A word that is too large is that of no slot; others are those of one list of slots.
use Rattle.std.proofs.Common.{◌≡◌, ◌<◌, map, get_or, IfSome, refl, ap, sym, ◌∙◌, arith}
use Rattle.std.proofs.lemmas.Grind.{common_steps}
use Rattle.std.proofs.lemmas.List.{take_all, length-set}
use Rattle.fd_table.specs.Tables.{slot_word}
use Rattle.fd_table.proofs.SlotLemmas.{IsTable-free, map-slot_word-injective, files-set, words-more, words-large}
use Rattle.fd_table.proofs.words.load.Goals as goal
use Rattle.fd_table.proofs.words.load.Goals.{Joined-word, in-0, in_default+in_ok-ok-in_default}

pub loop-fd-init : goal.loop-fd-init
loop-fd-init c = record { all = IsTable-free.all; files = IsTable-free.files; words = refl }

pub returns-in_err-ok-in_default : goal.returns-in_err-ok-in_default
returns-in_err-ok-in_default c =
    rw c.from_residual.ensures (λ files is. words-large c.args.words.now c.loop-fd.fd c.requires c.loop-fd-test.true (grind (arith, common_steps)) files is)

-- the slot of the word has a file of 16 bits, if it has one
slot-small : (c : Joined-word) → IfSome c.match-word.files (λ file. file < 65536)
slot-small c =
    elim c.match-word.branch [ in-0 w ↦ rw w.files-is tt | in_default+in_ok-ok-in_default w ↦ rw w.files-is (grind (arith, common_steps)) ]

-- the slot of the word has the word
slot-word : (c : Joined-word) → slot_word c.match-word.files ≡ get_or c.args.words.now c.loop-fd.fd 0
slot-word c =
    elim c.match-word.branch [ in-0 w ↦ rw w.files-is (grind (arith, common_steps)) | in_default+in_ok-ok-in_default w ↦ rw w.files-is (grind (arith, common_steps)) ]

pub loop-fd-preserved : goal.loop-fd-preserved
loop-fd-preserved c =
    let before = c.loop-fd.invariant in
    let slot = c.match-word.files in
    record {
      all = length-set c.loop-fd.files c.loop-fd.fd slot ∙ before.all;
      files = files-set c.loop-fd.files c.loop-fd.fd slot before.files (slot-small c);
      words = words-more c.loop-fd.files c.args.words.now c.loop-fd.fd slot (before.all ∙ sym c.requires) c.loop-fd-test.true before.words (slot-word c);
    }

pub returns : goal.returns
returns c =
    let before = c.loop-fd.invariant in
    let same = ap (map slot_word) (sym (take_all c.loop-fd.fd c.loop-fd.files (omega arith))) ∙ before.words ∙ take_all c.loop-fd.fd c.args.words.now c.loop-fd-test.false in
    ((record { all = before.all; files = before.files }, same), λ files is. map-slot_word-injective files c.loop-fd.files (is.1 ∙ sym same))
