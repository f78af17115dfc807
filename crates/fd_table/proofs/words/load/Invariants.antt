-- The slots so far have the words so far.
use Rattle.std.proofs.Common.{◌≡◌, ℕ, ◌<◌, length, map, take, IfSome}
use Rattle.fd_table.specs.Tables.{fd_map, slot_word}
use Rattle.fd_table.proofs.words.load.Given as goal

abbrev pub invariant-loop-fd : goal.invariant-loop-fd
invariant-loop-fd l = record {
  all : length l.files ≡ 64;
  files : (fd : ℕ) → IfSome (fd_map l.files fd) (λ file. file < 65536);
  words : map slot_word (take l.fd l.files) ≡ take l.fd l.words;
}
