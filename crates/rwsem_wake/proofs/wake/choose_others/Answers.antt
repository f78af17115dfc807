use Rattle.std.proofs.Common.{sym, subst, ℕ, List}
use Rattle.std.proofs.lemmas.List.{append-nil}
use Rattle.rwsem_wake.specs.Removals.{Chose}
use Rattle.rwsem_wake.proofs.Owing.{written-left}
use Rattle.rwsem_wake.proofs.wake.choose_others.Goals as goal

pub returns-then-has_writer-clause-chosen : goal.returns-then-has_writer-clause-chosen
returns-then-has_writer-clause-chosen g c = let b = c.args.pass.now.seat.me.0.view.ext.wake in record {
  chose = subst (λ (tasks : List ℕ). Chose tasks b b) (sym c.requires.empty) (λ i. record b { chosen = sym (append-nil b.chosen) i });
  clear = c.requires.owes (written-left c.args.count (c.has_writer.ensures.0 c.if-has_writer.true));
}
