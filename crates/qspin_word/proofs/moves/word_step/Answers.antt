use Rattle.std.proofs.Common.{arith}
use Rattle.qspin_word.proofs.moves.word_step.Goals as goal

pub spin_step-requires-clause-inside : goal.spin_step-requires-clause-inside
spin_step-requires-clause-inside g c = let l = c.requires.there in let e = g.H.SpinHost.spin_eight in omega (arith, l, e)
