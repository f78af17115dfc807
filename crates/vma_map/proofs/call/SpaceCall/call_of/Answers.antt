-- What is returned is what the meaning of the words says, which is exact.
use Rattle.std.proofs.Common.{◌≡◌, subst, arith}
use Rattle.std.proofs.lemmas.Grind.{common_steps}
use Rattle.word_bits.specs.Packed.{IsFound}
use Rattle.vma_map.specs.Spaces.{IsCallOf, call_of}
use Rattle.vma_map.specs.Laws.SpaceCall.{call_of-exact}
use Rattle.vma_map.proofs.call.SpaceCall.call_of.Goals as goal

pub returns-clause-exact : goal.returns-clause-exact
returns-clause-exact c =
    let value : call_of c.args.words ≡ c.call_in.result = grind (arith, common_steps) in
    subst (IsFound (IsCallOf c.args.words)) value (call_of-exact c.args.words)
