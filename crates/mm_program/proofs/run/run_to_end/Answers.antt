use Rattle.mm_program.proofs.run.run_to_end.Goals as goal

pub returns-clause-serves : goal.returns-clause-serves
returns-clause-serves g c = (c.run.new.kept, c.run.ensures.answer, c.run.ensures.complete)
