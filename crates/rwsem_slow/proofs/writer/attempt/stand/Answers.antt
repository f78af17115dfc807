use Rattle.rwsem_slow.proofs.writer.attempt.stand.Goals as goal

pub returns-clause-goes_on : goal.returns-clause-goes_on
returns-clause-goes_on g c = λ p t. c.is_alone-alone.ensures.on.goes_on p (c.look_listed-count.ensures.on.goes_on p (c.first-first.ensures.on.goes_on p t))
