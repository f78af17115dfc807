use Rattle.std.proofs.Common.{arith, ap, sym, ◌∙◌}
use Rattle.mutex_slow.specs.Mutexes.{V}
use Rattle.mutex_slow.specs.Types.{Face}
use Rattle.mutex_slow.proofs.leave.quit.Goals as goal

pub remove-requires-clause-task : goal.remove-requires-clause-task
remove-requires-clause-task g c = (c.requires.own.planned c.in-Some.task (sym c.task.ensures ∙ c.in-Some.is)).0

pub returns-then-is_none-clause-on : goal.returns-then-is_none-clause-on
returns-then-is_none-clause-on g c = let remove = c.remove.ensures.later in let first = c.first.ensures.later in let clear = ap (λ (v : V). v.steps) c.clear_flags.ensures.kept in record {
  own = c.clear_flags.ensures.on.own;
  task = ap (λ (f : Face). f.task) (c.clear_flags.ensures.face ∙ (c.first.ensures.face ∙ c.remove.ensures.face));
  goes_on = λ p t. c.clear_flags.ensures.on.goes_on p (c.first.ensures.on.goes_on p (c.remove.ensures.on.goes_on p t));
  steps = omega (arith, remove, first, clear);
}

pub returns-else-is_none-clause-on : goal.returns-else-is_none-clause-on
returns-else-is_none-clause-on g c = let remove = c.remove.ensures.later in let first = c.first.ensures.later in record {
  own = c.first.ensures.on.own;
  task = ap (λ (f : Face). f.task) (c.first.ensures.face ∙ c.remove.ensures.face);
  goes_on = λ p t. c.first.ensures.on.goes_on p (c.remove.ensures.on.goes_on p t);
  steps = omega (arith, remove, first);
}
