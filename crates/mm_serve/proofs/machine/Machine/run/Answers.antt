use Rattle.std.proofs.Common.{refl, ap, length, ◌∙◌, subst, List}
use Rattle.mm_serve.specs.MachineCopying.{IsCopied, KnowPasts}
use Rattle.mm_serve.specs.MachineQueues.{GoesBackToTasks}
use Rattle.mm_serve.specs.Workers.{EachOf}
use Rattle.mm_serve.proofs.Copies.{all-legal, all-complete}
use Rattle.mm_serve.proofs.Each.{each-map}
use Rattle.mm_serve.proofs.machine.Machine.run.Goals as goal

pub returns-clause-ran : goal.returns-clause-ran
returns-clause-ran g c = record {
  sites = refl;
  long = c.run.ensures.long ∙ ap length c.as_slice.ensures.value;
  copied = subst (λ (sites : List g.row.S.Denot). EachOf (IsCopied g.S.SharedObject.idle g.S.SharedObject.hand g.S.SharedObject.past g.S.SharedObject.is_space g.S.SharedObject.calls_on c.run.new.results) sites c.run.new.gathered.items) c.as_slice.ensures.value c.run.ensures.copied;
}

pub returns-clause-legal : goal.returns-clause-legal
returns-clause-legal g c = λ script is.
    let ran = returns-clause-ran g c in
    let sites = c.args.self.now.sites.items in
    let legal = all-legal g.S.SharedObject.idle g.S.SharedObject.hand g.S.SharedObject.past g.S.SharedObject.is_space g.S.SharedObject.calls_on script sites c.run.new.gathered.items c.run.new.results is.many is.plans is.kinds ran.copied ran.long in record {
      complete = all-complete g.S.SharedObject.idle g.S.SharedObject.hand g.S.SharedObject.past g.S.SharedObject.is_space g.S.SharedObject.calls_on script sites c.run.new.gathered.items c.run.new.results is.many is.plans is.kinds ran.copied ran.long;
      told = legal.0;
      legal = legal.1;
      known = legal.2;
    }

pub returns-clause-rest : goal.returns-clause-rest
returns-clause-rest g c =
    each-map (IsCopied g.S.SharedObject.idle g.S.SharedObject.hand g.S.SharedObject.past g.S.SharedObject.is_space g.S.SharedObject.calls_on c.run.new.results) (λ k s p. g.S.SharedObject.idle s p) c.args.self.now.sites.items c.run.new.gathered.items (returns-clause-ran g c).copied
    (λ k s p lt at r. r.0)

pub returns-clause-past : goal.returns-clause-past
returns-clause-past g c = subst (λ (sites : List g.row.S.Denot). KnowPasts g.S.SharedObject.knows_past sites c.run.new.gathered.items) c.as_slice.ensures.value c.run.ensures.past

pub returns-clause-tasks : goal.returns-clause-tasks
returns-clause-tasks g c = subst (λ (sites : List g.row.S.Denot). EachOf (λ k s p. GoesBackToTasks g.S.SharedObject.looked_back g.S.SharedObject.past g.S.SharedObject.spun g.S.SharedObject.calls_on s p) sites c.run.new.gathered.items) c.as_slice.ensures.value c.run.ensures.tasks
