use Rattle.std.proofs.Common.{map, sym, ap, ◌∙◌, Ok}
use Rattle.task_script.specs.Inside.{declared_of}
use Rattle.task_script.specs.Scripts.{Listing}
use Rattle.task_script.proofs.Listings.{declared_new, named_more, on_ok}
use Rattle.task_script.proofs.draft.Draft.push_object.Goals as goal

pub returns : goal.returns
returns c =
    let all = declared_new c.args.name c.args.kind c.self.inside.objects.entries (rw (← c.self.view_is) at c.requires.new) in
    let entries = on_ok c.insert.result c.if-is_err.ensures.negation c.insert.ensures.entries in
    rw (← c.self.view_is) (ap (λ objects. Ok (let l : Listing = record { version = c.self.inside.version; objects = objects; tasks = map (λ v. v.items) c.self.inside.tasks.items } in l)) (sym (ap (map declared_of) entries ∙ all)))

pub invariant_of-self-2 : goal.invariant_of-self-2
invariant_of-self-2 c =
    let all = declared_new c.args.name c.args.kind c.self.inside.objects.entries (rw (← c.self.view_is) at c.requires.new) in
    let entries = on_ok c.insert.result c.if-is_err.ensures.negation c.insert.ensures.entries in
    named_more (map declared_of c.self.inside.objects.entries) (declared_of (c.args.name, c.args.kind)) c.insert.new.self.entries (ap (map declared_of) entries ∙ all) (rw (← c.self.view_is) at c.requires.few) c.self.invariant.1 c.requires.named
