use Rattle.std.proofs.Common.{◌≡◌, ◌∙◌, ◌-◌, ◌++◌, ◌∷◌, [], length, map, suc, sym, ap, arith, is_some, Ok, vec_len}
use Rattle.task_script.specs.Inside.{declared_of}
use Rattle.task_script.specs.Scripts.{Listing}
use Rattle.task_script.proofs.Listings.{call_added}
use Rattle.task_script.specs.Grammar.{line_of}
use Rattle.task_script.proofs.draft.Draft.push_call.Goals as goal

pub returns : goal.returns
returns c =
    let calls = c.unwrap-calls.result in
    let last = rw c.unwrap-calls.ensures at c.last_mut.ensures.value in
    let some : length c.self.inside.tasks.items ≡ suc (vec_len c.self.inside.tasks - 1) = omega (arith, c.last_mut.ensures.variant.0 (ap is_some c.unwrap-calls.ensures), c.self.inside.tasks.ok.0) in
    let pushed : c.push.new.self.items ≡ calls.now.items ++ line_of c.args.object c.args.call ∷ [] = (rw c.if-is_err.ensures.negation at c.push.ensures.items) ∙ ap (λ l. calls.now.items ++ l ∷ []) c.new.ensures in
    rw (← c.self.view_is) (ap (λ ts. Ok (let l : Listing = record { version = c.self.inside.version; objects = map declared_of c.self.inside.objects.entries; tasks = ts } in l)) (sym (call_added c.self.inside.tasks.items calls.now c.push.new.self (line_of c.args.object c.args.call) (vec_len c.self.inside.tasks - 1) some last pushed)))
