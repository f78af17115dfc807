use Rattle.std.proofs.Common.{◌≡◌, ◌+◌, ◌*◌, ◌≤◌, length, sym, subst, ◌∙◌, Result, Ok, Err}
use Rattle.std.specs.Result.{IfOk, IsErrAnd, MatchResult}
use Rattle.std.proofs.lemmas.Result.{IfOk-weaker}
use Rattle.task_script.specs.Inside.{listing}
use Rattle.task_script.specs.Scripts.{count_of_calls}
use Rattle.task_script.specs.Sound.{IsSound}
use Rattle.task_script.proofs.FewCalls.{few_calls}
use Rattle.task_script.proofs.Soundness.{accepted_sound}
use Rattle.task_script.proofs.reader.read.Goals as goal

pub new-requires : goal.new-requires
new-requires c = record { sound = subst IsSound (sym c.version.view_is) (accepted_sound c.args.bytes.now c.in_ok-version.field-0 c.in_ok-version.ensures) }

-- an error that is replaced changes nothing of a value
replaced : {T E F : Type 0} (Q : E → F → Type 0) (r : Result T E) (q : Result T F) (P : T → Type 0) → MatchResult r (λ x. q ≡ Ok x) (λ e. IsErrAnd q (Q e)) → IfOk r P → IfOk q P
replaced Q (Ok x) q P is holds = subst (λ s. IfOk s P) (sym is) holds
replaced Q (Err e) (Ok x) P is holds = absurd is
replaced Q (Err e) (Err f) P is holds = tt

pub returns-clause-few : goal.returns-clause-few
returns-clause-few c = replaced _ c.new.result c.map_err.result (λ s. 8 * count_of_calls s ≤ length c.args.bytes.now + 1) c.map_err.ensures.cases
    (IfOk-weaker c.new.result (λ s. s ≡ listing c.version.inside.version c.version.inside.objects.entries c.version.inside.tasks.items) (λ s. 8 * count_of_calls s ≤ length c.args.bytes.now + 1)
    (λ s is. subst (λ s. 8 * count_of_calls s ≤ length c.args.bytes.now + 1) (sym (is ∙ c.version.view_is)) (few_calls c.args.bytes.now c.in_ok-version.field-0 c.in_ok-version.ensures)) c.new.ensures.parts)

pub returns-clause-sound : goal.returns-clause-sound
returns-clause-sound c = replaced _ c.new.result c.map_err.result IsSound c.map_err.ensures.cases
    (IfOk-weaker c.new.result (λ s. s ≡ listing c.version.inside.version c.version.inside.objects.entries c.version.inside.tasks.items) IsSound
    (λ s is. subst IsSound (sym (is ∙ c.version.view_is)) (accepted_sound c.args.bytes.now c.in_ok-version.field-0 c.in_ok-version.ensures)) c.new.ensures.parts)
