-- The bit of the access tells the reply.
use Rattle.std.proofs.Common.{sym, ap, ◌∙◌}
use Rattle.vma_map.specs.Spaces.{access_reply}
use Rattle.vma_map.proofs.FaultLemmas.{access_reply-set, access_reply-clear}
use Rattle.vma_map.proofs.calls.meet.Goals as goal

pub returns-in-Some : goal.returns-in-Some
returns-in-Some c =
    sym (access_reply-set c.in-Some.prot c.args.access c.requires c.if-prot-access-ne0.true) ∙ ap (λ o. access_reply o c.args.access) (sym c.in-Some.is)

pub returns-in-Some-2 : goal.returns-in-Some-2
returns-in-Some-2 c =
    sym (access_reply-clear c.in-Some.prot c.args.access c.requires c.if-prot-access-ne0.false) ∙ ap (λ o. access_reply o c.args.access) (sym c.in-Some.is)
