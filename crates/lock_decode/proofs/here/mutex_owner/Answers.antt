use Rattle.std.proofs.Common.{◌≤◌, ◌/◌, arith}
use Rattle.word_bits.specs.declared.TheConstants.{MAX_TASKS}
use Rattle.lock_decode.proofs.Exist.{owner}
use Rattle.lock_decode.proofs.here.mutex_owner.Goals as goal

pub returns-in_default : goal.returns-in_default
returns-in_default c =
    let large : c.args.word / 8 ≤ MAX_TASKS → ⊥ = λ small. let o = owner c.args.word small in c.in_default.ensures o.0 (o.1, o.2) in
    record { told = λ o can. c.in_default.ensures o (can.0.ranged, can.1); why = omega (arith, large) }
