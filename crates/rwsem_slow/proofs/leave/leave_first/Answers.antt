use Rattle.std.proofs.Common.{◌≡◌, ◌∙◌, ◌+◌, Bool, ℕ, ap, sym, subst, arith}
use Rattle.lock_core.specs.Records.{bit}
use Rattle.lock_core.specs.Shown.{FindsSince}
use Rattle.lock_core.proofs.Within.{since-within}
use Rattle.wait_list.specs.Lists.{first_code, without}
use Rattle.rwsem_count.specs.Counts.{shared_weight}
use Rattle.rwsem_slow.specs.Types.{SemHand}
use Rattle.rwsem_wake.specs.Grants.{summing}
use Rattle.rwsem_wake.specs.SemParts.{some_of}
use Rattle.rwsem_wake.specs.RwSemPlaces.{seen_of}
use Rattle.rwsem_wake.specs.RwSemViews.{V, list_at}
use Rattle.rwsem_wake.proofs.FirstLooks.{any-other}
use Rattle.rwsem_slow.proofs.Quitting.{empty-stage, left-empty, left-others, others-rest, unmarked-first, unmarked-is, unmarked-list, wakes-nobody, wakes-others}
use Rattle.rwsem_wake.specs.RwSemWakes.{woken_tasks}
use Rattle.rwsem_slow.proofs.leave.leave_first.Goals as goal

pub remove_first-requires-clause-unmarked : goal.remove_first-requires-clause-unmarked
remove_first-requires-clause-unmarked g c = unmarked-is c.args.pass.now.seat.me.0.view c.unmark.new.pass.seat.me.0.view c.unmark.ensures.kept c.requires.list c.requires.may

pub remove_first-requires-clause-list : goal.remove_first-requires-clause-list
remove_first-requires-clause-list g c = unmarked-list c.args.pass.now.seat.me.0.view c.unmark.new.pass.seat.me.0.view c.unmark.ensures.kept c.requires.list

pub remove_first-requires-clause-first : goal.remove_first-requires-clause-first
remove_first-requires-clause-first g c = unmarked-first c.args.pass.now.seat.me.0.view c.unmark.new.pass.seat.me.0.view c.unmark.ensures.kept _ c.requires.first

pub clear_flags-requires-clause-emptied : goal.clear_flags-requires-clause-emptied
clear_flags-requires-clause-emptied g c = ap (λ (s : SemHand). s.stage) (empty-stage (woken_tasks c.args.woken.now) c.args.pass.now.seat.me.0.view c.unmark.new.pass.seat.me.0.view c.remove_first.new.pass.seat.me.0.view (summing c.args.pass.now.seat.me.0.view.ext.sem) c.unmark.ensures.kept c.unmark.ensures.on.steps c.remove_first.result c.remove_first.ensures.gone c.if-remove_first.true)

pub clear_flags-requires-clause-clear : goal.clear_flags-requires-clause-clear
clear_flags-requires-clause-clear g c = ap (λ (s : SemHand). s.bias) (empty-stage (woken_tasks c.args.woken.now) c.args.pass.now.seat.me.0.view c.unmark.new.pass.seat.me.0.view c.remove_first.new.pass.seat.me.0.view (summing c.args.pass.now.seat.me.0.view.ext.sem) c.unmark.ensures.kept c.unmark.ensures.on.steps c.remove_first.result c.remove_first.ensures.gone c.if-remove_first.true)

pub wake-requires-clause-rests : goal.wake-requires-clause-rests
wake-requires-clause-rests g c = others-rest (woken_tasks c.args.woken.now) c.args.pass.now.seat.me.0.view c.unmark.new.pass.seat.me.0.view c.remove_first.new.pass.seat.me.0.view (summing c.args.pass.now.seat.me.0.view.ext.sem) c.unmark.ensures.kept c.unmark.ensures.on.steps c.remove_first.result c.remove_first.ensures.gone c.if-remove_first.false

pub wake-requires-clause-may : goal.wake-requires-clause-may
wake-requires-clause-may g c = ap shared_weight (ap (λ (z : V). z.hand.held) c.remove_first.ensures.gone.is ∙ (ap (λ (z : V). z.hand.held) c.unmark.ensures.kept ∙ (sym c.requires.own.held ∙ c.requires.out)))

pub returns-then-remove_first-clause-left : goal.returns-then-remove_first-clause-left
returns-then-remove_first-clause-left g c = left-empty (woken_tasks c.args.woken.now) c.args.pass.now.seat.me.0.view c.unmark.new.pass.seat.me.0.view c.remove_first.new.pass.seat.me.0.view (summing c.args.pass.now.seat.me.0.view.ext.sem) c.unmark.ensures.kept c.unmark.ensures.on.steps c.remove_first.result c.remove_first.ensures.gone c.clear_flags.new.pass.seat.me.0.view c.if-remove_first.true c.requires.empty c.clear_flags.ensures.kept

pub returns-else-remove_first-clause-left : goal.returns-else-remove_first-clause-left
returns-else-remove_first-clause-left g c = left-others (woken_tasks c.wake.new.woken) c.args.pass.now.seat.me.0.view c.unmark.new.pass.seat.me.0.view c.remove_first.new.pass.seat.me.0.view (summing c.args.pass.now.seat.me.0.view.ext.sem) c.unmark.ensures.kept c.unmark.ensures.on.steps c.remove_first.result c.remove_first.ensures.gone c.wake.new.pass.seat.me.0.view c.if-remove_first.false c.wake.ensures.wakes.beside c.wake.ensures.wakes.rests c.wake.ensures.wakes.chosen

pub returns-then-remove_first-clause-woken : goal.returns-then-remove_first-clause-woken
returns-then-remove_first-clause-woken g c = wakes-nobody c.remove_first.new.pass.seat.me.0.view.ext.list.list (without c.args.task c.args.pass.now.seat.me.0.view.ext.list.list) (woken_tasks c.args.woken.now) (seen_of c.args.pass.now) (seen_of c.clear_flags.new.pass)
    (subst (λ (b : Bool). bit b + some_of c.remove_first.new.pass.seat.me.0.view.ext.list.list ≡ 1) c.if-remove_first.true c.remove_first.ensures.none_left) (c.remove_first.ensures.left ∙ ap (λ (z : V). without c.args.task z.ext.list.list) c.unmark.ensures.kept) c.requires.empty

pub returns-else-remove_first-clause-woken : goal.returns-else-remove_first-clause-woken
returns-else-remove_first-clause-woken g c = let wakes = c.wake.ensures.wakes in let gone = c.remove_first.ensures.gone in let later = c.unmark.ensures.on.steps in let more = gone.later in
    wakes-others wakes.was (without c.args.task c.args.pass.now.seat.me.0.view.ext.list.list) (woken_tasks c.wake.new.woken) wakes.written (seen_of c.args.pass.now) (seen_of c.remove_first.new.pass) (seen_of c.wake.new.pass)
    (wakes.before gone.list.knows ∙ (c.remove_first.ensures.left ∙ ap (λ (z : V). without c.args.task z.ext.list.list) c.unmark.ensures.kept)) (wakes.saw any-other) wakes.woken_are
    (ap (λ (z : V). z.hand.task) gone.is ∙ ap (λ (z : V). z.hand.task) c.unmark.ensures.kept) (omega (arith, later, more)) (λ p t. c.remove_first.ensures.goes_on p (c.unmark.ensures.on.goes_on p t))

pub returns-then-remove_first-clause-found : goal.returns-then-remove_first-clause-found
returns-then-remove_first-clause-found g c = let later = c.unmark.ensures.on.steps in let last = ap (λ (z : V). z.steps) c.clear_flags.ensures.kept in
    subst (λ (n : ℕ). FindsSince list_at n (seen_of c.args.pass.now) (seen_of c.clear_flags.new.pass)) (ap (λ (z : V). first_code (without c.args.task z.ext.list.list)) c.unmark.ensures.kept)
    (since-within (seen_of c.args.pass.now) (seen_of c.unmark.new.pass) (seen_of c.remove_first.new.pass) (seen_of c.clear_flags.new.pass) (ap (λ (z : V). z.hand.task) c.unmark.ensures.kept) (omega (arith, later)) c.unmark.ensures.on.goes_on c.remove_first.ensures.found (omega (arith, last)) c.clear_flags.ensures.on.goes_on)

pub returns-else-remove_first-clause-found : goal.returns-else-remove_first-clause-found
returns-else-remove_first-clause-found g c = let later = c.unmark.ensures.on.steps in let last = c.wake.ensures.on.steps in
    subst (λ (n : ℕ). FindsSince list_at n (seen_of c.args.pass.now) (seen_of c.wake.new.pass)) (ap (λ (z : V). first_code (without c.args.task z.ext.list.list)) c.unmark.ensures.kept)
    (since-within (seen_of c.args.pass.now) (seen_of c.unmark.new.pass) (seen_of c.remove_first.new.pass) (seen_of c.wake.new.pass) (ap (λ (z : V). z.hand.task) c.unmark.ensures.kept) (omega (arith, later)) c.unmark.ensures.on.goes_on c.remove_first.ensures.found (omega (arith, last)) c.wake.ensures.on.goes_on)
