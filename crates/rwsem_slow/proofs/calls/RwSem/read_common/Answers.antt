use Rattle.std.proofs.Common.{◌≡◌, ◌∙◌, ℕ, ◌+◌, true, false, refl, sym, ap, subst, arith}
use Rattle.lock_core.specs.Pasts.{FoundAt}
use Rattle.osq_nodes.specs.OsqHandles.{fronts_in, swaps_in}
use Rattle.rwsem_count.specs.CountWordSteps.{IsReadFree}
use Rattle.rwsem_count.proofs.Counting.{free-or-shut}
use Rattle.rwsem_slow.specs.RwSemHandles.{shown_of}
use Rattle.rwsem_wake.specs.RwSemViews.{V, count_at}
use Rattle.rwsem_slow.specs.Stealing.{left_by}
use Rattle.rwsem_slow.specs.Types.{Tally, Hand, Shared}
use Rattle.rwsem_slow.proofs.BiasHolds.{quit-place, went-got, went-place}
use Rattle.rwsem_slow.proofs.Showing.{first-sees, first-tried, waits-quit}
use Rattle.lock_core.proofs.Within.{err-all, tallies-answer}
use Rattle.rwsem_wake.specs.RwSemPlaces.{seen_of}
use Rattle.rwsem_slow.proofs.Counting.{between-on, counts-reading}
use Rattle.rwsem_slow.proofs.Opening.{slow-reads, takes-within, took-since}
use Rattle.rwsem_slow.proofs.calls.RwSem.read_common.Goals as goal

pub read_slowly-got-requires-clause-left : goal.read_slowly-got-requires-clause-left
read_slowly-got-requires-clause-left g c = let t = c.in-Err.ensures.transit in t.1 ∙ sym (ap (λ (z : V). left_by z.ext.sem.bias) t.3)

pub returns-in-Err-clause-how : goal.returns-in-Err-clause-how
returns-in-Err-clause-how g c = went-got (fronts_in c.args.pass.now.queue) (swaps_in c.args.pass.now.queue) c.args.pass.now.tally c.answer.new.self c.in-Err.left c.args.pass.now.pass.seat.me.0.view c.read_add.new.pass.seat.me.0.view c.read_slowly-got.new.pass.seat.me.0.view c.args.pass.now.pass.seat.me.0.past c.read_slowly-got.new.pass.seat.me.0.past c.in-Err.ensures.transit c.read_add.new.pass.seat.me.0.past c.read_slowly-got.result c.read_slowly-got.ensures.line

pub returns-in-Err-clause-line : goal.returns-in-Err-clause-line
returns-in-Err-clause-line g c = went-place (fronts_in c.args.pass.now.queue) (swaps_in c.args.pass.now.queue) c.args.pass.now.tally c.answer.new.self c.in-Err.left c.args.pass.now.pass.seat.me.0.view c.read_add.new.pass.seat.me.0.view c.read_slowly-got.new.pass.seat.me.0.view c.args.pass.now.pass.seat.me.0.past c.read_slowly-got.new.pass.seat.me.0.past c.in-Err.ensures.transit
    c.read_add.new.pass.seat.me.0.past c.read_add.ensures.on.last c.in-Err.ensures.left c.read_slowly-got.ensures.on.steps c.read_add.ensures.on.goes_on c.read_slowly-got.ensures.on.goes_on c.read_slowly-got.result c.read_slowly-got.ensures.line

pub returns-in-Err-clause-stood : goal.returns-in-Err-clause-stood
returns-in-Err-clause-stood g c = quit-place (fronts_in c.args.pass.now.queue) (swaps_in c.args.pass.now.queue) c.args.pass.now.tally c.answer.new.self c.in-Err.left c.args.pass.now.pass.seat.me.0.view c.read_add.new.pass.seat.me.0.view c.read_slowly-got.new.pass.seat.me.0.view c.args.pass.now.pass.seat.me.0.past c.read_slowly-got.new.pass.seat.me.0.past c.in-Err.ensures.transit c.read_slowly-got.result c.read_slowly-got.ensures.lock

pub returns-in-Err-clause-interrupted : goal.returns-in-Err-clause-interrupted
returns-in-Err-clause-interrupted g c = let fronts = fronts_in c.args.pass.now.queue in let swaps = swaps_in c.args.pass.now.queue in let tally = c.args.pass.now.tally in let v = c.args.pass.now.pass.seat.me.0 in let a = c.read_add.new.pass.seat.me.0 in let u = c.read_slowly-got.new.pass.seat.me.0 in
    let transit = c.in-Err.ensures.transit in let word = transit.0 in let left = c.in-Err.ensures.left in let is = transit.3 in let sum = transit.1 in let total = left.2 in let same : left.0 ≡ word = omega (arith, sum, total) in
    let shut = subst (λ (n : ℕ). IsReadFree n → ⊥) sum left.3 in let hand = ap (λ (z : V). z.hand) is in let steps = ap (λ (z : V). z.steps) is in let appends = ap (λ (z : V). z.ext.appends) is in
    waits-quit fronts swaps tally c.answer.new.self true word (shown_of c.args.pass.now) a.view u.view a.past u.past
    (first-tried fronts swaps tally word v.view a.view v.past a.past hand steps (ap (λ (z : V). z.spin.entries) is) appends)
    (ap (λ (n : ℕ). record { appends = n }) appends) c.read_add.ensures.on.goes_on (ap (λ (h : Hand). h.held) hand ∙ c.requires.out)
    (first-sees fronts swaps tally word v.view a.view v.past a.past hand steps true c.read_add.ensures.on.last (subst (λ (n : ℕ). FoundAt count_at n a.past) same left.1) c.read_add.ensures.on.goes_on
    (free-or-shut word (word + 256) transit.2 (omega arith) (omega arith) (λ f none. absurd (shut f)) (λ not flags. (transit.2, flags))))
    c.read_slowly-got.ensures.on.steps c.read_slowly-got.ensures.on.goes_on
    c.read_slowly-got.result c.read_slowly-got.ensures.lock c.read_slowly-got.ensures.waited c.read_slowly-got.ensures.consumed c.read_slowly-got.ensures.pending

pub returns-in-Ok-clause-opened : goal.returns-in-Ok-clause-opened
returns-in-Ok-clause-opened g c = λ _. let v = c.args.pass.now.pass.seat.me.0 in let u = c.read_add.new.pass.seat.me.0 in let free = c.in-Ok.ensures.free in let shown_v = shown_of c.args.pass.now in let noted = ap (λ (z : V). z.steps) c.note_reader.ensures.kept in
    takes-within Shared (λ n. IsReadFree (n + 256)) shown_v shown_v (shown_of (record { pass = c.read_add.new.pass; queue = c.args.pass.now.queue; tally = c.args.pass.now.tally; counts = c.args.pass.now.counts })) (shown_of (record { pass = c.note_reader.new.pass; queue = c.args.pass.now.queue; tally = c.args.pass.now.tally; counts = c.args.pass.now.counts })) refl (omega arith) (λ p t. t)
    (took-since g.O.Object.object c.args.self.now.site.table.shared.key Shared (λ n. IsReadFree (n + 256)) v.view u.view v.past u.past free.0 (v.view.steps, omega arith, c.in-Ok.ensures.took) c.read_add.ensures.on.last c.read_add.ensures.on.goes_on free.1 free.2)
    (omega (arith, noted)) c.note_reader.ensures.on.goes_on

pub returns-in-Err-clause-opened : goal.returns-in-Err-clause-opened
returns-in-Err-clause-opened g c = slow-reads _ c.in-Err.left (seen_of c.read_add.new.pass) (seen_of c.read_slowly-got.new.pass) c.read_slowly-got.result c.read_slowly-got.ensures.line

pub returns-in-Err-clause-counts : goal.returns-in-Err-clause-counts
returns-in-Err-clause-counts g c = let added = ap (λ (z : V). z.steps) c.in-Err.ensures.transit.3 in
    counts-reading c.in-Err.left _ _ _ _ (shown_of c.args.pass.now) (shown_of (record { pass = c.read_slowly-got.new.pass; queue = c.args.pass.now.queue; tally = c.answer.new.self; counts = c.read_slowly-got.new.counts })) (seen_of c.read_add.new.pass) (seen_of c.read_slowly-got.new.pass) c.read_slowly-got.result c.read_slowly-got.ensures.line
    (between-on _ _ _ _ _ _ _ _ c.read_slowly-got.ensures.sleeps (omega (arith, added)) (omega arith) refl refl) c.read_slowly-got.ensures.rescheds c.read_slowly-got.ensures.awake

pub returns-in-Err-clause-slept : goal.returns-in-Err-clause-slept
returns-in-Err-clause-slept g c = let added = ap (λ (z : V). z.steps) c.in-Err.ensures.transit.3 in
    err-all c.read_slowly-got.result (between-on _ _ _ _ _ _ _ _ c.read_slowly-got.ensures.sleeps (omega (arith, added)) (omega arith) refl refl)

pub returns-in-Err-clause-unasked : goal.returns-in-Err-clause-unasked
returns-in-Err-clause-unasked g c = err-all c.read_slowly-got.result c.read_slowly-got.ensures.rescheds

-- a reader doesn't enter the spin queue
pub returns-in-Err-clause-tallied : goal.returns-in-Err-clause-tallied
returns-in-Err-clause-tallied g c = let v = shown_of c.args.pass.now in
    tallies-answer c.read_slowly-got.result v v (shown_of (record { pass = c.read_slowly-got.new.pass; queue = c.args.pass.now.queue; tally = c.answer.new.self; counts = c.read_slowly-got.new.counts })) (false, omega arith, refl) c.answer.ensures refl refl

pub returns-in-Err-clause-left : goal.returns-in-Err-clause-left
returns-in-Err-clause-left g c = λ other. absurd (other (ap (λ (t : Tally). t.left) c.answer.ensures))
