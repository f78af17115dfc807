use Rattle.std.proofs.Common.{arith}
use mathlib.Core.Option.{none}
use Rattle.atomic_table.specs.Table.{step}
use Rattle.lock_core.specs.Ops.{first_of, second_of, told_by}
use Rattle.lock_core.specs.Pasts.{unseen, opening}
use Rattle.lock_core.specs.Types.{Load, Store, Swap, Add, Sub, Or, And, Exchange}
use Rattle.lock_core.proofs.Steps.{with-op}
use Rattle.lock_core.proofs.Storing.{allows-at, allows-found-at, stored-inside}
use Rattle.lock_core.proofs.site.Site.step_stored.Goals as goal

pub load-requires : goal.load-requires
load-requires g c = let t = c.args.self.now.table.shared.table_id in let k = c.args.self.now.table.shared.key in let me = c.args.pass.now.seat.me in let w = c.args.self.now.wide in let few = c.args.self.now.small.tasks in let i = g.P.Placed.place in let R = g.R.SiteRule in let inside = stored-inside k i c.args.at few c.requires.inside c.requires.there in (
  c.requires.own,
  omega (arith, w, inside),
  allows-found-at R.marks (opening R.marks k R.idle) (R.holds k) (R.moves k) k t.slots c.args.pass.now.seat.id i c.args.at me Load (λ n. g.M.Play.then (step t.slots i (first_of Load) (second_of Load) none) (unseen me) (told_by Load n)) few c.requires.inside c.requires.there
      (with-op (R.holds k) (R.moves k) t.slots c.args.pass.now.seat.id i (unseen me) (λ st n m. g.M.Play.then st (unseen me) n m) c.args.op Load c.in-Load.is c.requires.lets),
)

pub store-requires : goal.store-requires
store-requires g c = let t = c.args.self.now.table.shared.table_id in let k = c.args.self.now.table.shared.key in let me = c.args.pass.now.seat.me in let w = c.args.self.now.wide in let few = c.args.self.now.small.tasks in let i = g.P.Placed.place in let R = g.R.SiteRule in let inside = stored-inside k i c.args.at few c.requires.inside c.requires.there in (
  c.requires.own,
  omega (arith, w, inside),
  allows-at R.marks (opening R.marks k R.idle) (R.holds k) (R.moves k) k t.slots c.args.pass.now.seat.id i c.args.at me (Store c.in-Store.new) (λ n. g.M.Play.then (step t.slots i (first_of (Store c.in-Store.new)) (second_of (Store c.in-Store.new)) none) (unseen me) (told_by (Store c.in-Store.new) n)) few c.requires.inside c.requires.there
      (with-op (R.holds k) (R.moves k) t.slots c.args.pass.now.seat.id i (unseen me) (λ st n m. g.M.Play.then st (unseen me) n m) c.args.op (Store c.in-Store.new) c.in-Store.is c.requires.lets),
)

pub swap-requires : goal.swap-requires
swap-requires g c = let t = c.args.self.now.table.shared.table_id in let k = c.args.self.now.table.shared.key in let me = c.args.pass.now.seat.me in let w = c.args.self.now.wide in let few = c.args.self.now.small.tasks in let i = g.P.Placed.place in let R = g.R.SiteRule in let inside = stored-inside k i c.args.at few c.requires.inside c.requires.there in (
  c.requires.own,
  omega (arith, w, inside),
  allows-found-at R.marks (opening R.marks k R.idle) (R.holds k) (R.moves k) k t.slots c.args.pass.now.seat.id i c.args.at me (Swap c.in-Swap.new) (λ n. g.M.Play.then (step t.slots i (first_of (Swap c.in-Swap.new)) (second_of (Swap c.in-Swap.new)) none) (unseen me) (told_by (Swap c.in-Swap.new) n)) few c.requires.inside c.requires.there
      (with-op (R.holds k) (R.moves k) t.slots c.args.pass.now.seat.id i (unseen me) (λ st n m. g.M.Play.then st (unseen me) n m) c.args.op (Swap c.in-Swap.new) c.in-Swap.is c.requires.lets),
)

pub fetch_add-requires : goal.fetch_add-requires
fetch_add-requires g c = let t = c.args.self.now.table.shared.table_id in let k = c.args.self.now.table.shared.key in let me = c.args.pass.now.seat.me in let w = c.args.self.now.wide in let few = c.args.self.now.small.tasks in let i = g.P.Placed.place in let R = g.R.SiteRule in let inside = stored-inside k i c.args.at few c.requires.inside c.requires.there in (
  c.requires.own,
  omega (arith, w, inside),
  allows-found-at R.marks (opening R.marks k R.idle) (R.holds k) (R.moves k) k t.slots c.args.pass.now.seat.id i c.args.at me (Add c.in-Add.by) (λ n. g.M.Play.then (step t.slots i (first_of (Add c.in-Add.by)) (second_of (Add c.in-Add.by)) none) (unseen me) (told_by (Add c.in-Add.by) n)) few c.requires.inside c.requires.there
      (with-op (R.holds k) (R.moves k) t.slots c.args.pass.now.seat.id i (unseen me) (λ st n m. g.M.Play.then st (unseen me) n m) c.args.op (Add c.in-Add.by) c.in-Add.is c.requires.lets),
)

pub fetch_sub-requires : goal.fetch_sub-requires
fetch_sub-requires g c = let t = c.args.self.now.table.shared.table_id in let k = c.args.self.now.table.shared.key in let me = c.args.pass.now.seat.me in let w = c.args.self.now.wide in let few = c.args.self.now.small.tasks in let i = g.P.Placed.place in let R = g.R.SiteRule in let inside = stored-inside k i c.args.at few c.requires.inside c.requires.there in (
  c.requires.own,
  omega (arith, w, inside),
  allows-found-at R.marks (opening R.marks k R.idle) (R.holds k) (R.moves k) k t.slots c.args.pass.now.seat.id i c.args.at me (Sub c.in-Sub.by) (λ n. g.M.Play.then (step t.slots i (first_of (Sub c.in-Sub.by)) (second_of (Sub c.in-Sub.by)) none) (unseen me) (told_by (Sub c.in-Sub.by) n)) few c.requires.inside c.requires.there
      (with-op (R.holds k) (R.moves k) t.slots c.args.pass.now.seat.id i (unseen me) (λ st n m. g.M.Play.then st (unseen me) n m) c.args.op (Sub c.in-Sub.by) c.in-Sub.is c.requires.lets),
)

pub fetch_or-requires : goal.fetch_or-requires
fetch_or-requires g c = let t = c.args.self.now.table.shared.table_id in let k = c.args.self.now.table.shared.key in let me = c.args.pass.now.seat.me in let w = c.args.self.now.wide in let few = c.args.self.now.small.tasks in let i = g.P.Placed.place in let R = g.R.SiteRule in let inside = stored-inside k i c.args.at few c.requires.inside c.requires.there in (
  c.requires.own,
  omega (arith, w, inside),
  allows-found-at R.marks (opening R.marks k R.idle) (R.holds k) (R.moves k) k t.slots c.args.pass.now.seat.id i c.args.at me (Or c.in-Or.bits) (λ n. g.M.Play.then (step t.slots i (first_of (Or c.in-Or.bits)) (second_of (Or c.in-Or.bits)) none) (unseen me) (told_by (Or c.in-Or.bits) n)) few c.requires.inside c.requires.there
      (with-op (R.holds k) (R.moves k) t.slots c.args.pass.now.seat.id i (unseen me) (λ st n m. g.M.Play.then st (unseen me) n m) c.args.op (Or c.in-Or.bits) c.in-Or.is c.requires.lets),
)

pub fetch_and-requires : goal.fetch_and-requires
fetch_and-requires g c = let t = c.args.self.now.table.shared.table_id in let k = c.args.self.now.table.shared.key in let me = c.args.pass.now.seat.me in let w = c.args.self.now.wide in let few = c.args.self.now.small.tasks in let i = g.P.Placed.place in let R = g.R.SiteRule in let inside = stored-inside k i c.args.at few c.requires.inside c.requires.there in (
  c.requires.own,
  omega (arith, w, inside),
  allows-found-at R.marks (opening R.marks k R.idle) (R.holds k) (R.moves k) k t.slots c.args.pass.now.seat.id i c.args.at me (And c.in-And.bits) (λ n. g.M.Play.then (step t.slots i (first_of (And c.in-And.bits)) (second_of (And c.in-And.bits)) none) (unseen me) (told_by (And c.in-And.bits) n)) few c.requires.inside c.requires.there
      (with-op (R.holds k) (R.moves k) t.slots c.args.pass.now.seat.id i (unseen me) (λ st n m. g.M.Play.then st (unseen me) n m) c.args.op (And c.in-And.bits) c.in-And.is c.requires.lets),
)

pub compare_exchange-requires : goal.compare_exchange-requires
compare_exchange-requires g c = let t = c.args.self.now.table.shared.table_id in let k = c.args.self.now.table.shared.key in let me = c.args.pass.now.seat.me in let w = c.args.self.now.wide in let few = c.args.self.now.small.tasks in let i = g.P.Placed.place in let R = g.R.SiteRule in let inside = stored-inside k i c.args.at few c.requires.inside c.requires.there in (
  c.requires.own,
  omega (arith, w, inside),
  allows-found-at R.marks (opening R.marks k R.idle) (R.holds k) (R.moves k) k t.slots c.args.pass.now.seat.id i c.args.at me (Exchange c.in-Exchange.old c.in-Exchange.new) (λ n. g.M.Play.then (step t.slots i (first_of (Exchange c.in-Exchange.old c.in-Exchange.new)) (second_of (Exchange c.in-Exchange.old c.in-Exchange.new)) none) (unseen me) (told_by (Exchange c.in-Exchange.old c.in-Exchange.new) n)) few c.requires.inside c.requires.there
      (with-op (R.holds k) (R.moves k) t.slots c.args.pass.now.seat.id i (unseen me) (λ st n m. g.M.Play.then st (unseen me) n m) c.args.op (Exchange c.in-Exchange.old c.in-Exchange.new) c.in-Exchange.is c.requires.lets),
)
