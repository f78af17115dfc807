use Rattle.std.proofs.Common.{◌≡◌, ◌∙◌, [], All, List, ap, arith, length, subst, sym}
use Rattle.word_bits.specs.Histories.{Plan}
use Rattle.word_bits.specs.Snapshots.{Words}
use Rattle.mm_serve.specs.MachineCopying.{AreBlank}
use Rattle.mm_serve.specs.Workers.{EachOf, IsReady}
use Rattle.mm_serve.proofs.Each.{each-map}
use Rattle.mm_serve.proofs.Filling.{staffed-tasks}
use Rattle.mm_serve.proofs.Opens.{blank-results}
use Rattle.mm_serve.proofs.machine.Machine.open.Goals as goal

pub open_workers-requires-clause-passes : goal.open_workers-requires-clause-passes
open_workers-requires-clause-passes g c = subst (λ (sites : List g.row.S.Denot). EachOf (λ k s p. g.S.SharedObject.idle s p × ((g.S.SharedObject.hand p).seen ≡ [])) sites c.in_ok-sites.gathered.items) (sym c.as_slice.ensures.value) c.in_ok-sites.ensures.passes

pub returns-clause-fresh : goal.returns-clause-fresh
returns-clause-fresh g c =
    let script = c.args.script.now in
    let sites = c.in_ok-sites.sites.items in
    let are = c.in_ok-sites.ensures.sites in
    let many = c.in_ok-workers.ensures.many in record {
      gathered = each-map (λ k s p. g.S.SharedObject.idle s p × ((g.S.SharedObject.hand p).seen ≡ [])) (λ k s p. g.S.SharedObject.idle s p) sites c.open_workers.new.gathered.items
          (subst (λ (ss : List g.row.S.Denot). EachOf (λ k s p. g.S.SharedObject.idle s p × ((g.S.SharedObject.hand p).seen ≡ [])) ss c.open_workers.new.gathered.items) c.as_slice.ensures.value c.in_ok-workers.ensures.kept)
          (λ k s p lt at r. r.0);
      ready = subst (λ (ss : List g.row.S.Denot). All (IsReady g.S.SharedObject.idle g.S.SharedObject.hand g.S.SharedObject.calls_on ss) c.in_ok-workers.workers.items) c.as_slice.ensures.value c.in_ok-workers.ensures.ready;
      numbered = c.in_ok-workers.ensures.numbered;
      some = omega (arith, many);
      tasks = λ k s at. ap (λ (p : Plan). length p) (are.plans k s at) ∙ (staffed-tasks script k ∙ sym many);
      blank = subst (λ (ws : List Words). AreBlank g.S.SharedObject.is_space g.S.SharedObject.calls_on sites ws) (sym c.in_ok-results.ensures) (blank-results g.S.SharedObject.is_space g.S.SharedObject.calls_on script sites are);
    }
