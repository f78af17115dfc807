use Rattle.std.proofs.Common.{◌≡◌, ◌∙◌, ◌+◌, ◌<◌, length, get_or, take, refl, sym, ap, arith, rules}
use Rattle.std.proofs.lemmas.List.{take_all}
use Rattle.mm_serve.specs.Workers.{calls_to}
use Rattle.mm_serve.proofs.Each.{each-at, each-set, each-map, get-of}
use Rattle.mm_serve.proofs.Turns.{call-more, call-same, call-room}
use Rattle.mm_serve.proofs.worker.perform_all.Goals as goal

pub perform-requires-clause-more : goal.perform-requires-clause-more
perform-requires-clause-more g c =
    let i = c.loop-number.number-index in
    let k = get_or c.args.objects.now i 0 in
    let below : k < length c.args.sites.now = search rules in
    let at = (each-at (λ k s p. g.S.SharedObject.serving s p c.args.task × ((g.S.SharedObject.hand p).done ≡ calls_to k (take i c.args.objects.now))) c.args.sites.now c.loop-number.passes.items k c.index-sites-object.result c.index_mut.result.now c.loop-number.invariant below c.index-sites-object.is c.index_mut.ensures.value).1 in
    let room = call-room k i c.args.objects.now c.loop-number-test.true refl in
    let plan = c.requires.calls k c.index-sites-object.result (get-of c.args.sites.now k c.index-sites-object.result below c.index-sites-object.is) in
    omega (arith, at, room, plan)

pub loop-number-preserved : goal.loop-number-preserved
loop-number-preserved g c =
    let i = c.loop-number.number-index in
    let ns = c.args.objects.now in
    let k = get_or ns i 0 in
    let below : k < length c.args.sites.now = search rules in
    let at = (each-at (λ k s p. g.S.SharedObject.serving s p c.args.task × ((g.S.SharedObject.hand p).done ≡ calls_to k (take i ns))) c.args.sites.now c.loop-number.passes.items k c.index-sites-object.result c.index_mut.result.now c.loop-number.invariant below c.index-sites-object.is c.index_mut.ensures.value).1 in
    each-set (λ k s p. g.S.SharedObject.serving s p c.args.task × ((g.S.SharedObject.hand p).done ≡ calls_to k (take i ns)))
    (λ k s p. g.S.SharedObject.serving s p c.args.task × ((g.S.SharedObject.hand p).done ≡ calls_to k (take (i + 1) ns)))
    c.args.sites.now c.loop-number.passes.items k c.index-sites-object.result c.perform.new.pass c.loop-number.invariant below c.index-sites-object.is
    (c.perform.ensures.own, c.perform.ensures.done ∙ (ap (λ n. n + 1) at ∙ sym (call-more k i ns c.loop-number-test.true refl)))
    (λ j t p lt ne w. (w.0, w.1 ∙ sym (call-same j i ns c.loop-number-test.true ne)))

pub returns : goal.returns
returns g c =
    let i = c.loop-number.number-index in
    let ns = c.args.objects.now in
    each-map (λ k s p. g.S.SharedObject.serving s p c.args.task × ((g.S.SharedObject.hand p).done ≡ calls_to k (take i ns)))
    (λ k s p. g.S.SharedObject.serving s p c.args.task × ((g.S.SharedObject.hand p).done ≡ calls_to k ns))
    c.args.sites.now c.loop-number.passes.items c.loop-number.invariant
    (λ k s p lt at w. (w.0, w.1 ∙ ap (calls_to k) (take_all i ns (omega (arith, c.loop-number-test.false)))))
