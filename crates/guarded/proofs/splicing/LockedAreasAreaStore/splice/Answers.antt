-- Room is made, the pieces are written, and then their number is.
use Rattle.std.proofs.Common.{◌≡◌, ℕ, ◌+◌, ◌-◌, List, length, slice_index, slice_set, sym, ap, subst, ◌∙◌, arith}
use Rattle.vma_map.specs.Runs.{spliced}
use Rattle.guarded.specs.CallServing.{AreZeroFrom}
use Rattle.guarded.specs.Splicing.{MakeRoom, areas_in}
use Rattle.guarded.specs.Laws.Splicing.{changes-more}
use Rattle.guarded.specs.Types.{Hand}
use Rattle.guarded.proofs.Passing.{spun-goes-on}
use Rattle.guarded.proofs.Spliced.{number-of, long-of, zeros-of, length-of, pieces-runs, spliced-stored, have-areas}
use Rattle.guarded.proofs.Written.{looked, wrote-word, still-alone, same-known}
use Rattle.guarded.proofs.splicing.LockedAreasAreaStore.splice.Goals as goal

pub fit-requires-clause-held : goal.fit-requires-clause-held
fit-requires-clause-held g c =
    ap {A = Hand} (λ h. h.held) c.word-len.ensures.kept.0 ∙ c.requires.has.1

pub fit-requires-clause-long : goal.fit-requires-clause-long
fit-requires-clause-long g c =
    let v = g.L.SiteLock.view c.args.hand.now in
    let r = g.L.SiteLock.view c.word-len.new.pass in
    let areas = areas_in v.hand.known in
    let ps = c.args.pieces.now in
    let at = c.args.at in
    let count = c.args.count in
    let has = c.requires.has.2 in
    let loaded = same-known v r c.word-len.ensures.kept in
    let number : c.word-len.result ≡ length areas = c.word-len.ensures.value ∙ number-of v.hand.known has in
    ap length loaded ∙ long-of v.hand.known has

pub fit-requires-clause-within : goal.fit-requires-clause-within
fit-requires-clause-within g c =
    let v = g.L.SiteLock.view c.args.hand.now in
    let r = g.L.SiteLock.view c.word-len.new.pass in
    let areas = areas_in v.hand.known in
    let ps = c.args.pieces.now in
    let at = c.args.at in
    let count = c.args.count in
    let has = c.requires.has.2 in
    let loaded = same-known v r c.word-len.ensures.kept in
    let number : c.word-len.result ≡ length areas = c.word-len.ensures.value ∙ number-of v.hand.known has in
    let within = c.requires.within in omega (arith, within, number)

pub fit-requires-clause-room : goal.fit-requires-clause-room
fit-requires-clause-room g c =
    let v = g.L.SiteLock.view c.args.hand.now in
    let r = g.L.SiteLock.view c.word-len.new.pass in
    let areas = areas_in v.hand.known in
    let ps = c.args.pieces.now in
    let at = c.args.at in
    let count = c.args.count in
    let has = c.requires.has.2 in
    let loaded = same-known v r c.word-len.ensures.kept in
    let number : c.word-len.result ≡ length areas = c.word-len.ensures.value ∙ number-of v.hand.known has in
    let within = c.requires.within in let most = c.requires.space.few in let long = length-of areas ps at count within in omega (arith, within, number, most, long)

pub fit-requires-clause-few : goal.fit-requires-clause-few
fit-requires-clause-few g c =
    let v = g.L.SiteLock.view c.args.hand.now in
    let r = g.L.SiteLock.view c.word-len.new.pass in
    let areas = areas_in v.hand.known in
    let ps = c.args.pieces.now in
    let at = c.args.at in
    let count = c.args.count in
    let has = c.requires.has.2 in
    let loaded = same-known v r c.word-len.ensures.kept in
    let number : c.word-len.result ≡ length areas = c.word-len.ensures.value ∙ number-of v.hand.known has in
    let most = has.space.few in omega (arith, most, number)

pub fit-requires-clause-zeros : goal.fit-requires-clause-zeros
fit-requires-clause-zeros g c =
    let v = g.L.SiteLock.view c.args.hand.now in
    let r = g.L.SiteLock.view c.word-len.new.pass in
    let areas = areas_in v.hand.known in
    let ps = c.args.pieces.now in
    let at = c.args.at in
    let count = c.args.count in
    let has = c.requires.has.2 in
    let loaded = same-known v r c.word-len.ensures.kept in
    let number : c.word-len.result ≡ length areas = c.word-len.ensures.value ∙ number-of v.hand.known has in
    subst (λ (n : ℕ). AreZeroFrom (n + 1) r.hand.known) (sym c.word-len.ensures.value) (subst (AreZeroFrom (slice_index v.hand.known 0 + 1)) (sym loaded) (zeros-of v.hand.known has))

pub write_pieces-requires-clause-held : goal.write_pieces-requires-clause-held
write_pieces-requires-clause-held g c =
    let v = g.L.SiteLock.view c.args.hand.now in
    let r = g.L.SiteLock.view c.word-len.new.pass in
    let areas = areas_in v.hand.known in
    let ps = c.args.pieces.now in
    let at = c.args.at in
    let count = c.args.count in
    let has = c.requires.has.2 in
    let loaded = same-known v r c.word-len.ensures.kept in
    let number : c.word-len.result ≡ length areas = c.word-len.ensures.value ∙ number-of v.hand.known has in
    let f = g.L.SiteLock.view c.fit.new.pass in
    still-alone r f c.fit.ensures.kept (ap {A = Hand} (λ h. h.held) c.word-len.ensures.kept.0 ∙ c.requires.has.1)

pub write_pieces-requires-clause-long : goal.write_pieces-requires-clause-long
write_pieces-requires-clause-long g c =
    let v = g.L.SiteLock.view c.args.hand.now in
    let r = g.L.SiteLock.view c.word-len.new.pass in
    let areas = areas_in v.hand.known in
    let ps = c.args.pieces.now in
    let at = c.args.at in
    let count = c.args.count in
    let has = c.requires.has.2 in
    let loaded = same-known v r c.word-len.ensures.kept in
    let number : c.word-len.result ≡ length areas = c.word-len.ensures.value ∙ number-of v.hand.known has in
    c.fit.ensures.moved.as_long ∙ ap length loaded ∙ long-of v.hand.known has

pub write_pieces-requires-clause-room : goal.write_pieces-requires-clause-room
write_pieces-requires-clause-room g c =
    let v = g.L.SiteLock.view c.args.hand.now in
    let r = g.L.SiteLock.view c.word-len.new.pass in
    let areas = areas_in v.hand.known in
    let ps = c.args.pieces.now in
    let at = c.args.at in
    let count = c.args.count in
    let has = c.requires.has.2 in
    let loaded = same-known v r c.word-len.ensures.kept in
    let number : c.word-len.result ≡ length areas = c.word-len.ensures.value ∙ number-of v.hand.known has in
    let within = c.requires.within in let most = c.requires.space.few in let long = length-of areas ps at count within in omega (arith, within, most, long)

pub write_pieces-requires-clause-runs : goal.write_pieces-requires-clause-runs
write_pieces-requires-clause-runs g c =
    let v = g.L.SiteLock.view c.args.hand.now in
    let r = g.L.SiteLock.view c.word-len.new.pass in
    let areas = areas_in v.hand.known in
    let ps = c.args.pieces.now in
    let at = c.args.at in
    let count = c.args.count in
    let has = c.requires.has.2 in
    let loaded = same-known v r c.word-len.ensures.kept in
    let number : c.word-len.result ≡ length areas = c.word-len.ensures.value ∙ number-of v.hand.known has in
    pieces-runs areas ps at count c.requires.space.runs

pub set_word-requires-clause-held : goal.set_word-requires-clause-held
set_word-requires-clause-held g c =
    let v = g.L.SiteLock.view c.args.hand.now in
    let r = g.L.SiteLock.view c.word-len.new.pass in
    let areas = areas_in v.hand.known in
    let ps = c.args.pieces.now in
    let at = c.args.at in
    let count = c.args.count in
    let has = c.requires.has.2 in
    let loaded = same-known v r c.word-len.ensures.kept in
    let number : c.word-len.result ≡ length areas = c.word-len.ensures.value ∙ number-of v.hand.known has in
    let f = g.L.SiteLock.view c.fit.new.pass in
    let p = g.L.SiteLock.view c.write_pieces.new.pass in
    still-alone r p (changes-more r f p c.fit.ensures.kept c.write_pieces.ensures.kept) (ap {A = Hand} (λ h. h.held) c.word-len.ensures.kept.0 ∙ c.requires.has.1)

pub overflow_sub-len : goal.overflow_sub-len
overflow_sub-len g c =
    let v = g.L.SiteLock.view c.args.hand.now in
    let r = g.L.SiteLock.view c.word-len.new.pass in
    let areas = areas_in v.hand.known in
    let ps = c.args.pieces.now in
    let at = c.args.at in
    let count = c.args.count in
    let has = c.requires.has.2 in
    let loaded = same-known v r c.word-len.ensures.kept in
    let number : c.word-len.result ≡ length areas = c.word-len.ensures.value ∙ number-of v.hand.known has in
    let within = c.requires.within in omega (arith, within, number)

pub returns-clause-has : goal.returns-clause-has
returns-clause-has g c =
    let v = g.L.SiteLock.view c.args.hand.now in
    let r = g.L.SiteLock.view c.word-len.new.pass in
    let areas = areas_in v.hand.known in
    let ps = c.args.pieces.now in
    let at = c.args.at in
    let count = c.args.count in
    let has = c.requires.has.2 in
    let loaded = same-known v r c.word-len.ensures.kept in
    let number : c.word-len.result ≡ length areas = c.word-len.ensures.value ∙ number-of v.hand.known has in
    let f = g.L.SiteLock.view c.fit.new.pass in
    let p = g.L.SiteLock.view c.write_pieces.new.pass in
    let u = g.L.SiteLock.view c.set_word.new.pass in
    let made = subst (λ (xs : List ℕ). MakeRoom at count (length ps) xs f.hand.known) loaded c.fit.ensures.moved in
    let set : u.hand.known ≡ slice_set p.hand.known 0 (length areas - count + length ps) = ap {A = Hand} (λ h. h.known) c.set_word.ensures.kept.0 ∙ ap (λ (n : ℕ). slice_set p.hand.known 0 (n - count + length ps)) number in
    let stored = spliced-stored areas ps at count v.hand.known f.hand.known p.hand.known u.hand.known has.space c.requires.space c.requires.within has.whole made c.write_pieces.ensures.written set in
    let after = have-areas (spliced at count ps areas) u.hand.known c.requires.space stored in
    let alone = still-alone r p (changes-more r f p c.fit.ensures.kept c.write_pieces.ensures.kept) (ap {A = Hand} (λ h. h.held) c.word-len.ensures.kept.0 ∙ c.requires.has.1) in
    (c.set_word.ensures.on.own, ap {A = Hand} (λ h. h.held) c.set_word.ensures.kept.0 ∙ alone, after.0)

pub returns-clause-kept : goal.returns-clause-kept
returns-clause-kept g c =
    let v = g.L.SiteLock.view c.args.hand.now in
    let r = g.L.SiteLock.view c.word-len.new.pass in
    let areas = areas_in v.hand.known in
    let ps = c.args.pieces.now in
    let at = c.args.at in
    let count = c.args.count in
    let has = c.requires.has.2 in
    let loaded = same-known v r c.word-len.ensures.kept in
    let number : c.word-len.result ≡ length areas = c.word-len.ensures.value ∙ number-of v.hand.known has in
    let f = g.L.SiteLock.view c.fit.new.pass in
    let p = g.L.SiteLock.view c.write_pieces.new.pass in
    let u = g.L.SiteLock.view c.set_word.new.pass in (
      changes-more v r u (looked v r c.word-len.ensures.on.goes_on c.word-len.ensures.kept) (changes-more r f u c.fit.ensures.kept (changes-more f p u c.write_pieces.ensures.kept (wrote-word p u 0 _ c.set_word.ensures.on.goes_on c.set_word.ensures.kept))),
      (λ q t. spun-goes-on g.L.SleepLock.spun g.L.SiteLock.with_seat g.met.L.SleepLock.leaves c.write_pieces.new.pass c.set_word.new.pass _ c.set_word.ensures.beside q (c.write_pieces.ensures.queue q (c.fit.ensures.queue q (spun-goes-on g.L.SleepLock.spun g.L.SiteLock.with_seat g.met.L.SleepLock.leaves c.args.hand.now c.word-len.new.pass _ c.word-len.ensures.beside q t)))),
    )

pub returns-clause-areas : goal.returns-clause-areas
returns-clause-areas g c =
    let v = g.L.SiteLock.view c.args.hand.now in
    let r = g.L.SiteLock.view c.word-len.new.pass in
    let areas = areas_in v.hand.known in
    let ps = c.args.pieces.now in
    let at = c.args.at in
    let count = c.args.count in
    let has = c.requires.has.2 in
    let loaded = same-known v r c.word-len.ensures.kept in
    let number : c.word-len.result ≡ length areas = c.word-len.ensures.value ∙ number-of v.hand.known has in
    let f = g.L.SiteLock.view c.fit.new.pass in
    let p = g.L.SiteLock.view c.write_pieces.new.pass in
    let u = g.L.SiteLock.view c.set_word.new.pass in
    let made = subst (λ (xs : List ℕ). MakeRoom at count (length ps) xs f.hand.known) loaded c.fit.ensures.moved in
    let set : u.hand.known ≡ slice_set p.hand.known 0 (length areas - count + length ps) = ap {A = Hand} (λ h. h.known) c.set_word.ensures.kept.0 ∙ ap (λ (n : ℕ). slice_set p.hand.known 0 (n - count + length ps)) number in
    let stored = spliced-stored areas ps at count v.hand.known f.hand.known p.hand.known u.hand.known has.space c.requires.space c.requires.within has.whole made c.write_pieces.ensures.written set in
    let after = have-areas (spliced at count ps areas) u.hand.known c.requires.space stored in
    after.1
