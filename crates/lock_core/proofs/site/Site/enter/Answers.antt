use Rattle.std.proofs.Common.{◌≡◌, ℕ, ◌+◌, set, ap, sym, subst, ◌∙◌}
use Rattle.word_bits.specs.EntryWord.{entry_word}
use Rattle.lock_core.specs.Layout.{lay}
use Rattle.lock_core.specs.Views.{entered, entry_of}
use Rattle.lock_core.specs.Sites.{SiteKept, SiteStep}
use Rattle.lock_core.specs.Types.{Entry}
use Rattle.lock_core.proofs.Replies.{entry_of-word}
use Rattle.lock_core.proofs.WordLaws.{enters-there}
use Rattle.lock_core.proofs.site.Site.enter.Goals as goal
use Rattle.lock_core.specs.declared.layout.TheConstants.{ENTRIES_AT}

pub put-requires-clause-keeps : goal.put-requires-clause-keeps
put-requires-clause-keeps g c = λ s hs r at. let e = c.args.entry in let word : entry_word e ≡ c.pack.result = sym c.pack.ensures in let entry : e ≡ entry_of c.pack.result = sym (entry_of-word e c.requires.fits) ∙ ap entry_of word in
    subst (λ (z : ℕ × Entry). let k = c.args.self.now.table.shared.key in SiteKept g.R.O.Object.object g.R.SiteRule.unavailable g.R.O.Object.WORDS k (lay k (set s (ENTRIES_AT + c.args.k) z.0)) (set hs c.args.pass.now.seat.id (entered c.args.pass.now.seat.me.0.view.hand z.1)) × SiteStep g.R.SiteRule.reads_unheld (c.args.pass.now.seat.me.0.view.steps + 1) (lay k s) (lay k (set s (ENTRIES_AT + c.args.k) z.0)) c.args.pass.now.seat.me.0.view.hand (entered c.args.pass.now.seat.me.0.view.hand z.1))
    (λ i. (word i, entry i)) (enters-there g.R.O.Object.object g.R.SiteRule.unavailable g.R.O.Object.WORDS c.args.self.now.table.shared.key s hs c.args.pass.now.seat.id c.args.k e c.args.pass.now.seat.me.0.view.hand r at c.requires.held c.requires.rest c.requires.length c.requires.room)
