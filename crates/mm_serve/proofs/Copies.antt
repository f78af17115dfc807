-- One object after another is copied; then all of them are legal.
use Rattle.std.proofs.Common.{◌≡◌, ℕ, zero, suc, ◌+◌, ◌<◌, Bool, List, [], ◌∷◌, length, get_or, set, slice_get, Some, sym, refl, ap, ◌∙◌, subst, arith, add-zero, zero-add}
use Rattle.std.proofs.lemmas.List.{get_or-set_same, get_or-set_other}
use Rattle.word_bits.specs.Snapshots.{Words}
use Rattle.word_bits.specs.Histories.{Plan}
use Rattle.guarded.specs.ObjectCopying.{AreKnown, HeldAlone}
use Rattle.lock_core.specs.Pasts.{GoesOn}
use Rattle.lock_core.proofs.RowLaws.{none-some, same-some, get-there, some-inside}
use Rattle.task_script.specs.Scripts.{Declared, Listing, plan_of}
use Rattle.mm_report.specs.Results.{Told, AreLegalFrom, AreCompleteFrom}
use Rattle.mm_serve.specs.MachineHistories.{IsKnownHistoryOn}
use Rattle.mm_serve.specs.Workers.{EachOf}
use Rattle.mm_serve.specs.MachineCopying.{IsCopied, IsToCopy, WasHeldWith, blank}
use Rattle.mm_serve.specs.Machines.{AreAllKnown, staffed}
use Rattle.mm_serve.specs.Types.{Hand, Moment}
use Rattle.mm_serve.proofs.Each.{Between, each-set, between-at}
use Rattle.mm_serve.proofs.Gathers.{get-some}
use Rattle.mm_serve.proofs.Staffed.{Known, unstaffed, records-many}

module _ {S P : Type 0} (idle : S → P → Type 0) (hand : P → Hand) (past : P → List Moment) (is_space : S → Bool) (calls_on : S → Plan) where
  pub copies : (sites : List S) (passes : List P) (words : List Words) (n : ℕ) (s : S) (new : P) (w : Words) → EachOf (Between (IsCopied idle hand past is_space calls_on words) (IsToCopy idle hand is_space calls_on words) n) sites passes → n < length sites → length words ≡ length sites → s ≡ get_or sites n s
      → idle s new → IsKnownHistoryOn (is_space s) (calls_on s) (hand new) w → WasHeldWith w (hand new).records (past new) → EachOf (Between (IsCopied idle hand past is_space calls_on (set words n w)) (IsToCopy idle hand is_space calls_on (set words n w)) (n + 1)) sites (set passes n new)
  copies sites passes words n s new w each below long s-is rest told held =
      each-set (Between (IsCopied idle hand past is_space calls_on words) (IsToCopy idle hand is_space calls_on words) n) (Between (IsCopied idle hand past is_space calls_on (set words n w)) (IsToCopy idle hand is_space calls_on (set words n w)) (n + 1)) sites passes n s new each below s-is
      ((λ _. (rest, (λ v. subst (λ (x : Words). IsKnownHistoryOn (is_space s) (calls_on s) (hand new) x × WasHeldWith x (hand new).records (past new)) (sym (get_or-set_same words n w v (omega (arith, below, long)))) (told, held)))), (λ behind. absurd (omega (arith, behind))))
      (λ k t p lt ne r. (
        (λ l. let c = r.0 (omega (arith, l, ne)) in (c.0, (λ v. subst (λ (x : Words). IsKnownHistoryOn (is_space t) (calls_on t) (hand p) x × WasHeldWith x (hand p).records (past p)) (sym (get_or-set_other words n k w v ne)) (c.1 v)))),
        (λ l. let c = r.1 (omega (arith, l)) in (c.0, c.1, (λ v. get_or-set_other words n k w v ne ∙ c.2 v))),
      ))

  pub still-blank : (sites : List S) (passes : List P) (words : List Words) (n : ℕ) (s : S) (was : P) (w : Words) → EachOf (Between (IsCopied idle hand past is_space calls_on words) (IsToCopy idle hand is_space calls_on words) n) sites passes → n < length sites → s ≡ get_or sites n s → was ≡ get_or passes n was → slice_get words n ≡ Some w → w ≡ blank (is_space s) (calls_on s)
  still-blank sites passes words n s was w each below s-is was-is at =
      sym (get-some words n w at) ∙ (between-at (IsCopied idle hand past is_space calls_on words) (IsToCopy idle hand is_space calls_on words) sites passes n s was each below s-is was-is).2 w

  later : (w : Words) (h g : Hand) (old new : List Moment) → g ≡ h → GoesOn old new → WasHeldWith w h.records old → WasHeldWith w g.records new
  later w h g old new same goes held = record {
    entries = held.entries;
    log_is = held.log_is;
    task = held.task;
    takes = held.takes;
    until = held.until;
    held = subst (λ (x : Hand). HeldAlone held.task held.takes x.records held.entries w.state held.until) (sym same) held.held;
    goes_on = λ p t. goes p (held.goes_on p t);
  }

  -- passes with the same hands, whose pasts go on, know the same histories
  pub still-copied : (sites : List S) (olds news : List P) (words : List Words) → EachOf (IsCopied idle hand past is_space calls_on words) sites olds → EachOf (λ k s p. idle s p) sites news → ((k : ℕ) (p : P) → hand (get_or news k p) ≡ hand (get_or olds k p))
      → ((k : ℕ) (p : P) → GoesOn (past (get_or olds k p)) (past (get_or news k p))) → EachOf (IsCopied idle hand past is_space calls_on words) sites news
  still-copied sites olds news words copied rest hands goes = (
    rest.0,
    (λ k s p lt. (
      rest.1 k s p lt,
      (λ w. let was = (copied.1 k s p lt).1 w in
          (subst (λ (h : Hand). IsKnownHistoryOn (is_space (get_or sites k s)) (calls_on (get_or sites k s)) h (get_or words k w)) (sym (hands k p)) was.0, later (get_or words k w) (hand (get_or olds k p)) (hand (get_or news k p)) (past (get_or olds k p)) (past (get_or news k p)) (hands k p) (goes k p) was.1)),
    )),
  )

  -- what each pass goes back to
  pub all-held : (sites : List S) (passes : List P) (words : List Words) → EachOf (IsCopied idle hand past is_space calls_on words) sites passes → length words ≡ length sites → (k : ℕ) (w : Words) (p : P) → slice_get words k ≡ Some w → slice_get passes k ≡ Some p → WasHeldWith w (hand p).records (past p)
  all-held sites passes words each long k w p at has =
      let inside = some-inside words k w at in
      let lt : k < length sites = omega (arith, inside, long) in
      let there = get-there sites k lt in
      let held = ((each.1 k there.0 p lt).1 w).1 in
      subst (λ (q : P). WasHeldWith w (hand q).records (past q)) (get-some passes k p has) (subst (λ (v : Words). WasHeldWith v (hand (get_or passes k p)).records (past (get_or passes k p))) (get-some words k w at) held)

pick : (G : ℕ → Hand → Type 0) (one : Told) (rest : List Told) → ((h : Hand) × G 0 h × AreKnown h one.records) → ((i : ℕ) (x : Told) → slice_get rest i ≡ Some x → (h : Hand) × G (suc i) h × AreKnown h x.records) → (i : ℕ) (x : Told) → slice_get (one ∷ rest) i ≡ Some x → (h : Hand) × G i h × AreKnown h x.records
pick G one rest here more zero x at = (here.0, here.1, subst (λ (y : Told). AreKnown here.0 y.records) (same-some one x at) here.2)
pick G one rest here more (suc i) x at = more i x at

-- the words of each object are known to be a history
abbrev pub EachKnown : Listing → ℕ → List Declared → List Words → (ℕ → Hand → Type 0) → Type 0
EachKnown s object ds ws G = (i : ℕ) (d : Declared) (w : Words) → slice_get ds i ≡ Some d → slice_get ws i ≡ Some w → (h : Hand) × G i h × Known d.is_space (plan_of s (object + i)) h w

abbrev next : (s : Listing) (object : ℕ) (d : Declared) (ds : List Declared) (w : Words) (ws : List Words) (G : ℕ → Hand → Type 0) → EachKnown s object (d ∷ ds) (w ∷ ws) G → EachKnown s (object + 1) ds ws (λ i. G (suc i))
next s object d ds w ws G each = λ i e x at has.
    let more = each (suc i) e x at has in
    let same : object + suc i ≡ object + 1 + i = omega arith in
    (more.0, more.1, subst (λ n. Known e.is_space (plan_of s n) more.0 x) same more.2)

legal-from : (s : Listing) (object : ℕ) (ds : List Declared) (ws : List Words) (G : ℕ → Hand → Type 0) → length ws ≡ length ds → EachKnown s object ds ws G
    → (tolds : List Told) × AreLegalFrom s object ds ws tolds × ((i : ℕ) (x : Told) → slice_get tolds i ≡ Some x → (h : Hand) × G i h × AreKnown h x.records)
legal-from s object [] [] G long each = ([], tt, λ i x at. none-some x at)
legal-from s object [] (w ∷ ws) G long each = absurd (omega (arith, long))
legal-from s object (d ∷ ds) [] G long each = absurd (omega (arith, long))
legal-from s object (d ∷ ds) (w ∷ ws) G long each =
    let first = each 0 d w refl refl in
    let here = subst (λ n. Known d.is_space (plan_of s n) first.0 w) (add-zero object) first.2 in
    let rest = legal-from s (object + 1) ds ws (λ i h. G (suc i) h) (omega (arith, long)) (next s object d ds w ws G each) in
    (here.told ∷ rest.0, (here.tells, here.legal, rest.1), pick G here.told rest.0 (first.0, first.1, here.known) rest.2)

complete-from : (s : Listing) (object : ℕ) (ds : List Declared) (ws : List Words) (G : ℕ → Hand → Type 0) → length ws ≡ length ds → EachKnown s object ds ws G → AreCompleteFrom s object ds ws
complete-from s object [] [] G long each = tt
complete-from s object [] (w ∷ ws) G long each = absurd (omega (arith, long))
complete-from s object (d ∷ ds) [] G long each = absurd (omega (arith, long))
complete-from s object (d ∷ ds) (w ∷ ws) G long each =
    let first = each 0 d w refl refl in
    let here = subst (λ n. Known d.is_space (plan_of s n) first.0 w) (add-zero object) first.2 in
    (records-many d.is_space s object first.0 w here, complete-from s (object + 1) ds ws (λ i h. G (suc i) h) (omega (arith, long)) (next s object d ds w ws G each))

module _ {S P : Type 0} (idle : S → P → Type 0) (hand : P → Hand) (past : P → List Moment) (is_space : S → Bool) (calls_on : S → Plan) (script : Listing) (sites : List S) (passes : List P) (words : List Words) (many : length sites ≡ length script.objects)
    (planned : (k : ℕ) (s : S) → slice_get sites k ≡ Some s → calls_on s ≡ staffed (plan_of script k)) (kinds : (k : ℕ) (s : S) (d : Declared) → slice_get sites k ≡ Some s → slice_get script.objects k ≡ Some d → is_space s ≡ d.is_space)
    (each : EachOf (IsCopied idle hand past is_space calls_on words) sites passes) (long : length words ≡ length sites) where
  each-known : EachKnown script 0 script.objects words (λ i h. (p : P) → slice_get passes i ≡ Some p → h ≡ hand p)
  each-known = λ i d w at has.
      let inside = some-inside script.objects i d at in
      let lt : i < length sites = omega (arith, inside, many) in
      let there = get-there sites i lt in
      let same = each.0 in
      let mine = get-there passes i (omega (arith, lt, same)) in
      let s = there.0 in
      let copied = ((each.1 i s mine.0 lt).1 w).0 in
      let known : IsKnownHistoryOn (is_space s) (calls_on s) (hand mine.0) w = rw (get-some sites i s there.1, get-some passes i mine.0 mine.1, get-some words i w has) at copied in
      let kind : IsKnownHistoryOn d.is_space (staffed (plan_of script i)) (hand mine.0) w = subst (λ k. IsKnownHistoryOn d.is_space k (hand mine.0) w) (planned i s there.1) (subst (λ b. IsKnownHistoryOn b (calls_on s) (hand mine.0) w) (kinds i s d there.1 at) known) in
      (hand mine.0, (λ p is. ap hand (same-some mine.0 p (sym mine.1 ∙ is))), subst (λ n. Known d.is_space (plan_of script n) (hand mine.0) w) (sym (zero-add i)) (unstaffed d.is_space (plan_of script i) (hand mine.0) w kind))

  pub all-legal : (tolds : List Told) × AreLegalFrom script 0 script.objects words tolds × AreAllKnown hand passes tolds
  all-legal =
      let all = legal-from script 0 script.objects words (λ i h. (p : P) → slice_get passes i ≡ Some p → h ≡ hand p) (long ∙ many) each-known in
      (all.0, all.1, λ k t p at is. let known = all.2 k t at in subst (λ h. AreKnown h t.records) (known.1 p is) known.2)

  pub all-complete : AreCompleteFrom script 0 script.objects words
  all-complete = complete-from script 0 script.objects words (λ i h. (p : P) → slice_get passes i ≡ Some p → h ≡ hand p) (long ∙ many) each-known
