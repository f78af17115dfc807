-- A machine that ran has done all calls of its script.
use Rattle.std.proofs.Common.{◌≡◌, ℕ, Bool, List, sym, subst}
use Rattle.word_bits.specs.Histories.{Plan}
use Rattle.task_script.specs.Scripts.{Listing}
use Rattle.mm_serve.specs.Machines.{AreSitesOf, GoBackToTasks, HasLegalResults, HasRun, IsAtRest, IsMachineOf, KnowsPasts}
use Rattle.mm_serve.proofs.Copies.{all-held}
use Rattle.mm_program.specs.ProgramKept.{HasServed}
use Rattle.mm_program.specs.Types.{Hand, Moment, Machine}

module _ {S C P U : Type 0} (is_space : S → Bool) (calls_on : S → Plan) (hand : P → Hand) (past spun : P → List Moment) (idle : S → P → Type 0) (looked_back : S → P → ℕ → Type 0) (knows_past : S → P → Type 0) where
  -- also where its results were lent since, and came back as they were
  pub has_served : (script : Listing) (opened ran left : Machine S C P U) → IsMachineOf is_space calls_on script opened → HasRun idle hand past is_space calls_on opened ran → (results : HasLegalResults hand script ran)
      → IsAtRest idle ran → KnowsPasts knows_past ran → GoBackToTasks looked_back past spun calls_on ran → left ≡ ran → HasServed is_space calls_on hand past spun idle looked_back knows_past script results.told left
  has_served script opened ran left of run results rest past_known tasks same =
      subst (λ (m : Machine S C P U). HasServed is_space calls_on hand past spun idle looked_back knows_past script results.told m) (sym same) (record {
        of = subst (λ (sites : List S). AreSitesOf is_space calls_on script sites) (sym run.sites) of;
        legal = results.legal;
        known = results.known;
        held = all-held idle hand past is_space calls_on ran.sites.items ran.gathered.items ran.results run.copied run.long;
        past = past_known;
        tasks = tasks;
        rest = rest;
      })
