-- What is due after entries that follow the calm opening is due after the same entries that follow the opening.
use Rattle.std.proofs.Common.{◌≡◌, ℕ, List, subst}
use Rattle.fleet_grid.specs.Floor.{Floor}
use Rattle.fleet_book.specs.declared.order.Order.{Order}
use Rattle.fleet_book.specs.declared.verdict.Verdict.{Verdict}
use Rattle.fleet_history.specs.declared.history.Arrival.{Arrival}
use Rattle.fleet_history.specs.declared.history.Bye.{Bye}
use Rattle.fleet_history.specs.declared.history.Entry.{Entry}
use Rattle.fleet_history.specs.declared.history.Entry.TheVariants.{Tick}
use Rattle.fleet_history.specs.declared.history.Opening.{Opening}
use Rattle.fleet_history.specs.History.{after, robots}
use Rattle.fleet_history.specs.Legal.{due, leaving}
use Rattle.fleet_history.specs.Verdicts.{IsVerdict}
use Rattle.fleet_state.specs.State.{State, IsStateOf}
use Rattle.fleet_trace.specs.inside.Calm.{calm}
use Rattle.fleet_trace.proofs.LikeOpenings.{behind, flip, due-same, leaving-same, verdict}
use Rattle.fleet_trace.proofs.CalmOpening.{calm-alike}

module _ {A : Type 0} (m : Floor) (o : Opening A) (es : List (Entry A)) where
  pub calm-verdict : (c : ℕ) (order : Order) (v : Verdict) → IsVerdict m (behind (calm o) es) c order v → IsVerdict m (behind o es) c order v
  calm-verdict c order v is = verdict m (calm o) o (flip (calm-alike o)) es c order v is

  pub calm-due : (to : List ℕ) → due (behind (calm o) es) to ≡ due (behind o es) to
  calm-due to = due-same m o (calm o) (calm-alike o) es to

  pub calm-leaving : (to : List ℕ) (arrived : List Arrival) (farewells : List Bye)
      → leaving (behind (calm o) es) (after (behind (calm o) es) (Tick to arrived farewells)) ≡ leaving (behind o es) (after (behind o es) (Tick to arrived farewells))
  calm-leaving to arrived farewells = leaving-same m o (calm o) (calm-alike o) es to arrived farewells

  pub calm-robots : robots (behind (calm o) es) ≡ robots (behind o es)
  calm-robots = (calm-alike o).count

  pub state-calm : (x : Opening A) (ys : List (Entry A)) (s : State A) → x ≡ calm o → ys ≡ es → IsStateOf m (behind x ys) s → IsStateOf m (behind (calm o) es) s
  state-calm x ys s is same k =
      subst (λ (y : Opening A). IsStateOf m (behind y es) s) is (subst (λ (zs : List (Entry A)). IsStateOf m (behind x zs) s) same k)
