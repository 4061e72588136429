use Rattle.std.proofs.Common.{arith, ◌≡◌, ℕ, Option, Some, None, length, ap, refl}
use Rattle.std.specs.Prelude.{MatchOption}
use Rattle.fleet_history.specs.History.{history_of}
use Rattle.fleet_history.proofs.Legal.{legal-opening}
use Rattle.fleet_planner.specs.Planned.{waits}
use Rattle.fleet_state.proofs.Parts.{wait-count}
use Rattle.fleet_planner.proofs.GoalsKept.{idle-is}
use Rattle.fleet_core.proofs.kernel.Core.eldest.Goals as goal

match_none : (o : Option ℕ) (P Q : Type 0) (R : ℕ → Type 0) → (P → Q) → MatchOption o P R → MatchOption o Q R
match_none None P Q R f m = f m
match_none (Some x) P Q R f m = m

pub eldest-requires : goal.eldest-requires
eldest-requires g c =
    let k = c.self.invariant.is in
    omega (arith, ap length c.waits.ensures.waits, wait-count k, (legal-opening c.self.inside.grid (history_of c.self.inside.chapter) k.legal).few_robots)

pub returns : goal.returns
returns g c =
    let h = history_of c.self.inside.chapter in
    let same : c.waits.result.now ≡ waits h = c.waits.ensures.of c.self.inside.grid h c.self.invariant.is in
    rw (← c.self.view_is) (match_none c.eldest.result _ _ _ (idle-is h (waits h) refl).0 (rw same at c.eldest.ensures))
