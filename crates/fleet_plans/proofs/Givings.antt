-- What holds of the placements that a judge was given.
use Rattle.std.proofs.Common.{ℕ, List, Result, Ok, Err, IfOk, sym, subst}
use Rattle.fleet_grid.specs.Floor.{Floor}
use Rattle.fleet_plans.specs.Judge.{Judged, HasJudged}
use Rattle.fleet_plans.specs.inside.Given.{IsGiven}

pub if_ok_then : {X E : Type 0} (r : Result X E) (P Q : X → Type 0) → ((x : X) → P x → Q x) → IfOk r P → IfOk r Q
if_ok_then (Ok x) P Q step p = step x p
if_ok_then (Err e) P Q step p = tt

pub if_ok_both : {X E : Type 0} (r : Result X E) (P Q R : X → Type 0) → ((x : X) → P x → Q x → R x) → IfOk r P → IfOk r Q → IfOk r R
if_ok_both (Ok x) P Q R step p q = step x p q
if_ok_both (Err e) P Q R step p q = tt

-- it was given what this follows from
pub given_as : (m : Floor) (P Q : List (List ℕ) → Type 0) (judge : Judged) → ((places : List (List ℕ)) → P places → Q places) → IsGiven m P judge → IsGiven m Q judge
given_as m P Q judge step is = record { places = is.places; some = is.some; holds = step is.places is.holds; given = is.given }

-- the map of a judge is that on which it judges
pub on_own : (m : Floor) (places : List (List ℕ)) (judge : Judged) → HasJudged m places judge → HasJudged judge.floor places judge
on_own m places judge is = subst (λ (f : Floor). HasJudged f places judge) (sym is.on) is
