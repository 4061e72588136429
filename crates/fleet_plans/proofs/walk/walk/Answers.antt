-- The robots have gone to the end of the longest track.
use Rattle.std.proofs.Common.{◌≡◌, ℕ, List, [], length, ◌∙◌, subst, sym, arith}
use Rattle.std.specs.Borrow.{Bor}
use Rattle.std.proofs.lemmas.List.{length-map}
use Rattle.fleet_grid.specs.Floor.{Floor}
use Rattle.fleet_plans.specs.Shown.{texts}
use Rattle.fleet_plans.specs.Tracks.{AreWalked}
use Rattle.fleet_plans.specs.inside.Given.{IsGiven}
use Rattle.fleet_plans.specs.inside.Walk.{AreSteps, IsLongest}
use Rattle.fleet_plans.proofs.Walks.{taken_first, stopped_gone, stopped_count, walked}
use Rattle.fleet_plans.proofs.Givings.{if_ok_then, given_as}
use Rattle.fleet_plans.proofs.walk.walk.Goals as goal

pub take_moves-requires-clause-begun : goal.take_moves-requires-clause-begun
take_moves-requires-clause-begun g c =
    taken_first c.args.judge.now.floor c.args.starts.now c.as_mut_slice-place.result.now c.take.new.self (c.as_mut_slice-place.ensures.value ∙ c.in_ok-place.ensures.items)
    (c.in_ok-take.ensures.taken c.args.judge.now.floor [] c.requires.fresh)

pub take_steps-requires-clause-begun : goal.take_steps-requires-clause-begun
take_steps-requires-clause-begun g c =
    stopped_gone c.take.new.self.floor c.args.sides.width c.args.sides.height c.as_mut_slice-place.result.now c.args.starts.now (texts c.args.tracks.now) c.longest-steps.result c.take_moves.new.place c.take_moves.new.judge
    (c.as_mut_slice-place.ensures.value ∙ c.in_ok-place.ensures.items) c.in_ok-take_moves.ensures

pub take_steps-requires-clause-some : goal.take_steps-requires-clause-some
take_steps-requires-clause-some g c =
    let count = stopped_count c.take.new.self.floor c.args.sides.width c.args.sides.height c.as_mut_slice-place.result.now (texts c.args.tracks.now) c.longest-steps.result c.take_moves.new.place c.take_moves.new.judge c.in_ok-take_moves.ensures in
    omega (arith, count)

pub take_steps-requires-clause-few : goal.take_steps-requires-clause-few
take_steps-requires-clause-few g c =
    let stopped = c.in_ok-take_moves.ensures in
    let count = stopped_count c.take.new.self.floor c.args.sides.width c.args.sides.height c.as_mut_slice-place.result.now (texts c.args.tracks.now) c.longest-steps.result c.take_moves.new.place c.take_moves.new.judge stopped in
    omega (arith, count, stopped.few)

pub returns : goal.returns
returns g c =
    let w = c.args.sides.width in
    let h = c.args.sides.height in
    let m = c.args.judge.now.floor in
    let tracks = texts c.args.tracks.now in
    let starts = c.args.starts.now in
    let n = c.longest-steps.result in
    let judge = c.take_steps.new.judge in
    let text = λ (x : Bor (List ℕ)). x.now in
    let all : IsLongest tracks (length tracks) n = subst (λ (k : ℕ). IsLongest tracks k n) (sym (length-map c.args.tracks.now text)) c.longest-steps.ensures in
    let same : c.take_moves.new.judge.floor ≡ m = c.in_ok-take_moves.ensures.gone.given.on ∙ (c.in_ok-take.ensures.taken m [] c.requires.fresh).on in
    let Gone : List (List ℕ) → Type 0 = λ places. AreSteps w h starts tracks places n in
    let Walked : List (List ℕ) → Type 0 = λ places. AreWalked w h starts tracks places in
    if_ok_then c.take_steps.result (λ _. IsGiven c.take_moves.new.judge.floor Gone judge) (λ _. IsGiven m Walked judge)
    (λ _ given.
    given_as m Gone Walked judge (λ places steps. walked w h starts tracks places n steps all)
    (subst (λ (f : Floor). IsGiven f Gone judge) same given))
    c.take_steps.ensures
