-- A step of all robots, from what its parts tell of the tables.
use Rattle.std.proofs.Common.{arith, length, map, ◌≡◌, ℕ, List, Option, ap, refl, subst, sym, take, drop, ◌++◌, ◌∙◌}
use Rattle.std.proofs.lemmas.List.{take-append-le, length-map}
use Rattle.std.proofs.lemmas.Result.{IfOk-from_err}
use Rattle.std.proofs.Math.Seq.{take-length}
use Rattle.fleet_pibt.specs.inside.Around.{AreArounds}
use Rattle.fleet_pibt.specs.inside.Entry.{IsEmpty}
use Rattle.fleet_pibt.specs.Order.{IsRoll}
use Rattle.fleet_pibt.specs.Goals.{AreGoals}
use Rattle.fleet_pibt.specs.inside.Setting.{Setting, setting, IsScene, IsChosen}
use Rattle.fleet_pibt.specs.Size.{Size}
use Rattle.fleet_pibt.specs.declared.around.Around.{Around}
use Rattle.fleet_pibt.proofs.Rated.{rated-from}
use Rattle.fleet_pibt.proofs.Stepped.{stepped}
use Rattle.fleet_pibt.proofs.stepper.Stepper.step_with_door.Goals as goal

whole : {A : Type 0} (n : ℕ) (xs ys : List A) → length xs ≡ n → take n (xs ++ ys) ≡ xs
whole n xs ys e = take-append-le n xs ys (omega arith) ∙ subst (λ (k : ℕ). take k xs ≡ xs) e (take-length xs)

pub see-requires-clause-same_length : goal.see-requires-clause-same_length
see-requires-clause-same_length g c = c.deref_mut.ensures.len ∙ c.self.invariant.1 ∙ ap (λ (z : Size). z.robots) (c.self.view_is ∙ c.requires.made)

pub see-requires-clause-few : goal.see-requires-clause-few
see-requires-clause-few g c = c.requires.few

pub see-requires-clause-floor : goal.see-requires-clause-floor
see-requires-clause-floor g c = c.requires.placed.on_floor

pub see-requires-clause-shows : goal.see-requires-clause-shows
see-requires-clause-shows g c = c.requires.shows

pub see-requires-clause-cells : goal.see-requires-clause-cells
see-requires-clause-cells g c = ap (λ (z : Size). z.cells) (c.self.view_is ∙ c.requires.made)

pub see-requires-clause-nobody : goal.see-requires-clause-nobody
see-requires-clause-nobody g c = c.self.invariant.3

pub decide-requires-clause-whole : goal.decide-requires-clause-whole
decide-requires-clause-whole g c =
    let seen : c.deref.result.now ≡ c.see.new.arounds = c.deref.ensures.value ∙ whole c.self.inside.arounds.len c.see.new.arounds (drop (length c.see.new.arounds) c.self.inside.arounds.items) (c.see.auto.arounds ∙ c.deref_mut.ensures.len) in
    let m = c.args.grid.now in
    let goals = c.see.new.goals in
    let s : Setting = setting m c.args.from.now (g.G.Guide.goal_of goals) (g.G.Guide.distance goals m) (map (λ h. h.law) c.args.ties.now) c.args.door in
    let scene : IsScene s = record { form = c.see.ensures.form; few = c.requires.few; placed = c.requires.placed } in
    let are : AreGoals m c.args.from.now c.args.waits.now (g.G.Guide.goal_of goals) (g.G.Guide.distance goals m) = rw (c.see.ensures.goals, c.see.ensures.distances) c.requires.goals in
    let arounds : AreArounds m c.args.door (g.G.Guide.goal_of goals) (g.G.Guide.distance goals m) c.args.from.now c.see.new.arounds = rw (c.see.ensures.goals, c.see.ensures.distances) c.in_ok-see.ensures.arounds in
    let gathered : AreArounds m c.args.door (g.G.Guide.goal_of goals) (g.G.Guide.distance goals m) c.args.from.now c.deref.result.now =
    subst (λ (xs : List Around). AreArounds m c.args.door (g.G.Guide.goal_of goals) (g.G.Guide.distance goals m) c.args.from.now xs) (sym seen) arounds in
    record {
      scene = scene;
      tied = length-map c.args.ties.now (λ h. h.law) ∙ c.requires.tied;
      gathered = gathered;
      rated = rated-from s scene c.args.waits.now are c.deref.result.now gathered;
    }

pub decide-requires-clause-from : goal.decide-requires-clause-from
decide-requires-clause-from g c = refl

pub decide-requires-clause-waited : goal.decide-requires-clause-waited
decide-requires-clause-waited g c = c.requires.waited

pub decide-requires-clause-queued : goal.decide-requires-clause-queued
decide-requires-clause-queued g c = c.deref_mut-2.ensures.len ∙ ap (λ (z : Size). z.robots) (c.self.view_is ∙ c.requires.made) ∙ sym c.requires.waited

pub decide-requires-clause-roll : goal.decide-requires-clause-roll
decide-requires-clause-roll g c = subst IsRoll (sym c.deref_mut-2.ensures.value) c.self.invariant.6

pub decide-requires-clause-same_length : goal.decide-requires-clause-same_length
decide-requires-clause-same_length g c = c.requires.same_length

pub decide-requires-clause-clear : goal.decide-requires-clause-clear
decide-requires-clause-clear g c =
    let cells = ap (λ (z : Size). z.cells) (c.self.view_is ∙ c.requires.made) in
    record {
      targets = c.self.invariant.0 ∙ ap (λ (z : Size). z.robots) (c.self.view_is ∙ c.requires.made);
      standings = c.see.ensures.cells ∙ cells;
      holders = ap length c.see.ensures.holder ∙ c.self.invariant.2 ∙ cells;
      no_target = c.self.invariant.4;
      nobody = c.see.ensures.nobody;
      no_holder = subst IsEmpty (sym c.see.ensures.holder) c.self.invariant.5;
    }

pub invariant_of-self : goal.invariant_of-self
invariant_of-self g c = (
  c.self.invariant.0,
  c.self.invariant.1,
  ap length c.see.ensures.holder ∙ c.self.invariant.2 ∙ sym c.see.ensures.cells,
  c.see.ensures.nobody,
  c.self.invariant.4,
  subst IsEmpty (sym c.see.ensures.holder) c.self.invariant.5,
  c.self.invariant.6,
)

pub returns-in_err-see : goal.returns-in_err-see
returns-in_err-see g c = record {
  made = ap (λ (cells : ℕ). record { cells = cells; robots = c.self.inside.queue.len }) c.see.ensures.cells ∙ c.self.view_is;
  goals = c.see.ensures.goals;
  distances = c.see.ensures.distances;
  shows = c.see.ensures.shows;
  stays = c.see.ensures.stays;
  stepped = IfOk-from_err c.from_residual.result _ c.from_residual.ensures.0;
}

pub invariant_of-self-2 : goal.invariant_of-self-2
invariant_of-self-2 g c =
    let clear = c.decide.ensures.clear in
    let queue = c.decide.new.queue in (
      clear.targets ∙ sym (ap (λ (z : Size). z.robots) (c.self.view_is ∙ c.requires.made)),
      c.self.invariant.1,
      clear.holders ∙ sym clear.standings,
      clear.nobody,
      clear.no_target,
      clear.no_holder,
      subst IsRoll (sym (whole c.self.inside.queue.len queue (drop (length queue) c.self.inside.queue.items) (c.decide.auto.queue ∙ c.deref_mut-2.ensures.len))) c.decide.ensures.roll,
    )

pub returns-clause-made : goal.returns-clause-made
returns-clause-made g c =
    let cells = c.decide.ensures.clear.standings ∙ sym (ap (λ (z : Size). z.cells) (c.self.view_is ∙ c.requires.made)) in
    ap (λ (cells : ℕ). record { cells = cells; robots = c.self.inside.queue.len }) cells ∙ c.self.view_is

pub returns-clause-stepped : goal.returns-clause-stepped
returns-clause-stepped g c =
    let m = c.args.grid.now in
    let goals = c.args.goals.now in
    let new = c.see.new.goals in
    let s : Setting = setting m c.args.from.now (g.G.Guide.goal_of goals) (g.G.Guide.distance goals m) (map (λ h. h.law) c.args.ties.now) c.args.door in
    let scene : IsScene s = record { form = c.see.ensures.form; few = c.requires.few; placed = c.requires.placed } in
    let chosen : IsChosen s c.decide.new.queue c.decide.new.to =
    subst (λ (d : ℕ → ℕ → Option ℕ). IsChosen (setting m c.args.from.now (g.G.Guide.goal_of goals) d (map (λ h. h.law) c.args.ties.now) c.args.door) c.decide.new.queue c.decide.new.to) (ap (λ d. d m) c.see.ensures.distances)
    (subst (λ (gs : ℕ → Option ℕ). IsChosen (setting m c.args.from.now gs (g.G.Guide.distance new m) (map (λ h. h.law) c.args.ties.now) c.args.door) c.decide.new.queue c.decide.new.to) c.see.ensures.goals c.decide.ensures.chosen) in
    stepped s scene c.args.waits.now c.requires.waited c.requires.goals c.decide.new.queue c.decide.ensures.order c.decide.new.to (c.decide.auto.to ∙ c.requires.same_length) chosen

pub returns-clause-goals : goal.returns-clause-goals
returns-clause-goals g c = c.see.ensures.goals

pub returns-clause-distances : goal.returns-clause-distances
returns-clause-distances g c = c.see.ensures.distances

pub returns-clause-shows : goal.returns-clause-shows
returns-clause-shows g c = c.see.ensures.shows

pub returns-clause-stays : goal.returns-clause-stays
returns-clause-stays g c = c.see.ensures.stays
