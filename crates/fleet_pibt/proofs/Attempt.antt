-- One try of a robot at a cell: what the reservation, the plan after it and the handing back leave.
use Rattle.std.proofs.Common.{◌≡◌, ◌≢◌, ℕ, ◌<◌, Option, Some, None, List, length, slice_set, sym, subst, ◌∙◌, arith}
use Rattle.std.proofs.Math.ListN.{length-set}
use Rattle.fleet_pibt.specs.inside.Plan.{Edge, Written, Takes}
use Rattle.fleet_pibt.specs.inside.Entry.{table}
use Rattle.fleet_pibt.specs.inside.Setting.{Setting, robots, cell_of, near, cost, Stands, IsScene, TidyBoard, IsReady, IsDone, HasFailed, HasGrown, IsShut, Refused, IsChoice}
use Rattle.fleet_pibt.specs.inside.Setting.Refused.{pushed}
use Rattle.fleet_pibt.proofs.Reserve.{reserve-tidy, reserve-edge, reserve-keep}
use Rattle.fleet_pibt.proofs.Back.{back-grown}
use Rattle.fleet_pibt.proofs.Planning.{Written-set, scene-distinct}

module _ (s : Setting) (scene : IsScene s) (target holder : List (Option ℕ)) (robot cell : ℕ)
    (ready : IsReady s target holder robot) (choice : IsChoice s target holder robot cell) (inside : cell < length s.floor.letters)
    (free : table holder cell ≡ None)
    (clear : (k : ℕ) → Stands s k cell → table target k ≡ Some (cell_of s robot) → ⊥) where
  abbrev target1 : List (Option ℕ)
  target1 = slice_set target robot (Some cell)

  abbrev holder1 : List (Option ℕ)
  holder1 = slice_set holder cell (Some robot)

  attempt-target : Written (table target) robot (Some cell) (table target1)
  attempt-target = Written-set target robot (Some cell) (omega (arith, ready.known, ready.targets))

  attempt-holder : Written (table holder) cell (Some robot) (table holder1)
  attempt-holder = Written-set holder cell (Some robot) (omega (arith, inside, ready.holders))

  attempt-takes : Takes (near s) (robots s) (cell_of s) (cost s) (table target) (table holder) robot cell
  attempt-takes = record {
    idle = ready.idle;
    small = ready.known;
    lawful = choice.legal;
    free = free;
    clear = λ k e at. clear k (ready.tidy.real k _ e, at) e;
    first = choice.first;
    drawn = choice.drawn;
  }

  pub attempt-tidy : TidyBoard s target1 holder1
  attempt-tidy = reserve-tidy (near s) (robots s) (cell_of s) (cost s) (scene-distinct s scene) (table target) (table holder) robot cell (table target1) (table holder1) ready.tidy attempt-takes attempt-target attempt-holder

  pub attempt-keep : (r c : ℕ) → table target r ≡ Some c → table target1 r ≡ Some c
  attempt-keep = reserve-keep (near s) (robots s) (cell_of s) (cost s) (scene-distinct s scene) (table target) (table holder) robot cell (table target1) (table holder1) ready.tidy attempt-takes attempt-target attempt-holder

  attempt-edge : (x : ℕ) → ((k : ℕ) → k < robots s → cell_of s k ≡ cell → table target1 k ≡ None → k ≡ x) → Edge (near s) (robots s) (cell_of s) (cost s) (table target1) (table holder1) x
  attempt-edge x = reserve-edge (near s) (robots s) (cell_of s) (cost s) (scene-distinct s scene) (table target) (table holder) robot cell (table target1) (table holder1) ready.tidy attempt-takes attempt-target attempt-holder x ready.edge

  -- nobody undecided stands on the cell
  pub attempt-done : ((k : ℕ) → Stands s k cell → table target1 k ≢ None) → IsDone s target holder target1 holder1 robot × (table target1 robot ≡ Some cell)
  attempt-done decided = (
    record {
      keep = attempt-keep;
      settled = λ none. cc (attempt-target.at);
      tidy = attempt-tidy;
      edge = attempt-edge (robots s) (λ k small at none. absurd (decided k (small, at) none));
    },
    attempt-target.at,
  )

  -- the other robot is planned next
  module _ (other : ℕ) (stands : Stands s other cell) (idle : table target1 other ≡ None) where
    pub attempt-ready : IsReady s target1 holder1 other
    attempt-ready = record {
      known = stands.0;
      targets = length-set target robot (Some cell) ∙ ready.targets;
      holders = length-set holder cell (Some robot) ∙ ready.holders;
      tidy = attempt-tidy;
      edge = attempt-edge other (λ k small at none. (scene-distinct s scene) k other small stands.0 (cc (stands.1)));
      idle = idle;
    }

    pub attempt-passed : (target2 holder2 : List (Option ℕ)) → IsDone s target1 holder1 target2 holder2 other → IsDone s target holder target2 holder2 robot × (table target2 robot ≡ Some cell)
    attempt-passed target2 holder2 done =
        let at : table target2 robot ≡ Some cell = done.keep robot cell attempt-target.at in (
          record {
            keep = λ r c e. done.keep r c (attempt-keep r c e);
            settled = λ none. cc (at);
            tidy = done.tidy;
            edge = done.edge;
          },
          at,
        )

    pub attempt-failed : (target2 holder2 : List (Option ℕ)) → length target2 ≡ robots s → length holder2 ≡ length s.floor.letters → HasFailed s target1 holder1 target2 holder2 other →
        let target3 = slice_set (slice_set target2 robot None) other (Some cell) in let holder3 = slice_set holder2 cell (Some other) in
        HasGrown s target holder target3 holder3 robot × IsShut s target3 holder3 robot cell × Refused s target holder robot cell
    attempt-failed target2 holder2 lt lh failed =
        let targetm : List (Option ℕ) = slice_set target2 robot None in
        let target3 : List (Option ℕ) = slice_set targetm other (Some cell) in
        let holder3 : List (Option ℕ) = slice_set holder2 cell (Some other) in
        let lm : length targetm ≡ robots s = length-set target2 robot None ∙ lt in
        let w1 : Written (table target) robot (Some (cell_of s other)) (table target1) = subst (λ (x : ℕ). Written (table target) robot (Some x) (table target1)) (sym stands.1) attempt-target in
        let wm : Written (table target2) robot None (table targetm) = Written-set target2 robot None (omega (arith, ready.known)) in
        let w3 : Written (table targetm) other (Some cell) (table target3) = Written-set targetm other (Some cell) (omega (arith, stands.0)) in
        let w3' : Written (table targetm) other (Some (cell_of s other)) (table target3) = subst (λ (x : ℕ). Written (table targetm) other (Some x) (table target3)) (sym stands.1) w3 in
        let wh : Written (table holder2) cell (Some other) (table holder3) = Written-set holder2 cell (Some other) (omega (arith, inside)) in
        let wh' : Written (table holder2) (cell_of s other) (Some other) (table holder3) = subst (λ (x : ℕ). Written (table holder2) x (Some other) (table holder3)) (sym stands.1) wh in (
          back-grown (near s) (robots s) (cell_of s) (cost s) (scene-distinct s scene) (table target) (table holder) robot other (table target1) (table holder1) (table target2) (table holder2) (table targetm) (table target3) (table holder3) ready.tidy ready.idle stands.0 w1 failed wm w3' wh',
          (λ none. absurd (cc (wh.at))),
          pushed other target2 holder2 stands failed,
        )
