use Rattle.std.proofs.Common.{arith, ◌≡◌, ◌<◌, ◌∙◌, ℕ, None, true, false, length, map, ap, subst, sym, get_or, refl}
use Rattle.std.specs.Prelude.{is_some, slice_index, slice_set}
use Rattle.std.proofs.lemmas.List.{get_or-map, length-map}
use Rattle.fleet_history.specs.declared.history.Bye.{Bye}
use Rattle.fleet_core.specs.Hooks.{spare_laws, IsLastStamp}
use Rattle.fleet_core.proofs.Farewells.{spare_law}
use Rattle.fleet_core.proofs.StampLists.{no_farewell, word-at, set-alike, one-more, default-any, spare-still, spent-more}
use Rattle.fleet_core.proofs.stamps.stamp_farewells.Goals as goal
use Rattle.fleet_core.proofs.stamps.stamp_farewells.Goals.{in-Some, in_default}

pub bounds-to-robot : goal.bounds-to-robot
bounds-to-robot g c =
    let l : c.loop-j.j < length c.loop-j.leaving = omega (arith, c.loop-j-test.true, c.loop-j.auto.leaving) in
    omega (arith, c.requires.same, c.requires.known c.loop-j.j no_farewell c.loop-j-test.true, word-at (λ (b : Bye). b.robot) c.loop-j.leaving c.args.leaving.now c.loop-j.j no_farewell c.loop-j.invariant.robots l c.loop-j-test.true)

pub last_word-requires : goal.last_word-requires
last_word-requires g c =
    let l : c.loop-j.j < length c.loop-j.leaving = omega (arith, c.loop-j-test.true, c.loop-j.auto.leaving) in
    omega (arith, c.loop-j.invariant.count, c.requires.known c.loop-j.j no_farewell c.loop-j-test.true, word-at (λ (b : Bye). b.robot) c.loop-j.leaving c.args.leaving.now c.loop-j.j no_farewell c.loop-j.invariant.robots l c.loop-j-test.true)

both : {X : Type 0} → true ≡ false → X
both e = absurd (not_so e)
  where
    not_so : true ≡ false → ⊥
    not_so e = cc

pub loop-j-preserved : goal.loop-j-preserved
loop-j-preserved g c =
    let inv = c.loop-j.invariant in
    let j = c.loop-j.j in
    let old = c.args.leaving.now in
    let spare = spare_laws c.args.farewells.now.items in
    let robot : Bye → ℕ = λ b. b.robot in
    let rs = map robot old in
    let l : j < length c.loop-j.leaving = omega (arith, c.loop-j-test.true, c.loop-j.auto.leaving) in
    let r = (get_or c.loop-j.leaving j no_farewell).robot in
    let same : r ≡ (get_or old j no_farewell).robot = word-at robot c.loop-j.leaving old j no_farewell inv.robots l c.loop-j-test.true in
    let n : j < length rs = omega (arith, c.loop-j-test.true, length-map old robot) in
    let at : slice_index rs j ≡ r = get_or-map robot old j no_farewell 0 c.loop-j-test.true ∙ sym same in
    let still : spare_law (spare_laws c.loop-j.farewells.items) r ≡ spare_law spare r = ap (λ xs. spare_law xs r) inv.spent ∙ spare-still rs j r spare c.requires.rising n at in
    record {
      robots = elim c.match-last_word.branch [
        | in-Some w ↦ rw w.leaving-is (set-alike robot c.loop-j.leaving j (record { robot = r; stamp = w.in-Some.stamp }) no_farewell l refl ∙ inv.robots)
        | in_default w ↦ rw w.leaving-is inv.robots
      ];
      stamps = elim c.match-last_word.branch [
        | in-Some w ↦
            (let said = w.in-Some.ensures.stamp in
            rw w.leaving-is
            (one-more (λ (b : Bye). IsLastStamp spare b.robot b.stamp) c.loop-j.leaving j (record { robot = r; stamp = w.in-Some.stamp }) no_farewell l inv.stamps
            (said.0, sym still ∙ said.1, said.2)))
        | in_default w ↦
            both (sym (ap is_some still ∙ ap (λ k. is_some (spare_law spare k)) same ∙ c.requires.unspent j no_farewell c.loop-j-test.true) ∙ sym w.in_default.ensures.answers)
      ];
      count = c.last_word.ensures.count ∙ inv.count;
      spent = c.last_word.ensures.spent ∙ ap (λ xs. slice_set xs r None) inv.spent ∙ spent-more rs j r spare n at;
    }

pub returns-clause-stamps : goal.returns-clause-stamps
returns-clause-stamps g c k d l =
    let spare = spare_laws c.args.farewells.now.items in
    subst (λ (b : Bye). IsLastStamp spare b.robot b.stamp) (default-any c.loop-j.leaving k no_farewell d l) (c.loop-j.invariant.stamps k (omega (arith, c.loop-j-test.false, c.loop-j.auto.leaving, c.loop-j.auto.j-end)))
