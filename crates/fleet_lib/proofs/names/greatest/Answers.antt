-- The greatest so far.
use Rattle.std.proofs.Common.{◌≤◌, ◌+◌, ℕ, List, arith, sym, subst, take, take_all}
use Rattle.std.specs.Prelude.{slice_index_or}
use Rattle.std.specs.List.{All, Contains}
use Rattle.std.proofs.lemmas.List.Elements.{Contains-get_or}
use Rattle.fleet_lib.proofs.Folder.{most-same, most-more}
use Rattle.fleet_lib.proofs.names.greatest.Goals as goal
use Rattle.fleet_lib.proofs.names.greatest.Goals.{then-number-most, else-number-most}

pub loop-number-preserved : goal.loop-number-preserved
loop-number-preserved c =
    let numbers = c.args.numbers.now in
    let i = c.loop-number.number-index in
    elim c.if-number-most.branch [
      | then-number-most w ↦ record {
        there = subst (λ (n : ℕ). Contains numbers n) (sym w.most-is) (Contains-get_or numbers i 0 c.loop-number-test.true);
        most = subst (λ (m : ℕ). All (λ n. n ≤ m) (take (i + 1) numbers)) (sym w.most-is) (most-more numbers i c.loop-number.most c.loop-number-test.true w.if-number-most.true c.loop-number.invariant.most);
      }
      | else-number-most w ↦ record {
        there = subst (λ (n : ℕ). Contains numbers n) (sym w.most-is) c.loop-number.invariant.there;
        most = subst (λ (m : ℕ). All (λ n. n ≤ m) (take (i + 1) numbers)) (sym w.most-is) (most-same numbers i c.loop-number.most c.loop-number-test.true w.if-number-most.false c.loop-number.invariant.most);
      }
    ]

pub returns : goal.returns
returns c =
    let numbers = c.args.numbers.now in
    (c.loop-number.invariant.there, subst (λ (l : List ℕ). All (λ n. n ≤ c.loop-number.most) l) (take_all c.loop-number.number-index numbers (omega (arith, c.loop-number-test.false))) c.loop-number.invariant.most)
