-- One number more, from the last one down.
use Rattle.std.proofs.Common.{ℕ, ◌+◌, sym, subst}
use Rattle.std.proofs.lemmas.List.Sorted.{IsNonDecreasingBy-from_sort}
use Rattle.fleet_lib.proofs.Folder.{IsBegun, begun-end, begun-gap, begun-more, begun-same}
use Rattle.fleet_lib.proofs.names.begin_of.Goals as goal
use Rattle.fleet_lib.proofs.names.begin_of.Goals.{then-number-begin+else-begin-number-gt1, else-number-begin}

pub returns-then-begin-number-gt1 : goal.returns-then-begin-number-gt1
returns-then-begin-number-gt1 c =
    let numbers = c.args.numbers.now in
    begun-gap numbers c.args.last c.loop-at.begin c.loop-at.at (IsNonDecreasingBy-from_sort (λ n. n) numbers c.requires.order) c.loop-at.invariant c.loop-at-test.true c.if-number-begin.true c.if-begin-number-gt1.true

pub loop-at-preserved : goal.loop-at-preserved
loop-at-preserved c =
    let numbers = c.args.numbers.now in
    let last = c.args.last in
    let at = c.loop-at.at in
    let rises = IsNonDecreasingBy-from_sort (λ n. n) numbers c.requires.order in
    elim c.if-number-begin.branch [
      | then-number-begin+else-begin-number-gt1 w ↦
          subst (λ (b : ℕ). IsBegun numbers last b (at + 1)) (sym w.begin-is) (begun-more numbers last c.loop-at.begin at rises c.loop-at.invariant c.loop-at-test.true w.if-number-begin.true w.if-begin-number-gt1.false)
      | else-number-begin w ↦
          subst (λ (b : ℕ). IsBegun numbers last b (at + 1)) (sym w.begin-is) (begun-same numbers last c.loop-at.begin at rises c.loop-at.invariant c.loop-at-test.true w.if-number-begin.false)
    ]

pub returns : goal.returns
returns c = begun-end c.args.numbers.now c.args.last c.loop-at.begin c.loop-at.at c.loop-at.invariant c.loop-at-test.false
