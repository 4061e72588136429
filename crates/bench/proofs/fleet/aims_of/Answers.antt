use Rattle.std.proofs.Common.{◌≡◌, ◌+◌, ◌%◌, ◌<◌, ℕ, List, ◌∷◌, ◌++◌, [], length, ap, ◌∙◌, arith}
use Rattle.std.specs.Prelude.{slice_index}
use Rattle.std.proofs.lemmas.List.{length-append, get_or_append_left, get_or_push}
use borrow.Author.Count.{below_more}
use Rattle.bench.proofs.fleet.aims_of.Goals as goal

pub loop-robot-init : goal.loop-robot-init
loop-robot-init c = record {
  count = ap length c.in_ok-aims.ensures.items;
  len = c.in_ok-aims.ensures.len;
  room = c.in_ok-aims.ensures.capacity;
  each = λ r less. absurd (omega (arith, less));
  far = omega arith;
}

pub push_reserved-requires : goal.push_reserved-requires
push_reserved-requires c = omega (arith, c.loop-robot.invariant.len, c.loop-robot.invariant.room, c.loop-robot-test.true)

numbered_more : (fields n : ℕ) (xs : List ℕ) → length xs ≡ n → ((r : ℕ) → r < n → slice_index xs r ≡ r % fields) → (r : ℕ) → r < n + 1 → slice_index (xs ++ n % fields ∷ []) r ≡ r % fields
numbered_more fields n xs size each = below_more (λ r. slice_index (xs ++ n % fields ∷ []) r ≡ r % fields) n
    (λ r less. get_or_append_left xs (n % fields ∷ []) 0 r (omega (arith, less, size)) ∙ each r less)
    (get_or_push xs (n % fields) 0 n size)

pub loop-robot-preserved : goal.loop-robot-preserved
loop-robot-preserved c =
    let i = c.loop-robot.invariant in
    let n = c.loop-robot.robot in
    let pushed = c.push_reserved.ensures.items in
    record {
      count = ap length pushed ∙ (length-append c.loop-robot.aims.items _ ∙ ap (λ (k : ℕ). k + 1) i.count);
      len = omega (arith, i.len, c.push_reserved.ensures.len);
      room = omega (arith, i.room, c.push_reserved.ensures.capacity);
      each = rw pushed (numbered_more c.args.fields n c.loop-robot.aims.items i.count i.each);
      far = omega (arith, c.loop-robot-test.true);
    }

pub returns-clause-count : goal.returns-clause-count
returns-clause-count c = omega (arith, c.loop-robot.invariant.count, c.loop-robot.invariant.far, c.loop-robot-test.false)

pub returns-clause-each : goal.returns-clause-each
returns-clause-each c r less = c.loop-robot.invariant.each r (omega (arith, less, c.loop-robot-test.false))
