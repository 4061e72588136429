-- The copies, one by one.
use Rattle.std.proofs.Common.{◌≡◌, ◌∙◌, ◌++◌, ◌∷◌, [], ap, replicate, arith}
use Rattle.std.proofs.lemmas.List.{replicate_more}
use Rattle.std.proofs.lemmas.Result.{IfOk-from_err}
use Rattle.fleet_book.proofs.book.filled.Goals as goal

pub returns-in_err-items : goal.returns-in_err-items
returns-in_err-items g c = IfOk-from_err c.from_residual.result _ c.from_residual.ensures.0

pub loop-init : goal.loop-init
loop-init g c = record {
  size = c.in_ok-items.ensures.len;
  room = c.in_ok-items.ensures.capacity;
  items = c.in_ok-items.ensures.items;
}

pub push_reserved-requires : goal.push_reserved-requires
push_reserved-requires g c = omega (arith, c.loop-test.true, c.loop.invariant.size, c.loop.invariant.room)

pub loop-preserved : goal.loop-preserved
loop-preserved g c = record {
  size = omega (arith, c.push_reserved.ensures.len, c.loop.invariant.size);
  room = omega (arith, c.push_reserved.ensures.capacity, c.loop.invariant.room);
  items =
      c.push_reserved.ensures.items
      ∙ ap (λ items. items ++ c.args.item ∷ []) c.loop.invariant.items
      ∙ replicate_more c.loop.counter c.args.item;
}

pub returns : goal.returns
returns g c =
    let all : c.loop.counter ≡ c.args.count = omega (arith, c.loop-test.false, c.loop.auto.counter-end) in
    c.loop.invariant.items ∙ ap (λ n. replicate n c.args.item) all
