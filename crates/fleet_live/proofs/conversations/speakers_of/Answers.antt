-- One more conversation over pipes.
use Rattle.std.proofs.Common.{◌∙◌, ◌+◌, ℕ, [], ◌∷◌, ap}
use Rattle.fleet_live.specs.Begin.{on_pipe, operator}
use Rattle.fleet_live.proofs.Counting.{given-more}
use Rattle.fleet_live.proofs.conversations.speakers_of.Goals as goal

pub loop-at-preserved : goal.loop-at-preserved
loop-at-preserved c = record {
  items = given-more (on_pipe c.args.clients) (operator c.args.pipes c.args.clients c.args.paced c.args.watch ∷ []) c.loop-at.at c.loop-at.speakers.items c.push_reserved-in-loop-at.new.self.items c.on_pipe.result
      c.loop-at.invariant.items c.on_pipe.ensures c.push_reserved-in-loop-at.ensures.items;
  len = c.push_reserved-in-loop-at.ensures.len ∙ ap (λ (n : ℕ). n + 1) c.loop-at.invariant.len;
  room = rw c.push_reserved-in-loop-at.ensures.capacity c.loop-at.invariant.room;
}
