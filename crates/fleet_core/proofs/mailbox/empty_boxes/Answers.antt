use Rattle.std.proofs.Common.{◌∙◌, ◌+◌, ◌++◌, ◌∷◌, [], ℕ, List, replicate, ap, arith}
use Rattle.std.proofs.lemmas.List.{replicate_more}
use Rattle.fleet_core.specs.Pending.{Pending}
use Rattle.fleet_core.proofs.mailbox.empty_boxes.Goals as goal

pub push_reserved-requires : goal.push_reserved-requires
push_reserved-requires g c = omega (arith, c.loop-i.invariant.len, c.loop-i.invariant.room, c.loop-i-test.true)

pub loop-i-preserved : goal.loop-i-preserved
loop-i-preserved g c =
    let empty : Pending = record { notices = []; limit = c.args.limit } in
    record {
      boxes = c.push_reserved.ensures.items ∙ (ap (λ (b : Pending). c.loop-i.boxes.items ++ b ∷ []) (rw c.from.ensures at c.in_ok-new.ensures) ∙ (ap (λ (xs : List Pending). xs ++ empty ∷ []) c.loop-i.invariant.boxes ∙ replicate_more c.loop-i._i empty));
      len = c.push_reserved.ensures.len ∙ ap (λ (n : ℕ). n + 1) c.loop-i.invariant.len;
      room = omega (arith, c.push_reserved.ensures.capacity, c.loop-i.invariant.room);
    }

pub returns : goal.returns
returns g c = c.loop-i.invariant.boxes ∙ ap (λ (n : ℕ). replicate n (record { notices = []; limit = c.args.limit })) (omega (arith, c.loop-i.auto._i-end, c.loop-i-test.false))
