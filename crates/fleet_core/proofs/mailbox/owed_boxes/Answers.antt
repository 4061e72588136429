use Rattle.std.proofs.Common.{◌∙◌, ◌+◌, ◌++◌, ◌∷◌, ◌≡◌, [], ℕ, List, map, sym, ap, arith}
use Rattle.std.specs.Prelude.{max}
use Rattle.std.specs.List.{range_with_len}
use Rattle.fleet_history.specs.History.{History, owed}
use Rattle.fleet_state.proofs.Ranges.{map-range_more}
use Rattle.fleet_core.specs.Pending.{Pending}
use Rattle.fleet_core.specs.Resuming.{empty_box}
use Rattle.fleet_core.proofs.mailbox.owed_boxes.Goals as goal

-- one more mailbox
more : {A : Type 0} (h : History A) (room c limit left : ℕ) (box : Pending) (before after : List Pending) → before ≡ map (empty_box h room) (range_with_len 0 c) →
    box ≡ record { notices = []; limit = limit } → limit ≡ max room left → left ≡ owed h c → after ≡ before ++ box ∷ [] → after ≡ map (empty_box h room) (range_with_len 0 (c + 1))
more h room c limit left box before after so one most due grown =
    grown ∙ ap (λ (b : Pending). before ++ b ∷ []) (one ∙ ap (λ (n : ℕ). record { notices = []; limit = n }) (most ∙ ap (max room) due))
    ∙ ap (λ (xs : List Pending). xs ++ empty_box h room c ∷ []) so ∙ sym (map-range_more (empty_box h room) c)

pub loop-c-preserved : goal.loop-c-preserved
loop-c-preserved g c = record {
  boxes = λ m h k. more h c.args.room c.loop-c.c c.greater-limit.result c.owed.result c.in_ok-new.field-0 c.loop-c.boxes.items c.push_reserved.new.self.items (c.loop-c.invariant.boxes m h k)
      c.in_ok-new.ensures (rw c.from.ensures at c.greater-limit.ensures) (c.owed.ensures m h k) c.push_reserved.ensures.items;
  len = c.push_reserved.ensures.len ∙ ap (λ (n : ℕ). n + 1) c.loop-c.invariant.len;
  room = omega (arith, c.push_reserved.ensures.capacity, c.loop-c.invariant.room);
}
