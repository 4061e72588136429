-- One more note.
use Rattle.std.proofs.Common.{◌≡◌, ◌∙◌, ◌+◌, ℕ, List, [], ◌∷◌, ◌++◌, false, map, ap, sym, arith}
use Rattle.std.proofs.lemmas.List.FromFn.{map-range_with_len_more}
use Rattle.std.specs.List.{range_with_len}
use Rattle.fleet_history.specs.History.{taken_count}
use Rattle.live_fleet.specs.declared.notes.Note.{Note}
use Rattle.live_fleet.proofs.party.new_notes.Goals as goal

pub loop-client-preserved : goal.loop-client-preserved
loop-client-preserved g c =
    let h = c.args.session.now.world.core.history in
    let front : List Note = map {B = Note} (λ n. record { closed = false; last = taken_count h n }) (range_with_len 0 c.loop-client.client) in
    record {
      items = c.push_reserved.ensures.items ∙ (ap (λ (l : List Note). l ++ record { closed = false; last = c.taken.result } ∷ []) c.loop-client.invariant.items
          ∙ (ap (λ (k : ℕ). front ++ record { closed = false; last = k } ∷ []) c.taken.ensures.taken ∙ sym (map-range_with_len_more (λ n. record { closed = false; last = taken_count h n }) 0 c.loop-client.client c.loop-client.client (omega arith))));
      len = c.push_reserved.ensures.len ∙ ap (λ n. n + 1) c.loop-client.invariant.len;
      room = rw c.push_reserved.ensures.capacity c.loop-client.invariant.room;
    }
