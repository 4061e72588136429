use Rattle.std.proofs.Common.{◌≡◌, ℕ, List, length, slice_index, refl, ap, ◌∙◌, arith}
use Rattle.fleet_field.proofs.Serving.{later_inside, swept_serves}
use Rattle.fleet_field.proofs.growing.GrowingField.make_room.Goals as goal

pub drop_come-requires : goal.drop_come-requires
drop_come-requires g c = record {
  inside = λ v h. (
      let i = later_inside c.requires.inside.0 c.args.self.now c.args.self.now c.requires.inside.1 v h in
      let e : length c.deref.result.now ≡ length c.args.self.now.labels.items = ap length c.deref.ensures.value in
      omega (arith, i, e));
}

pub returns-clause-serves : goal.returns-clause-serves
returns-clause-serves g c m s =
    swept_serves m c.args.self.now _ s c.drop_come.new.cells.items
    (λ v h none. c.drop_come.ensures.kept v h (ap (λ (xs : List ℕ). slice_index xs v) c.deref.ensures.value ∙ none)) c.drop_come.ensures.only refl refl refl
    (ap (λ (xs : List ℕ). record { labels = c.args.self.now.labels.items; now = c.args.self.now.now.items; next = c.args.self.now.next.items; later = xs }) c.reserve.ensures.items)
