use Rattle.std.proofs.Common.{◌≡◌, ℕ, List, [], ◌∷◌, ◌++◌, refl, ap, ◌∙◌, arith}
use Rattle.fleet_field.proofs.Serving.{begun, labels_zero}
use Rattle.fleet_field.proofs.growing.GrowingField.restart.Goals as goal

pub returns-clause-serves : goal.returns-clause-serves
returns-clause-serves g c = record {
  form = c.cell_count.ensures.form;
  goal = c.requires;
  width = ap (λ t. t.width) c.of-self.ensures ∙ c.width.ensures.value;
  steps = 0;
  mark = refl;
  known = begun c.args.grid.now c.of-self.result c.args.goal c.resize.new.self.items c.clear-2.new.self.items c.push.new.self.items c.clear-4.new.self.items
      (omega (arith, c.in_ok-resize.ensures.len, c.resize.new.self.ok.0, c.cell_count.ensures.value))
      (labels_zero _ _ _ _ c.clear.ensures.items c.in_ok-resize.ensures.items) c.requires c.clear-2.ensures.items
      (c.in_ok-push.ensures.items ∙ ap (λ (xs : List ℕ). xs ++ c.args.goal ∷ []) c.clear-3.ensures.items) c.clear-4.ensures.items;
}
