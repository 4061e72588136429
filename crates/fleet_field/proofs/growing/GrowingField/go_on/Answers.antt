use Rattle.std.proofs.Common.{refl, ap, ◌∙◌}
use Rattle.fleet_field.proofs.Serving.{onward_serves}
use Rattle.fleet_field.proofs.growing.GrowingField.go_on.Goals as goal

pub returns-clause-serves : goal.returns-clause-serves
returns-clause-serves g c m s none empty =
    onward_serves m c.args.self.now _ s none empty refl refl refl
    (ap (λ v. record { labels = c.args.self.now.labels.items; now = c.args.self.now.now.items; next = v.items; later = c.swap.new.y.items }) c.swap.ensures.x_after
    ∙ ap (λ v. record { labels = c.args.self.now.labels.items; now = c.args.self.now.now.items; next = c.args.self.now.later.items; later = v.items }) c.swap.ensures.y_after)
