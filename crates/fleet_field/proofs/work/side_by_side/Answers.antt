use Rattle.std.proofs.Common.{ap, ◌∙◌}
use Rattle.fleet_field.proofs.Made.{all_of}
use Rattle.fleet_field.proofs.work.side_by_side.Goals as goal

pub returns : goal.returns
returns g c =
    let slice = ap (λ it. it.base.slice.now) c.map.ensures.base ∙ (ap (λ it. it.slice.now) c.with_min_len.ensures.base ∙ c.par_iter.ensures) in
    let h = c.in_ok-collect.ensures in
    let chain = rw c.map.ensures.f at h.1 in
    all_of _ chain.0 c.args.goals.now h.0 (λ v. v.items) c.in_ok-collect.field-0 _ (chain.1 ∙ slice) chain.2 h.2
