use Rattle.std.proofs.Common.{◌≡◌, ◌++◌, length, take, drop, sym, ap, subst, ◌∙◌, arith}
use Rattle.std.proofs.Math.Seq.{take-append_seam}
use Rattle.fleet_grid.specs.inside.Parts.{AreDone, AreParts}
use Rattle.fleet_grid.proofs.Rounds.{bare_done}
use Rattle.fleet_grid.proofs.parts.parts_of.Goals as goal

pub label_all-requires : goal.label_all-requires
label_all-requires g c =
    subst (AreDone c.args.cells.now) (sym (c.deref_mut.ensures.value ∙ c.in_ok-labels.ensures.items_if_clones_equal (λ y e. e))) (bare_done c.args.cells.now c.count-count.result c.count-count.ensures.value)

pub returns : goal.returns
returns g c =
    let new = c.label_all.new.labels in
    let rest = drop (length new) c.in_ok-labels.labels.items in
    let all : c.in_ok-labels.labels.len ≡ length new = omega (arith, c.in_ok-labels.ensures.len, c.count-count.ensures.value, c.in_ok-label_all.ensures.len) in
    subst (AreParts c.args.cells.now) (sym (ap (λ k. take k (new ++ rest)) all ∙ take-append_seam new rest)) c.in_ok-label_all.ensures
