use Rattle.std.proofs.Common.{ℕ, take, length, refl, subst, ◌∙◌, arith}
use Rattle.fleet_field.specs.inside.Labels.{Leaves}
use Rattle.fleet_field.proofs.Labels.{leaves_none, leaves_on, spreads}
use Rattle.fleet_field.proofs.search.leave.Goals as goal

pub loop-place-init : goal.loop-place-init
loop-place-init g c = record {
  len = refl;
  kept = refl;
  most = omega arith;
  so_far = λ level dist small is s are. (dist, leaves_none c.args.stride level dist c.args.now.now c.args.labels.now small s are);
}

pub loop-place-preserved : goal.loop-place-preserved
loop-place-preserved g c = record {
  len = c.around-count.ensures.len ∙ c.loop-place.invariant.len;
  kept = c.around-count.ensures.kept ∙ c.loop-place.invariant.kept;
  most = omega (arith, c.around-count.ensures.most, c.loop-place.invariant.most);
  so_far = λ level dist small is s are. (
      let l = c.loop-place.invariant.so_far level dist small is s are in
      leaves_on c.args.stride level c.loop-place.place-index c.args.mark dist c.args.now.now l.0 (take c.loop-place.count c.loop-place.next) c.loop-place.labels (take c.around-count.result c.around-count.new.next) c.around-count.new.labels small is
      (omega (arith, c.loop-place-test.true)) s l.1 c.around-count.ensures.around);
}

pub returns-clause-spread : goal.returns-clause-spread
returns-clause-spread g c level dist small is s are =
    let l = c.loop-place.invariant.so_far level dist small is s are in
    let all : Leaves c.args.stride level dist c.args.now.now (length c.args.now.now) l.0 (take c.loop-place.count c.loop-place.next) c.loop-place.labels = record {
      extends = l.1.extends;
      labels = l.1.labels;
      done = λ k below. l.1.done k (omega (arith, c.loop-place-test.false, below));
    } in
    (l.0, spreads c.args.stride level dist c.args.now.now l.0 (take c.loop-place.count c.loop-place.next) c.loop-place.labels small s all)
