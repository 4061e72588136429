use Rattle.std.proofs.Common.{ℕ, slice_index, take, refl, subst, ◌∙◌, arith}
use Rattle.std.specs.List.{Contains}
use Rattle.std.proofs.lemmas.List.Elements.{All-contains_itself}
use Rattle.fleet_field.specs.FieldCache.{HasKept}
use Rattle.fleet_field.proofs.Fronted.{kept_through, within_next}
use Rattle.fleet_field.proofs.Cached.{all_among}
use Rattle.fleet_field.proofs.kept.all_to_front.Goals as goal

pub loop-goal-init : goal.loop-goal-init
loop-goal-init g c = record {
  among = All-contains_itself c.args.kept.now.items;
  within = λ i less. absurd (omega (arith, less));
  all = c.requires.all;
  len = refl;
  room = refl;
}

pub to_front-requires : goal.to_front-requires
to_front-requires g c = omega (arith, c.loop-goal.invariant.len, c.loop-goal.invariant.room, c.requires.room)

pub loop-goal-preserved : goal.loop-goal-preserved
loop-goal-preserved g c =
    let i = c.loop-goal.invariant in
    let n = c.loop-goal.goal-index in
    let e = c.to_front.ensures in
    record {
      among = all_among (Contains c.args.kept.now.items) c.loop-goal.kept.items c.to_front.new.kept.items e.among i.among;
      within = within_next c.args.goals.now n c.loop-goal.kept.items c.to_front.new.kept.items e.within (e.first (i.all n (omega (arith, c.loop-goal-test.true)))) i.within;
      all = λ j less. kept_through c.loop-goal.kept.items c.to_front.new.kept.items (slice_index c.args.goals.now j) e.within (i.all j less);
      len = e.len ∙ i.len;
      room = e.room ∙ i.room;
    }

pub returns-clause-within : goal.returns-clause-within
returns-clause-within g c = λ i less.
    subst (λ (k : ℕ). HasKept (take k c.loop-goal.kept.items) (slice_index c.args.goals.now i)) (omega (arith, c.loop-goal-test.false, c.loop-goal.auto.goal-index-end))
    (c.loop-goal.invariant.within i (omega (arith, less, c.loop-goal-test.false)))
