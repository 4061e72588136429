use Rattle.std.proofs.Common.{◌≡◌, ◌⊎◌, List, take, sym, subst}
use Rattle.std.specs.List.{All, Contains}
use Rattle.std.proofs.lemmas.List.Elements.{All-contains_itself}
use Rattle.fleet_field.specs.Field.{Aim}
use Rattle.fleet_field.specs.FieldCache.{HasKept}
use Rattle.fleet_field.proofs.Fronted.{within_without}
use Rattle.fleet_field.proofs.Cached.{among_removed}
use Rattle.fleet_field.proofs.kept.take_field.Goals as goal

pub returns-in_err-at-clause-others : goal.returns-in_err-at-clause-others
returns-in_err-at-clause-others g c = All-contains_itself c.args.kept.now.items

pub returns-clause-goal : goal.returns-clause-goal
returns-clause-goal g c = c.in_ok-at.ensures.1 c.remove.result (c.remove.ensures.value c.remove.result)

pub returns-clause-kept : goal.returns-clause-kept
returns-clause-kept g c = (c.in_ok-at.at, c.in_ok-at.ensures.0, sym (c.remove.ensures.value c.remove.result))

pub returns-clause-others : goal.returns-clause-others
returns-clause-others g c =
    subst (λ (xs : List Aim). All (Contains c.args.kept.now.items) xs) (sym c.remove.ensures.items) (among_removed c.in_ok-at.at c.args.kept.now.items)

pub returns-clause-within : goal.returns-clause-within
returns-clause-within g c = λ n other h.
    subst (λ (xs : List Aim). (other ≡ c.args.goal) ⊎ HasKept (take n xs) other) (sym c.remove.ensures.items)
    (within_without c.args.kept.now.items c.in_ok-at.at n c.args.goal other c.in_ok-at.ensures.0 c.in_ok-at.ensures.1 h)
