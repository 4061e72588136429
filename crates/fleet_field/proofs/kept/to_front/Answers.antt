use Rattle.std.proofs.Common.{List, sym, subst, arith}
use Rattle.std.specs.List.{All, Contains}
use Rattle.std.proofs.lemmas.List.Elements.{All-cons}
use Rattle.fleet_field.specs.Field.{Aim}
use Rattle.fleet_field.proofs.Fronted.{front_within, front_first, same_within, no_some}
use Rattle.fleet_field.proofs.kept.to_front.Goals as goal

pub push_front_reserved-requires : goal.push_front_reserved-requires
push_front_reserved-requires g c = omega (arith, c.in-Some.ensures.len, c.take_field.ensures.room, c.requires)

pub returns-in-Some-clause-among : goal.returns-in-Some-clause-among
returns-in-Some-clause-among g c =
    subst (λ (xs : List Aim). All (Contains c.args.kept.now.items) xs) (sym c.push_front_reserved.ensures.items)
    (All-cons (Contains c.args.kept.now.items) c.in-Some.field c.take_field.new.kept.items c.in-Some.ensures.kept c.take_field.ensures.others)

pub returns-in-Some-clause-within : goal.returns-in-Some-clause-within
returns-in-Some-clause-within g c =
    front_within c.in-Some.field c.take_field.new.kept.items c.push_front_reserved.new.self.items c.push_front_reserved.ensures.items c.args.kept.now.items c.args.goal c.in-Some.ensures.goal c.take_field.ensures.within

pub returns-in-Some-clause-first : goal.returns-in-Some-clause-first
returns-in-Some-clause-first g c = λ has. front_first c.in-Some.field c.take_field.new.kept.items c.push_front_reserved.new.self.items c.push_front_reserved.ensures.items c.args.goal c.in-Some.ensures.goal

pub returns-in_default-clause-within : goal.returns-in_default-clause-within
returns-in_default-clause-within g c = same_within c.args.kept.now.items c.take_field.new.kept.items c.in_default.ensures.none

pub returns-in_default-clause-first : goal.returns-in_default-clause-first
returns-in_default-clause-first g c = λ has. absurd (no_some c.take_field.result c.in_default.not-Some (c.take_field.ensures.found has))
