use Rattle.std.proofs.Common.{◌∙◌, Option, ap, sym, refl, arith}
use Rattle.std.specs.Prelude.{is_some}
use Rattle.std.specs.Option.{option_map}
use Rattle.fleet_hooks.specs.declared.law.StampLaw.{StampLaw}
use Rattle.fleet_core.proofs.Farewells.{spare-is, spare-set}
use Rattle.fleet_core.proofs.stamps.last_word.Goals as goal

pub returns-in_err-farewell-clause-spent : goal.returns-in_err-farewell-clause-spent
returns-in_err-farewell-clause-spent g c = spare-set (λ x. x.law) c.args.farewells.now.items c.args.view.robot c.take.new.self c.take.ensures.after

pub returns-clause-spent : goal.returns-clause-spent
returns-clause-spent g c = spare-set (λ x. x.law) c.args.farewells.now.items c.args.view.robot c.take.new.self c.take.ensures.after

pub index_mut-requires : goal.index_mut-requires
index_mut-requires g c = c.requires

pub returns-clause-answers : goal.returns-clause-answers
returns-clause-answers g c =
    ap (λ (o : Option StampLaw). is_some o)
    (ap (λ f. option_map (λ x. x.law) f) c.in_ok-farewell.ensures.value ∙ sym (spare-is (λ x. x.law) c.args.farewells.now.items c.args.view.robot c.index_mut.result.now (omega (arith, c.requires, c.args.farewells.now.ok.0)) c.index_mut.ensures.value))

pub returns-clause-stamp : goal.returns-clause-stamp
returns-clause-stamp g c = (
  c.in_ok-farewell.farewell.law,
  spare-is (λ x. x.law) c.args.farewells.now.items c.args.view.robot c.index_mut.result.now (omega (arith, c.requires, c.args.farewells.now.ok.0)) c.index_mut.ensures.value ∙ ap (λ f. option_map (λ x. x.law) f) (sym c.in_ok-farewell.ensures.value),
  c.call.ensures.law,
)

pub returns-clause-count : goal.returns-clause-count
returns-clause-count g c = refl

pub returns-in_err-farewell-clause-count : goal.returns-in_err-farewell-clause-count
returns-in_err-farewell-clause-count g c = refl
