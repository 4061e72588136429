use Rattle.fleet_pibt.proofs.Exact.{eldest-exact, advanced-way, full-shut}
use Rattle.fleet_pibt.proofs.law.eldest_advances_exactly.Goals as goal

pub returns : goal.returns
returns c = record {
  exact = eldest-exact;
  only = λ m from to step e g. advanced-way m from to step e g;
  shut = λ m from to step e w. full-shut m from to step e w;
}
