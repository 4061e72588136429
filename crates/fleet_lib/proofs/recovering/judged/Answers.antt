-- The first line that breaks a rule.
use Rattle.std.proofs.Common.{List, ℕ, refl, subst}
use Rattle.fleet_explain.specs.Explained.{IsTraceExplained}
use Rattle.fleet_history.specs.History.{history_of}
use Rattle.fleet_lib.proofs.Judged.{illegal_on}
use Rattle.fleet_lib.proofs.recovering.judged.Goals as goal

pub returns-in_ok-explanation-in-Err-Illegal-clause-fault : goal.returns-in_ok-explanation-in-Err-Illegal-clause-fault
returns-in_ok-explanation-in-Err-Illegal-clause-fault c =
    let e = c.in_ok-explanation-in-Err-Illegal.explanation in
    record {
      at = c.in-Err-Illegal.at;
      rule = c.in-Err-Illegal._rule;
      illegal = illegal_on c.args.grid.now c.args.grid.now (history_of c.args.chapter.now) c.in-Err-Illegal.field-0 c.in-Err-Illegal.at c.in-Err-Illegal._rule refl c.in-Err-Illegal.field-0-is c.in-Err-Illegal.ensures.fault;
      place = c.saturating_add.ensures;
      explained = subst (λ (text : List ℕ). IsTraceExplained c.args.map.now text e) c.as_bytes.ensures.value c.in_ok-explanation-in-Err-Illegal.ensures;
    }
