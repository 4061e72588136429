use Rattle.std.proofs.Common.{false}
use Rattle.errands_lib.specs.Answer.{IsBundleOutcome, IsPartsOutcome, split}
use Rattle.fleet_text.specs.Kit.{kit_laws}
use Rattle.errands_lib.proofs.Outcomes.{said_more}
use Rattle.errands_lib.proofs.texts.answer_bundle.Goals as goal

pub returns-in-Ok : goal.returns-in-Ok
returns-in-Ok g c = said_more (IsPartsOutcome (kit_laws c.args.kit) false c.in-Ok.map.now c.in-Ok.script.now) (IsBundleOutcome (kit_laws c.args.kit) c.args.bytes.now) c.answer_parts.result
    (λ o p. split c.in-Ok.map.now c.in-Ok.script.now c.in-Ok.ensures.found p) c.answer_parts.ensures
