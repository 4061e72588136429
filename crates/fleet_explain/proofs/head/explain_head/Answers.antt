-- Header lines on a map that is read.
use Rattle.std.proofs.Common.{refl}
use Rattle.std.proofs.lemmas.Result.{IfOk-weaker}
use Rattle.fleet_map.specs.Grammar.{view}
use Rattle.fleet_talk.specs.Heading.{drafted}
use Rattle.fleet_explain.specs.Heads.IsHeadExplained.{no_map}
use Rattle.fleet_explain.proofs.HeadSaid.{head_on, head_none}
use Rattle.fleet_explain.proofs.head.explain_head.Goals as goal

pub returns-in-Err : goal.returns-in-Err
returns-in-Err c = no_map c.in_ok-explanation-in-Err.explanation c.in_ok-explanation-in-Err.ensures refl

pub returns-in-Ok-read_head : goal.returns-in-Ok-read_head
returns-in-Ok-read_head c =
    IfOk-weaker c.placed_explanation.result _ _ (λ e is. head_on c.args.map.now c.args.head.now e (view c.in-Ok.floor) (drafted c.in-Ok-read_head.said) c.in-Ok.ensures.exact c.in-Ok-read_head.ensures.head is) c.placed_explanation.ensures

pub returns : goal.returns
returns c = head_none c.args.map.now c.args.head.now (view c.in-Ok.floor) c.in-Err-Line.line c.in_ok-fault-in-Err-Line.fault c.in-Err-Line.field-0 c.in-Ok.ensures.exact c.in-Err-Line.field-0-is c.in-Err-Line.ensures.fault c.in_ok-fault-in-Err-Line.ensures
