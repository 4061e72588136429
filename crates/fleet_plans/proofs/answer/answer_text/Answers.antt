-- What is said of a plan that is read, and of a text that is none.
use Rattle.std.proofs.Common.{◌≡◌, List, ℕ, Option, subst}
use Rattle.fleet_plans.specs.Judge.{AreKept}
use Rattle.fleet_map.specs.Text.{lines_of}
use Rattle.fleet_plans.specs.Answer.{IsNamed, IsJudged, IsTextAnswer}
use Rattle.fleet_plans.specs.Goals.{asked_by}
use Rattle.fleet_plans.specs.Reading.{head_by}
use Rattle.fleet_plans.specs.Study.{IsFormStudy}
use Rattle.fleet_plans.proofs.Answered.{text_is_none, text_is_judged, text_is_unread, text_is_read}
use Rattle.fleet_plans.proofs.Givings.{if_ok_then}
use Rattle.fleet_plans.proofs.answer.answer_text.Goals as goal

pub returns-in-Err-clause-answer : goal.returns-in-Err-clause-answer
returns-in-Err-clause-answer c = λ m is.
    let text = c.args.text.now in
    let fault = c.in-Err.fault in
    if_ok_then c.named.result (IsNamed (lines_of text) fault) (IsTextAnswer (asked_by c.args.demand) m c.args.form text)
    (λ a named. text_is_none m c.args.sides.width c.args.sides.height c.args.judge.now.floor is (asked_by c.args.demand) c.args.form text a fault c.in-Err.ensures.fault named) c.named.ensures

pub returns-in-Ok-clause-answer : goal.returns-in-Ok-clause-answer
returns-in-Ok-clause-answer c = λ m is.
    let text = c.args.text.now in
    let asks = asked_by c.args.demand in
    let floor = c.args.judge.now.floor in
    let goals = c.in-Ok.goals in
    let read = c.in-Ok.ensures.read in
    let a = c.answer_of.result in
    let lent : IsJudged floor asks (lines_of c.headed.result.now) goals read.places a =
    subst (λ (gs : Option (List ℕ)). IsJudged floor asks (lines_of c.headed.result.now) gs read.places a) c.lent.ensures (c.answer_of.ensures floor read.places read.given) in
    let here : IsJudged floor asks (head_by c.args.form text) goals read.places a =
    subst (λ (ls : List (List ℕ)). IsJudged floor asks ls goals read.places a) c.headed.ensures.lines lent in
    text_is_judged m c.args.sides.width c.args.sides.height floor is asks c.args.form text a goals read.places read.holds here

pub returns-in-Err-clause-kept : goal.returns-in-Err-clause-kept
returns-in-Err-clause-kept c = λ m places is _.
    let text = c.args.text.now in
    let fault = c.in-Err.fault in
    if_ok_then c.named.result (IsNamed (lines_of text) fault) (λ a. IsFormStudy (asked_by c.args.demand) m c.args.form text a places)
    (λ a named. text_is_unread m c.args.sides.width c.args.sides.height c.args.judge.now.floor is (asked_by c.args.demand) c.args.form text a places fault c.in-Err.ensures.fault named) c.named.ensures

pub returns-in-Ok-clause-kept : goal.returns-in-Ok-clause-kept
returns-in-Ok-clause-kept c = λ m places is kept.
    let text = c.args.text.now in
    let asks = asked_by c.args.demand in
    let floor = c.args.judge.now.floor in
    let goals = c.in-Ok.goals in
    let read = c.in-Ok.ensures.read in
    let a = c.answer_of.result in
    let same : places ≡ read.places = subst (λ (o : Option (List (List ℕ))). AreKept o read.places) kept read.given.keeps in
    let lent : IsJudged floor asks (lines_of c.headed.result.now) goals read.places a =
    subst (λ (gs : Option (List ℕ)). IsJudged floor asks (lines_of c.headed.result.now) gs read.places a) c.lent.ensures (c.answer_of.ensures floor read.places read.given) in
    let here : IsJudged floor asks (head_by c.args.form text) goals read.places a =
    subst (λ (ls : List (List ℕ)). IsJudged floor asks ls goals read.places a) c.headed.ensures.lines lent in
    text_is_read m c.args.sides.width c.args.sides.height floor is asks c.args.form text a goals read.places places read.holds here same
