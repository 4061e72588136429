-- What the judge was given by the lines that are read.
use Rattle.std.proofs.Common.{◌≤◌, [], sym, ◌∙◌, arith}
use Rattle.std.proofs.lemmas.Result.{err_from_is_err_and}
use Rattle.fleet_map.specs.Text.{lines_of}
use Rattle.fleet_plans.specs.Places.{places_of}
use Rattle.fleet_plans.specs.Shown.{shown}
use Rattle.fleet_plans.proofs.Lines.{line_more, line_fails, none_read, all_read}
use Rattle.fleet_plans.proofs.places.read_places.Goals as goal

pub returns-in_err-add_step-clause-fault : goal.returns-in_err-add_step-clause-fault
returns-in_err-add_step-clause-fault g c =
    let w = c.args.sides.width in
    let h = c.args.sides.height in
    let head = shown c.args.head.now in
    let p = err_from_is_err_and c.from_residual.result c.from_residual.ensures.1 in
    rw (p.1, p.2)
    (line_fails w h head c.args.judge.now.floor c.loop-line.number (lines_of c.loop-line.rest.now) (places_of w h head [] c.args.number (lines_of c.args.text.now)) c.loop-line.judge c.loop-line.invariant.read
    c.in-Some.line.now (lines_of c.in-Some.after.now) c.in-Some.ensures.cut c.in_err-add_step.field-0.0 c.in_err-add_step.ensures.fault)

pub loop-line-preserved : goal.loop-line-preserved
loop-line-preserved g c =
    let w = c.args.sides.width in
    let h = c.args.sides.height in
    let head = shown c.args.head.now in
    record {
      read =
          line_more w h head c.args.judge.now.floor c.loop-line.number (lines_of c.loop-line.rest.now) (places_of w h head [] c.args.number (lines_of c.args.text.now)) c.loop-line.judge c.loop-line.invariant.read
          c.in-Some.line.now (lines_of c.in-Some.after.now) c.in-Some.ensures.cut c.add_step.new.judge c.in_ok-add_step.ensures.read;
      room = omega (arith, c.loop-line.invariant.room, c.in-Some.ensures.shorter);
      count = omega (arith, c.loop-line.invariant.count, c.in_ok-add_step.ensures.count);
    }

pub returns-then-count-eq0-clause-fault : goal.returns-then-count-eq0-clause-fault
returns-then-count-eq0-clause-fault g c =
    let w = c.args.sides.width in
    let h = c.args.sides.height in
    let head = shown c.args.head.now in
    none_read w h head c.args.judge.now.floor c.loop-line.number (lines_of c.loop-line.rest.now) (places_of w h head [] c.args.number (lines_of c.args.text.now)) c.loop-line.judge c.loop-line.invariant.read
    c.in_default.ensures.cut (sym c.count.ensures ∙ c.if-count-eq0.true)

pub returns-clause-read : goal.returns-clause-read
returns-clause-read g c =
    let w = c.args.sides.width in
    let h = c.args.sides.height in
    let head = shown c.args.head.now in
    let some : 1 ≤ c.loop-line.judge.count = omega (arith, c.count.ensures, c.if-count-eq0.false) in
    all_read w h head c.args.judge.now.floor c.loop-line.number (lines_of c.loop-line.rest.now) (places_of w h head [] c.args.number (lines_of c.args.text.now)) c.loop-line.judge c.loop-line.invariant.read
    c.in_default.ensures.cut some
