-- One more move begins.
use Rattle.std.proofs.Common.{[], ◌∷◌, ◌++◌, string_bytes, sym, ◌∙◌, append-nil}
use Rattle.fleet_execution.specs.Kept.{desk}
use Rattle.fleet_execute.proofs.Steps.{gone_none, gone_move, text_after}
use Rattle.fleet_execute.proofs.going.begin_all.Goals as goal

pub loop-begun-init : goal.loop-begun-init
loop-begun-init c o x = ([], gone_none c.args.plan.now o (desk c.args.run.now) x, sym (append-nil (string_bytes c.args.told.now)))

pub loop-begun-preserved : goal.loop-begun-preserved
loop-begun-preserved c o x =
    let old = c.loop-begun.invariant o x in (
      old.0 ++ c.in-Some.begun ∷ [],
      gone_move c.args.plan.now o old.0 (desk c.loop-begun.run) (desk c.begin.new.self) c.in-Some.begun old.1 (c.in-Some.ensures.some old.1.course old.1.executes),
      c.in_ok-tell_move.ensures ∙ text_after (string_bytes c.args.told.now) (string_bytes c.loop-begun.told) old.0 c.in-Some.begun old.2,
    )

pub returns : goal.returns
returns c o x =
    let old = c.loop-begun.invariant o x in
    let end = c.begin.ensures.none c.in_default.is old.1.course old.1.executes in
    record { moves = old.0; gone = record { course = old.1.course; goes = old.1.goes; executes = end.2 }; written = old.2; returned = end.0; none = end.1 }
