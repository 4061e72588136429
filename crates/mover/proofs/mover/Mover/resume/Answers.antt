use Rattle.fleet_state.specs.State.{robot_count}
use Rattle.mover.proofs.Seen.{aimed-in-turns, has-none, has-turns, plain-manner, turns-manner}
use Rattle.mover.proofs.mover.Mover.resume.Goals as goal
use Rattle.mover.proofs.mover.Mover.resume.Goals.{then-branch+in_ok-resume, else-branch+in_ok-resume-2}

pub returns-clause-aimed : goal.returns-clause-aimed
returns-clause-aimed g c = λ h k. elim c.if-branch.branch [
  | then-branch+in_ok-resume w ↦
      let made = w.in_ok-resume.ensures in
      rw w.kind-is (aimed-in-turns w.in_ok-resume.field-0 k made.aims made.on made.size made.keeps (c.in_ok-takes_turns.ensures.taken w.if-branch.true).1)
  | else-branch+in_ok-resume-2 w ↦ rw w.kind-is (w.in_ok-resume-2.ensures h k)
]

pub returns-clause-turns : goal.returns-clause-turns
returns-clause-turns g c = elim c.if-branch.branch [
  | then-branch+in_ok-resume w ↦
      let made = w.in_ok-resume.ensures in
      rw w.kind-is (has-turns c.args.grid.now (robot_count c.args.state.now) w.in_ok-resume.field-0.turns made.turns made.many (c.in_ok-takes_turns.ensures.taken w.if-branch.true).1)
  | else-branch+in_ok-resume-2 w ↦ rw w.kind-is (has-none c.args.grid.now (robot_count c.args.state.now))
]

pub returns-clause-chosen : goal.returns-clause-chosen
returns-clause-chosen g c = elim c.if-branch.branch [
  | then-branch+in_ok-resume w ↦ rw w.kind-is (turns-manner c.args.grid.now c.args.manner w.in_ok-resume.field-0.turns (c.in_ok-takes_turns.ensures.taken w.if-branch.true).0)
  | else-branch+in_ok-resume-2 w ↦ rw w.kind-is (plain-manner c.args.grid.now c.args.manner (c.in_ok-takes_turns.ensures.plain w.if-branch.false))
]
