-- What was done at each cue.
use Rattle.std.proofs.Common.{◌≡◌, ◌∙◌, ◌<◌, ◌≤◌, ℕ, List, [], length, Vec, Global, refl, sym, ap, subst, arith}
use Rattle.std.proofs.lemmas.List.{length-map}
use Rattle.live_fleet.specs.declared.cue.Cue.{Cue}
use Rattle.live_fleet.specs.Does.{IsOpenTo}
use Rattle.live_fleet.specs.Party.{Stage, heard_of, stage_of}
use Rattle.live_fleet.specs.Party as heard
use Rattle.live_fleet.proofs.Doors.{door-kept, stays-door}
use Rattle.live_fleet.proofs.Whole.{answered-there, does-go, does-so, stays-whole, whole-kept}
use Rattle.live_fleet.proofs.party.Party.hear.Goals as goal

pub returns-in-Line-clause-does : goal.returns-in-Line-clause-does
returns-in-Line-clause-does g c = does-go c.hear_line.result (stage_of c.args.self.now c.args.out.now) (stage_of c.hear_line.new.self c.hear_line.new.out) (heard.line c.in-Line.from c.in-Line.line.now) (heard_of c.args.cue) (ap heard_of c.in-Line.is) c.hear_line.ensures.ok

pub returns-in-Line-clause-whole : goal.returns-in-Line-clause-whole
returns-in-Line-clause-whole g c =
    stays-whole c.hear_line.result (stage_of c.args.self.now c.args.out.now) (stage_of c.hear_line.new.self c.hear_line.new.out) (heard.line c.in-Line.from c.in-Line.line.now) c.requires.can.0
    (omega (arith, c.args.self.now.fleet.session.count, c.args.self.now.fleet.session.waiting.ok.0)) (omega (arith, c.hear_line.new.self.fleet.session.count, c.hear_line.new.self.fleet.session.waiting.ok.0)) c.hear_line.ensures.ok

pub returns-in-Room-clause-does : goal.returns-in-Room-clause-does
returns-in-Room-clause-does g c = does-go c.tell_in.result (stage_of c.args.self.now c.args.out.now) (stage_of c.tell_in.new.self c.tell_in.new.out) (heard.room c.in-Room.to) (heard_of c.args.cue) (ap heard_of c.in-Room.is) c.tell_in.ensures.ok

pub returns-in-Room-clause-whole : goal.returns-in-Room-clause-whole
returns-in-Room-clause-whole g c =
    stays-whole c.tell_in.result (stage_of c.args.self.now c.args.out.now) (stage_of c.tell_in.new.self c.tell_in.new.out) (heard.room c.in-Room.to) c.requires.can.0
    (omega (arith, c.args.self.now.fleet.session.count, c.args.self.now.fleet.session.waiting.ok.0)) (omega (arith, c.tell_in.new.self.fleet.session.count, c.tell_in.new.self.fleet.session.waiting.ok.0)) c.tell_in.ensures.ok

pub returns-in-Rest-clause-does : goal.returns-in-Rest-clause-does
returns-in-Rest-clause-does g c = does-go c.go_on.result (stage_of c.args.self.now c.args.out.now) (stage_of c.go_on.new.self c.go_on.new.out) (heard.rest c.in-Rest.from) (heard_of c.args.cue) (ap heard_of c.in-Rest.is) c.go_on.ensures.ok

pub returns-in-Rest-clause-whole : goal.returns-in-Rest-clause-whole
returns-in-Rest-clause-whole g c =
    stays-whole c.go_on.result (stage_of c.args.self.now c.args.out.now) (stage_of c.go_on.new.self c.go_on.new.out) (heard.rest c.in-Rest.from) c.requires.can.0
    (omega (arith, c.args.self.now.fleet.session.count, c.args.self.now.fleet.session.waiting.ok.0)) (omega (arith, c.go_on.new.self.fleet.session.count, c.go_on.new.self.fleet.session.waiting.ok.0)) c.go_on.ensures.ok

pub returns-in-Last-clause-does : goal.returns-in-Last-clause-does
returns-in-Last-clause-does g c = does-so (stage_of c.args.self.now c.args.out.now) (stage_of c.hasten.new.self c.args.out.now) (heard.last c.in-Last.from) (heard_of c.args.cue) (ap heard_of c.in-Last.is) ([], (refl, c.hasten.ensures))

pub returns-in-Last-clause-whole : goal.returns-in-Last-clause-whole
returns-in-Last-clause-whole g c =
    whole-kept (stage_of c.args.self.now c.args.out.now) (stage_of c.hasten.new.self c.args.out.now) (heard.last c.in-Last.from) [] c.requires.can.0
    (omega (arith, c.args.self.now.fleet.session.count, c.args.self.now.fleet.session.waiting.ok.0)) (omega (arith, c.hasten.new.self.fleet.session.count, c.hasten.new.self.fleet.session.waiting.ok.0)) (refl, c.hasten.ensures)

pub returns-in-Turn-clause-does : goal.returns-in-Turn-clause-does
returns-in-Turn-clause-does g c = does-go c.turn.result (stage_of c.args.self.now c.args.out.now) (stage_of c.turn.new.self c.turn.new.out) heard.turn (heard_of c.args.cue) (ap heard_of c.in-Turn.is) c.turn.ensures.ok

pub returns-in-Turn-clause-whole : goal.returns-in-Turn-clause-whole
returns-in-Turn-clause-whole g c =
    stays-whole c.turn.result (stage_of c.args.self.now c.args.out.now) (stage_of c.turn.new.self c.turn.new.out) heard.turn c.requires.can.0
    (omega (arith, c.args.self.now.fleet.session.count, c.args.self.now.fleet.session.waiting.ok.0)) (omega (arith, c.turn.new.self.fleet.session.count, c.turn.new.self.fleet.session.waiting.ok.0)) c.turn.ensures.ok

pub returns-in-Due-clause-does : goal.returns-in-Due-clause-does
returns-in-Due-clause-does g c = does-go c.hand_due.result (stage_of c.args.self.now c.args.out.now) (stage_of c.hand_due.new.self c.hand_due.new.out) heard.due (heard_of c.args.cue) (ap heard_of c.in-Due.is) c.hand_due.ensures.ok

pub returns-in-Due-clause-whole : goal.returns-in-Due-clause-whole
returns-in-Due-clause-whole g c =
    stays-whole c.hand_due.result (stage_of c.args.self.now c.args.out.now) (stage_of c.hand_due.new.self c.hand_due.new.out) heard.due c.requires.can.0
    (omega (arith, c.args.self.now.fleet.session.count, c.args.self.now.fleet.session.waiting.ok.0)) (omega (arith, c.hand_due.new.self.fleet.session.count, c.hand_due.new.self.fleet.session.waiting.ok.0)) c.hand_due.ensures.ok

pub returns-in-Kept-clause-does : goal.returns-in-Kept-clause-does
returns-in-Kept-clause-does g c = does-go c.note_kept.result (stage_of c.args.self.now c.args.out.now) (stage_of c.note_kept.new.self c.note_kept.new.out) (heard.kept c.in-Kept.chapter) (heard_of c.args.cue) (ap heard_of c.in-Kept.is) c.note_kept.ensures.ok

pub returns-in-Kept-clause-whole : goal.returns-in-Kept-clause-whole
returns-in-Kept-clause-whole g c =
    stays-whole c.note_kept.result (stage_of c.args.self.now c.args.out.now) (stage_of c.note_kept.new.self c.note_kept.new.out) (heard.kept c.in-Kept.chapter) c.requires.can.0
    (omega (arith, c.args.self.now.fleet.session.count, c.args.self.now.fleet.session.waiting.ok.0)) (omega (arith, c.note_kept.new.self.fleet.session.count, c.note_kept.new.self.fleet.session.waiting.ok.0)) c.note_kept.ensures.ok

pub returns-in-End-clause-does : goal.returns-in-End-clause-does
returns-in-End-clause-does g c = does-go c.end.result (stage_of c.args.self.now c.args.out.now) (stage_of c.end.new.self c.end.new.out) heard.end (heard_of c.args.cue) (ap heard_of c.in-End.is) c.end.ensures

pub returns-in-End-clause-whole : goal.returns-in-End-clause-whole
returns-in-End-clause-whole g c =
    stays-whole c.end.result (stage_of c.args.self.now c.args.out.now) (stage_of c.end.new.self c.end.new.out) heard.end c.requires.can.0
    (omega (arith, c.args.self.now.fleet.session.count, c.args.self.now.fleet.session.waiting.ok.0)) (omega (arith, c.end.new.self.fleet.session.count, c.end.new.self.fleet.session.waiting.ok.0)) c.end.ensures

pub returns-in-Line-clause-door : goal.returns-in-Line-clause-door
returns-in-Line-clause-door g c = stays-door c.hear_line.result (stage_of c.args.self.now c.args.out.now) (stage_of c.hear_line.new.self c.hear_line.new.out) (heard.line c.in-Line.from c.in-Line.line.now) c.requires.door c.hear_line.ensures.ok

pub returns-in-Room-clause-door : goal.returns-in-Room-clause-door
returns-in-Room-clause-door g c = stays-door c.tell_in.result (stage_of c.args.self.now c.args.out.now) (stage_of c.tell_in.new.self c.tell_in.new.out) (heard.room c.in-Room.to) c.requires.door c.tell_in.ensures.ok

pub returns-in-Rest-clause-door : goal.returns-in-Rest-clause-door
returns-in-Rest-clause-door g c = stays-door c.go_on.result (stage_of c.args.self.now c.args.out.now) (stage_of c.go_on.new.self c.go_on.new.out) (heard.rest c.in-Rest.from) c.requires.door c.go_on.ensures.ok

pub returns-in-Turn-clause-door : goal.returns-in-Turn-clause-door
returns-in-Turn-clause-door g c = stays-door c.turn.result (stage_of c.args.self.now c.args.out.now) (stage_of c.turn.new.self c.turn.new.out) heard.turn c.requires.door c.turn.ensures.ok

pub returns-in-Due-clause-door : goal.returns-in-Due-clause-door
returns-in-Due-clause-door g c = stays-door c.hand_due.result (stage_of c.args.self.now c.args.out.now) (stage_of c.hand_due.new.self c.hand_due.new.out) heard.due c.requires.door c.hand_due.ensures.ok

pub returns-in-Kept-clause-door : goal.returns-in-Kept-clause-door
returns-in-Kept-clause-door g c = stays-door c.note_kept.result (stage_of c.args.self.now c.args.out.now) (stage_of c.note_kept.new.self c.note_kept.new.out) (heard.kept c.in-Kept.chapter) c.requires.door c.note_kept.ensures.ok

pub returns-in-End-clause-door : goal.returns-in-End-clause-door
returns-in-End-clause-door g c = stays-door c.end.result (stage_of c.args.self.now c.args.out.now) (stage_of c.end.new.self c.end.new.out) heard.end c.requires.door c.end.ensures

pub returns-in-Last-clause-door : goal.returns-in-Last-clause-door
returns-in-Last-clause-door g c = door-kept (stage_of c.args.self.now c.args.out.now) (stage_of c.hasten.new.self c.args.out.now) (heard.last c.in-Last.from) [] c.requires.door (refl, c.hasten.ensures)
