-- What the line asks was done.
use Rattle.std.proofs.Common.{List}
use Rattle.fleet_talk.specs.Lines.{line_shown}
use Rattle.live_parts.specs.declared.demand.Demand.TheVariants.{Bad, Hello, Watch}
use Rattle.live_fleet.specs.Party.{stage_of}
use Rattle.live_fleet.proofs.Heard.{obeys-as}
use Rattle.live_fleet.proofs.party.Party.obey.Goals as goal

pub returns-in-Watch : goal.returns-in-Watch
returns-in-Watch g c = record {
  ok = obeys-as c.hear_watch.result c.args.place.to (line_shown c.args.place.line) c.args.demand (Watch c.in-Watch.on) (stage_of c.args.self.now c.args.out.now) (stage_of c.hear_watch.new.self c.hear_watch.new.out) c.in-Watch.is c.hear_watch.ensures.ok;
}

pub returns-in-Hello : goal.returns-in-Hello
returns-in-Hello g c = record {
  ok = obeys-as c.hear_hello.result c.args.place.to (line_shown c.args.place.line) c.args.demand Hello (stage_of c.args.self.now c.args.out.now) (stage_of c.hear_hello.new.self c.hear_hello.new.out) c.in-Hello.is c.hear_hello.ensures.ok;
}

pub returns-in-Bad : goal.returns-in-Bad
returns-in-Bad g c = record {
  ok = obeys-as c.hear_bad.result c.args.place.to (line_shown c.args.place.line) c.args.demand Bad (stage_of c.args.self.now c.args.out.now) (stage_of c.hear_bad.new.self c.hear_bad.new.out) c.in-Bad.is c.hear_bad.ensures.ok;
}
