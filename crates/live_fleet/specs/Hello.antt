-- What a fleet says of itself.
use Rattle.std.specs.Prelude.{ℕ, List, ◌++◌, Option, codes, decimal}
use Rattle.std.specs.declared.alloc.Global.{Global}
use Rattle.fleet_core.specs.Core.{World}
use Rattle.fleet_history.specs.History.{clients, clock, robots}
use Rattle.fleet_talk.specs.Says.{marked}
use Rattle.live_fleet.specs.declared.hello.Facts.{Facts}
use Rattle.live_fleet.specs.declared.speaker.Speaker.{Speaker}
use Rattle.live_fleet.specs.Act.{Act}
use Rattle.live_fleet.specs.Answering.{Answers}
use Rattle.live_fleet.specs.Party.{Stage}

-- what a fleet is, and how far it is
abbrev pub facts_of : World Global → Facts
facts_of w = record {
  robots = robots w.history;
  clients = clients w.history;
  width = w.floor.width;
  height = w.floor.height;
  chapter = w.number;
  tick = clock w.history;
  queue = w.limits.queue;
  mailbox = w.limits.mailbox;
  lane = w.limits.lane;
}

-- the version, the robots, the clients, and the sides of the map
abbrev pub size_text : Facts → List ℕ
size_text x =
    codes "hello version 0.1.0 robots " ++ (decimal x.robots ++ (codes " clients " ++ (decimal x.clients ++ (codes " width " ++ (decimal x.width ++ (codes " height " ++ decimal x.height))))))

-- the chapter, and the ticks made
abbrev pub progress_text : Facts → List ℕ
progress_text x = codes " chapter " ++ (decimal x.chapter ++ (codes " tick " ++ decimal x.tick))

-- the limits that a client meets, and the line's end
abbrev pub limits_text : Facts → List ℕ
limits_text x = codes " queue " ++ (decimal x.queue ++ (codes " mailbox " ++ (decimal x.mailbox ++ (codes " lane " ++ (decimal x.lane ++ codes "\n")))))

-- the whole line
abbrev pub hello_line : Facts → List ℕ
hello_line x = size_text x ++ progress_text x ++ limits_text x

-- whoever asks is told
abbrev pub HearsHello : ℕ → Speaker → Option (List ℕ) → Stage → List Act → Stage → Type 0
HearsHello k sp mark s acts t = Answers k sp (marked mark (hello_line (facts_of s.at.fleet.talk.world))) s acts t
