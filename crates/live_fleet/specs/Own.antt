-- Clients for whom a conversation speaks, and others.
use Rattle.std.specs.Prelude.{ℕ, Bool, ◌&&◌, nat_lt, not, List, Option, MatchBool}
use Rattle.fleet_text.specs.Output.{no_client_line}
use Rattle.fleet_talk.specs.Says.{marked}
use Rattle.live_fleet.specs.declared.speaker.Clients.{Clients}
use Rattle.live_fleet.specs.declared.speaker.Speaker.{Speaker}
use Rattle.live_fleet.specs.Act.{Act}
use Rattle.live_fleet.specs.Answering.{Answers}
use Rattle.live_fleet.specs.Party.{Stage}

-- whether a conversation that speaks for these speaks for a client, of those that there are
abbrev pub is_own : Clients → ℕ → ℕ → Bool
is_own who count client = not (nat_lt client who.first) && nat_lt client who.end && nat_lt client count

-- what is done for a client for whom the conversation speaks; of another the answer is that there is no such client
abbrev pub IfOwn : Bool → Type 0 → ℕ → Speaker → Option (List ℕ) → ℕ → Stage → List Act → Stage → Type 0
IfOwn own P k sp mark client s acts t = MatchBool own P (Answers k sp (marked mark (no_client_line client)) s acts t)
