-- A fleet with its conversations, before the first event.
use Rattle.std.specs.Prelude.{◌≡◌, ℕ, ◌+◌, Bool, true, false, not, List, [], ◌∷◌, ◌++◌, map, min, length, replicate, is_some}
use Rattle.std.specs.List.{AllByRecursion, range_with_len}
use Rattle.std.specs.declared.alloc.Global.{Global}
use Rattle.fleet_history.specs.History.{History, clients}
use Rattle.fleet_talk.specs.Chapters.{ChapterView}
use Rattle.fleet_world.specs.Talk.{Talk}
use Rattle.live_parts.specs.declared.demand.Rights.{Rights}
use Rattle.live_parts.specs.declared.ends.LiveSettings.{LiveSettings}
use Rattle.live_parts.specs.Recalls.{Recalls}
use Rattle.live_fleet.specs.declared.rest.Rest.TheVariants.{Nothing}
use Rattle.live_fleet.specs.declared.speaker.Clients.{Clients}
use Rattle.live_fleet.specs.declared.speaker.Speaker.{Speaker}
use Rattle.live_fleet.specs.Act.{Act, Runs, met_by}
use Rattle.live_fleet.specs.Does.{Plays}
use Rattle.live_fleet.specs.Out.{chapters_of, text_at, told_to}
use Rattle.live_fleet.specs.Party.{DoorView, Heard, Stage, new_notes}
use Rattle.fleet_live.specs.declared.text_out.TextOut.{TextOut}
use Rattle.fleet_live.specs.Loop.{told_in_all}
use Rattle.fleet_live.specs.Told.{ahead_at, handed, handed_at}

-- a conversation of which no line was heard
abbrev pub new_speaker : Rights → Clients → (watching : Bool) → Speaker
new_speaker rights clients watching = record { rights = rights; clients = clients; watching = watching; lines = 0; rest = Nothing }

-- of this many clients, those from one number on, below another
abbrev pub clients_between : (all first end : ℕ) → Clients
clients_between all first end = record { first = min first all; end = min end all }

-- the first conversation may ask for all, and for turns if these do not come by themselves; it speaks for the clients that have no pipes
abbrev pub operator : (pipes clients : ℕ) → (paced watch : Bool) → Speaker
operator pipes clients paced watch = new_speaker (record { is_operator = true; ticks = not paced }) (clients_between clients pipes clients) watch

-- a conversation over pipes speaks for the client of its number, if there is one
abbrev pub on_pipe : (clients at : ℕ) → Speaker
on_pipe clients at = new_speaker (record { is_operator = false; ticks = false }) (clients_between clients at (at + 1)) false

-- the first conversation, and one for each pair of pipes
abbrev pub speakers_for : (pipes clients : ℕ) → (paced watch : Bool) → List Speaker
speakers_for pipes clients paced watch = operator pipes clients paced watch ∷ map (on_pipe clients) (range_with_len 0 pipes)

-- the conversations of a fleet that is kept so, with this number of pairs of pipes
abbrev pub speakers_at : LiveSettings → (pipes : ℕ) → History Global → List Speaker
speakers_at settings pipes h = speakers_for pipes (clients h) (is_some settings.period) settings.watch

-- nothing was heard, said or done; of what clients were told before, this is kept
abbrev pub first_stage : Talk Global → Recalls → DoorView → List Speaker → Stage
first_stage s recalls door who = record {
  at = record { fleet = record { talk = s; met = false; recalls = recalls }; out = record { texts = replicate (length who) []; chapters = [] } };
  clients = clients s.world.history;
  door = door;
  speakers = who;
  notes = new_notes s.world.history;
  is_over = false;
  has_ended = false;
}

-- nothing was handed on, of what is told to these conversations
abbrev pub IsNew : TextOut → Type 0
IsNew x = (x.ahead ≡ 0) × (handed x ≡ [])

-- nothing was handed on for any conversation
abbrev pub AreNew : List TextOut → Type 0
AreNew texts = AllByRecursion IsNew texts

-- From its first stage on a fleet heard these events. What the rings of its conversations were sent, with what still waits for them, and the ring of chapters, is what a core run says
pub record Serves (s t : Stage) (heard : List Heard) (texts : List TextOut) (kept : List (ChapterView Global)) : Type 0 where
  pub acts : List Act
  pub plays : Plays s heard acts t
  pub runs : Runs s.at.fleet.talk acts t.at.fleet.talk
  pub met : t.at.fleet.met ≡ met_by acts
  pub tells : (k : ℕ) → told_in_all (handed_at texts k) (ahead_at texts k) (text_at t.at.out k) ≡ told_to k acts
  pub hands : kept ++ t.at.out.chapters ≡ chapters_of acts
