-- Events one after another, whatever readers take in between.
use Rattle.std.proofs.Common.{◌≡◌, ◌∙◌, Bool, ◌||◌, List, ◌++◌, refl, ap}
use Rattle.live_fleet.specs.declared.speaker.Clients.{Clients}
use Rattle.live_fleet.specs.Act.{Act, met_by}
use Rattle.live_fleet.specs.Does.{Plays, hears, takes, then}
use Rattle.live_fleet.specs.Law.{IsRun, clients_in}
use Rattle.live_fleet.specs.Party.{Heard, Stage}
use Rattle.live_fleet.specs.Recalling.{noted_by}
use Rattle.live_fleet.proofs.Going.{met-then, noted-then, runs-then, went-none}
use Rattle.live_fleet.proofs.Keeps.{does-keeps}
use Rattle.live_fleet.proofs.Whose.{Rights, does-right, rights-then}

pub plays-run : {s : Stage} {events : List Heard} {acts : List Act} {t : Stage} → Plays s events acts t → IsRun s.at.fleet acts t.at.fleet
plays-run (hears s event acts t does) = let went = (does-keeps s event acts t does).went in record { runs = went.runs; met = went.met; recalls = went.recalls }
plays-run (takes s out) = let went = went-none s.at in record { runs = went.runs; met = went.met; recalls = went.recalls }
plays-run (then s m t first second before after one two) =
    let x = plays-run one in
    let y = plays-run two in
    record {
      runs = runs-then s.at.fleet.talk m.at.fleet.talk t.at.fleet.talk before after x.runs y.runs;
      met = y.met ∙ (ap (λ (b : Bool). b || met_by after) x.met ∙ met-then s.at.fleet.met before after);
      recalls = y.recalls ∙ (ap (noted_by after) x.recalls ∙ noted-then s.at.fleet.recalls before after);
    }

pub plays-right : (whose : List Clients) {s : Stage} {events : List Heard} {acts : List Act} {t : Stage} → clients_in s.speakers ≡ whose → Plays s events acts t → Rights whose acts t
plays-right whose at (hears s event acts t does) = does-right whose s event acts t at does
plays-right whose at (takes s out) = record { right = tt; same = at }
plays-right whose at (then s m t first second before after one two) = rights-then whose m t (before ++ after) before after refl (plays-right whose at one) (λ there. plays-right whose there two)
