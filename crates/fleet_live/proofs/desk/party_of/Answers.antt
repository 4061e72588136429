-- Its parts are those of the first stage.
use Rattle.std.proofs.Common.{◌∙◌, ℕ, Bool, List, [], ap, length, replicate}
use Rattle.fleet_history.specs.History.{clients}
use Rattle.live_fleet.specs.Party.{door_shown}
use Rattle.fleet_live.specs.Begin.{speakers_for}
use Rattle.fleet_live.proofs.Beginning.{same-at, same-stage}
use Rattle.fleet_live.proofs.desk.party_of.Goals as goal

pub returns : goal.returns
returns g c =
    let spoken = c.in_ok-speakers.ensures ∙ (ap (λ (n : ℕ). speakers_for c.args.pipes n c.is_some-paced.result c.args.settings.watch) c.client_count-clients.ensures ∙ ap (λ (b : Bool). speakers_for c.args.pipes (clients c.args.session.world.core.history) b c.args.settings.watch) c.is_some-paced.ensures) in
    record {
      stage = same-stage _ _ _ _ _ _ _ _ _ _ _ _ _ _
          (same-at _ _ _ _ _ _ _ _ _ c.in_ok-party.ensures.session c.in_ok-party.ensures.limited (c.in_ok-out.ensures.texts ∙ ap (λ (n : ℕ). replicate {A = List ℕ} n []) (c.len.ensures ∙ (c.in_ok-speakers.speakers.ok.0 ∙ ap length spoken))) c.in_ok-out.ensures.chapters)
          c.in_ok-party.ensures.clients (ap door_shown c.in_ok-party.ensures.door) (ap (λ v. v.items) c.in_ok-party.ensures.speakers ∙ spoken) c.in_ok-party.ensures.notes c.in_ok-party.ensures.is_over c.in_ok-party.ensures.has_ended;
      begun = c.in_ok-party.ensures.begun;
    }
