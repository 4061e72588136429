-- What the errands of each robot, or of each client, add up to.
use Rattle.std.specs.Prelude.{ℕ, ◌==◌, List, filter, length, count_by, unwrap_or, codes}
use Rattle.fleet_stats.specs.declared.rows.ErrandRow.{ErrandRow}
use Rattle.fleet_stats.specs.declared.rows.LeftRow.{LeftRow}
use Rattle.fleet_stats.specs.declared.tallies.Owner.{Owner}
use Rattle.fleet_stats.specs.declared.tallies.Owner.TheVariants.{Robot, Client}
use Rattle.fleet_stats.specs.declared.tallies.Tally.{Tally}
use Rattle.fleet_stats.specs.Figures.{total, total_by, service_times, travel_times}

-- whose an errand is, and what these are called
abbrev pub owner_of : Owner → ℕ → ℕ → ℕ
owner_of Robot client robot = robot
owner_of Client client robot = client

abbrev pub owner_name : Owner → List ℕ
owner_name Robot = codes "robot"
owner_name Client = codes "client"

-- the errands that the run accepted and did, of one owner
abbrev pub own_rows : Owner → List ErrandRow → ℕ → List ErrandRow
own_rows owner rows key = filter (λ x. owner_of owner x.done.client x.done.robot == key) rows

abbrev pub tally : List ErrandRow → ℕ → Tally
tally own unfinished = record {
  errands = length own;
  unfinished = unfinished;
  service = total (service_times own);
  travel = total (travel_times own);
  steps = total_by (λ x. x.done.leg.steps) own;
  distance = total_by (λ x. unwrap_or x.distance 0) own;
}

-- what the errands of one owner add up to, with those that are left
abbrev pub tally_of : Owner → List ErrandRow → List LeftRow → ℕ → Tally
tally_of owner rows left key = tally (own_rows owner rows key) (count_by (λ x. owner_of owner x.left.client x.left.robot == key) left)
