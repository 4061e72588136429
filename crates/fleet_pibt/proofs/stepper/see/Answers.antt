-- What each robot sees, and the seats as they were.
use Rattle.std.proofs.Common.{refl}
use Rattle.std.proofs.lemmas.Result.{IfOk-from_err}
use Rattle.fleet_pibt.proofs.Spots.{sides-inside}
use Rattle.fleet_pibt.proofs.stepper.see.Goals as goal

pub gather-requires-clause-same_length : goal.gather-requires-clause-same_length
gather-requires-clause-same_length g c = c.requires.same_length

pub gather-requires-clause-few : goal.gather-requires-clause-few
gather-requires-clause-few g c = c.requires.few

pub gather-requires-clause-floor : goal.gather-requires-clause-floor
gather-requires-clause-floor g c = c.requires.floor

pub gather-requires-clause-shows : goal.gather-requires-clause-shows
gather-requires-clause-shows g c = c.requires.shows

pub fetch-requires-clause-inside : goal.fetch-requires-clause-inside
fetch-requires-clause-inside g c = rw c.requires.cells (sides-inside c.args.grid.now c.args.door _ _ c.args.from.now c.gather.new.arounds c.in_ok-gather.ensures.arounds c.requires.floor)

pub fetch-requires-clause-empty : goal.fetch-requires-clause-empty
fetch-requires-clause-empty g c = c.requires.nobody

pub returns-in_err-gather : goal.returns-in_err-gather
returns-in_err-gather g c = record {
  arounds = IfOk-from_err c.from_residual.result _ c.from_residual.ensures.0;
  goals = c.gather.ensures.goals;
  distances = c.gather.ensures.distances;
  shows = c.gather.ensures.shows;
  stays = c.gather.ensures.stays;
  cells = refl;
  nobody = c.requires.nobody;
  holder = refl;
  form = c.cell_count-cells.ensures.form;
}

pub returns : goal.returns
returns g c = record {
  arounds = c.in_ok-gather.ensures.arounds;
  goals = c.gather.ensures.goals;
  distances = c.gather.ensures.distances;
  shows = c.gather.ensures.shows;
  stays = c.gather.ensures.stays;
  cells = c.fetch.ensures.same_length;
  nobody = c.fetch.ensures.empty;
  holder = c.fetch.ensures.holder;
  form = c.cell_count-cells.ensures.form;
}
