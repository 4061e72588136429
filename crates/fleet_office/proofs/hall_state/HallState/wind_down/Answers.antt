use Rattle.std.proofs.Common.{◌∙◌, Err, ap, subst, sym, inl, inr}
use Rattle.fleet_office.specs.Views.{AreOn, AreDistinct}
use Rattle.fleet_office.proofs.hall_state.HallState.wind_down.Goals as goal

pub drain_all-requires-clause-on : goal.drain_all-requires-clause-on
drain_all-requires-clause-on g c = c.requires.on

pub drain_all-requires-clause-distinct : goal.drain_all-requires-clause-distinct
drain_all-requires-clause-distinct g c = c.requires.distinct

pub returns-in-Err-ChapterFull-clause-clients : goal.returns-in-Err-ChapterFull-clause-clients
returns-in-Err-ChapterFull-clause-clients g c = c.drain_all.ensures.clients

pub returns-in-Err-ChapterFull-clause-total : goal.returns-in-Err-ChapterFull-clause-total
returns-in-Err-ChapterFull-clause-total g c = c.drain_all.ensures.total

pub returns-in-Err-ChapterFull-clause-err : goal.returns-in-Err-ChapterFull-clause-err
returns-in-Err-ChapterFull-clause-err g c = (c.in-Err-ChapterFull.ensures.stops, c.drain_all.ensures.full (c.in-Err-ChapterFull.is ∙ ap Err c.in-Err-ChapterFull.field-0-is))

pub returns-in-Err : goal.returns-in-Err
returns-in-Err g c = record {
  clients = c.drain_all.ensures.clients;
  total = c.drain_all.ensures.total;
  settled = tt;
  drains = tt;
  rooms = tt;
  err = inl c.in-Err.ensures.stops;
}

pub rooms-requires-clause-on : goal.rooms-requires-clause-on
rooms-requires-clause-on g c = subst (AreOn g.N.OfficeName.rings) (sym c.drain_all.ensures.clients) c.requires.on

pub rooms-requires-clause-distinct : goal.rooms-requires-clause-distinct
rooms-requires-clause-distinct g c = subst AreDistinct (sym c.drain_all.ensures.clients) c.requires.distinct

pub returns-in-Ok-rooms-clause-clients : goal.returns-in-Ok-rooms-clause-clients
returns-in-Ok-rooms-clause-clients g c = c.drain_all.ensures.clients

pub returns-in-Ok-rooms-clause-total : goal.returns-in-Ok-rooms-clause-total
returns-in-Ok-rooms-clause-total g c = c.drain_all.ensures.total

pub returns-in-Ok-rooms-clause-settled : goal.returns-in-Ok-rooms-clause-settled
returns-in-Ok-rooms-clause-settled g c = c.in-Ok.ensures.ok

pub returns-in-Ok-rooms-clause-drains : goal.returns-in-Ok-rooms-clause-drains
returns-in-Ok-rooms-clause-drains g c = c.in-Ok.ensures.drains

pub returns-in-Ok-rooms-clause-rooms : goal.returns-in-Ok-rooms-clause-rooms
returns-in-Ok-rooms-clause-rooms g c = c.in-Ok-rooms.ensures

pub returns-in-Err-rooms-clause-clients : goal.returns-in-Err-rooms-clause-clients
returns-in-Err-rooms-clause-clients g c = c.drain_all.ensures.clients

pub returns-in-Err-rooms-clause-total : goal.returns-in-Err-rooms-clause-total
returns-in-Err-rooms-clause-total g c = c.drain_all.ensures.total

pub returns-in-Err-rooms-clause-err : goal.returns-in-Err-rooms-clause-err
returns-in-Err-rooms-clause-err g c = inr c.in-Ok.ensures.drains
