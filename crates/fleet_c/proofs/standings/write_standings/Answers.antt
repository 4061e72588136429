use Rattle.std.proofs.Common.{◌∙◌, ap, arith}
use Rattle.fleet_history.specs.History.{History}
use Rattle.fleet_c.proofs.Stands.{all-stand}
use Rattle.fleet_c.proofs.standings.write_standings.Goals as goal

pub begin_all-requires : goal.begin_all-requires
begin_all-requires c = record { few = omega (arith, c.requires.all.few, c.requires.places); places = c.requires.places }

pub returns : goal.returns
returns c =
    all-stand c.args.core.now c.args.all.now c.as_slice.result.now c.begin_all.new.standings c.note_errands.new.standings c.note_shuts.new.standings c.requires.all
    (c.as_slice.ensures.value ∙ ap (λ (h : History _). h.entries) c.chapter.ensures.history)
    (λ r d l. c.begin_all.ensures r d (omega (arith, l, c.requires.places)))
    (λ r d l. c.note_errands.ensures r d (omega (arith, l, c.requires.places, c.begin_all.auto.standings)))
    (λ r d l. c.note_shuts.ensures r d (omega (arith, l, c.requires.places, c.begin_all.auto.standings, c.note_errands.auto.standings)))
