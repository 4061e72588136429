use Rattle.std.proofs.Common.{refl}
use Rattle.fleet_core.proofs.kernel.Core.tick.Goals as goal

pub tick_as-requires : goal.tick_as-requires
tick_as-requires g c = record { ties = c.requires.ties; closures = λ e. record { arrivals = c.requires.arrivals; farewells = c.requires.farewells } }

pub returns : goal.returns
returns g c =
    let answer = c.tick_as.ensures.answer in
    record {
      clock_spent = answer.clock_spent;
      chapter_full = answer.chapter_full;
      early = answer.early;
      entries = answer.entries;
      ok = answer.ok;
      err = answer.err;
      farewells = c.tick_as.ensures.farewells refl;
    }
