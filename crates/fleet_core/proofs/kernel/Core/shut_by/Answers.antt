use Rattle.std.proofs.Common.{refl, subst}
use Rattle.fleet_core.specs.Hooks.{AreFarewells, spare_laws}
use Rattle.fleet_core.proofs.kernel.Core.shut_by.Goals as goal

pub shut-requires : goal.shut-requires
shut-requires g c = record { farewells = subst (λ items. AreFarewells c.args.self.now.history (spare_laws items)) c.as_slice.ensures.value (c.if-not-has_farewells.ensures refl) }

pub returns-then-not-has_farewells : goal.returns-then-not-has_farewells
returns-then-not-has_farewells g c = c.no_shut.ensures

pub returns : goal.returns
returns g c = record {
  no_robot = c.shut.ensures.no_robot;
  already = c.shut.ensures.already;
  chapter_full = c.shut.ensures.chapter_full;
  entries = c.shut.ensures.entries;
  ok = c.shut.ensures.ok;
  err = c.shut.ensures.err;
}
