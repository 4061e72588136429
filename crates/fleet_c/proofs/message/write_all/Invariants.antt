use Rattle.std.proofs.Common.{◌≡◌, ◌≤◌, ◌*◌, length, take}
use Rattle.std.specs.List.{flat_map}
use Rattle.fleet_c.specs.Sentences.{over, piece}
use Rattle.fleet_c.proofs.message.write_all.Given as goal

abbrev pub invariant-loop-index : goal.invariant-loop-index
invariant-loop-index l = (l.text ≡ over l.fn.text (flat_map (piece l.fault) (take l.index l.sentence)))
    × (l.at ≡ length (flat_map (piece l.fault) (take l.index l.sentence)))
    × (l.at ≤ 40 * l.index)
