-- One more move begins.
use Rattle.std.proofs.Common.{ℕ, ◌++◌, ◌≡◌, refl, sym, ◌∙◌, ap, subst, string_bytes}
use Rattle.live_vehicles.specs.Text.{move_line}
use Rattle.live_vehicles.proofs.Steps.{begun_first, begun_next}
use Rattle.live_vehicles.proofs.vehicles.Vehicles.begin_all.Goals as goal

pub loop-begun-init : goal.loop-begun-init
loop-begun-init c = record { first = refl; waits = refl; begun = λ o x. begun_first c.args.self.now o (string_bytes c.args.told.now) c.args.self.now.first x }

pub loop-begun-preserved : goal.loop-begun-preserved
loop-begun-preserved c =
    let first = c.in-Some.ensures.first ∙ c.loop-begun.invariant.first in
    let written : string_bytes c.tell_move.new.told ≡ string_bytes c.loop-begun.told ++ move_line c.args.self.now.first c.in-Some.begun =
    c.in_ok-tell_move.ensures ∙ ap (λ (n : ℕ). string_bytes c.loop-begun.told ++ move_line n c.in-Some.begun) first in
    record {
      first = first;
      waits = c.in-Some.ensures.waits ∙ c.loop-begun.invariant.waits;
      begun = λ o x. begun_next c.loop-begun.self c.begin.new.self o (string_bytes c.args.told.now) (string_bytes c.loop-begun.told) (string_bytes c.tell_move.new.told) c.args.self.now.first c.in-Some.begun c.in-Some.ensures.some written (c.loop-begun.invariant.begun o x);
    }
