-- The robot was shut, or not, and that was said.
use Rattle.std.proofs.Common.{◌++◌, List, ℕ, refl, sym, subst}
use Rattle.std.proofs.lemmas.Result.{on_ok_weaker}
use Rattle.live_fleet.specs.Asking.{Shuts}
use Rattle.live_fleet.specs.Party.{Stage, stage_of, with_at}
use Rattle.live_fleet.specs.Went.{At, at_of}
use Rattle.live_fleet.proofs.party.Party.ask_shut.Goals as goal

pub returns : goal.returns
returns g c =
    let s : Stage = stage_of c.args.self.now c.args.out.now in
    let shut : At = at_of c.shut_answer.new.fleet c.shut_answer.new.out in
    record {
      ok = on_ok_weaker c.say.result
          (λ it sp there. let (first, shuts) = c.in_ok-text.ensures.ok in let (second, answers) = it sp there in (
            first ++ second,
            record {
              text = c.as_str.result.now;
              first = first;
              mid = with_at s shut;
              shuts = subst (λ (t : List ℕ). Shuts c.args.robot t s.at first shut) (sym c.as_str.ensures.value) shuts;
              same = refl;
              second = second;
              answers = answers;
              parts = refl;
            },
          )) c.say.ensures.ok;
    }
