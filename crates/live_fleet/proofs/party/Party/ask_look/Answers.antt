-- The line of a look was said.
use Rattle.std.proofs.Common.{List, ℕ, sym, subst}
use Rattle.std.proofs.lemmas.Result.{on_ok_weaker}
use Rattle.fleet_talk.specs.Look.{IsLook}
use Rattle.live_fleet.proofs.party.Party.ask_look.Goals as goal

pub returns : goal.returns
returns g c = record {
  ok = on_ok_weaker c.say.result
      (λ it sp there. let (acts, answers) = it sp there in
      (acts, (c.as_str.result.now, subst (λ (t : List ℕ). IsLook c.args.self.now.fleet.session.world.core t) (sym c.as_str.ensures.value) c.in_ok-text.ensures, answers))) c.say.ensures.ok;
}
