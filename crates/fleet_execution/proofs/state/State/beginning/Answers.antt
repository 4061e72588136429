-- How a robot's next move may begin.
use Rattle.std.proofs.Common.{◌≡◌, true, false, sym, ◌∙◌, arith}
use Rattle.fleet_execution.specs.State.{desk_of}
use Rattle.fleet_execution.proofs.Answered.{all_of, link_inside, alone_from, none_next, none_free, none_begins}
use Rattle.fleet_execution.proofs.state.State.beginning.Goals as goal

two : true ≡ false → ⊥
two e = cc

pub returns-then-step-eq0 : goal.returns-then-step-eq0
returns-then-step-eq0 g c o x all t may = none_next (desk_of c.args.self.now) o x all c.args.robot t c.requires.inside (c.next-step.ensures.none c.if-step-eq0.true) may

pub returns-then-not-is_free : goal.returns-then-not-is_free
returns-then-not-is_free g c o x all t may = none_free (desk_of c.args.self.now) o x all c.args.robot t c.requires.inside (λ free. two (sym (c.is_free.ensures.1 free) ∙ c.if-not-is_free.true)) may

pub is_clear-requires-clause-known : goal.is_clear-requires-clause-known
is_clear-requires-clause-known g c l is =
    let all = all_of c.requires.sound.course c.args.self.now.turning c.requires.idle c.requires.sound.executes.turning in
    link_inside (desk_of c.args.self.now) c.requires.sound.course c.requires.sound.executes all c.args.robot c.next-step.result c.requires.inside (c.next-step.ensures.some c.if-step-eq0.false) l is

pub returns-then-is_clear : goal.returns-then-is_clear
returns-then-is_clear g c o x all = alone_from (desk_of c.args.self.now) o x all c.args.robot c.next-step.result c.requires.inside (c.next-step.ensures.some c.if-step-eq0.false)
    (c.is_free.ensures.0 c.if-not-is_free.false) (c.is_clear.ensures.0 c.if-is_clear.true)

pub returns-then-turn-gt0 : goal.returns-then-turn-gt0
returns-then-turn-gt0 g c = (c.next-step.ensures.some c.if-step-eq0.false, (c.turn.result, c.turn.ensures.turns c.if-turn-gt0.true))

pub returns : goal.returns
returns g c o x all t may = none_begins (desk_of c.args.self.now) o x all c.args.robot t c.requires.inside c.next-step.result (c.next-step.ensures.some c.if-step-eq0.false)
    (λ ended. two (sym (c.is_clear.ensures.1 ended) ∙ c.if-is_clear.false)) (c.turn.ensures.not (omega (arith, c.if-turn-gt0.false))) may
