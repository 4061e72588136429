-- One more event.
use Rattle.std.proofs.Common.{[], List, map, subst, sym}
use Rattle.std.proofs.lemmas.List.{take_more}
use Rattle.fleet_book.specs.declared.event.Event.TheVariants.{Post}
use Rattle.fleet_book.specs.declared.order.Order.TheVariants.{Go}
use Rattle.fleet_world.specs.declared.reply.Reply.{Reply}
use Rattle.fleet_world.specs.Keeps.{talk}
use Rattle.fleet_world.specs.inside.Shown.{Leads}
use Rattle.fleet_world.proofs.Collecting.{leads-none, leads-push}
use Rattle.fleet_world.proofs.play.play.Goals as goal

pub loop-i-init : goal.loop-i-init
loop-i-init g c =
    let start = talk c.args.session.now in
    let all = map (λ v. v.items) c.args.collected.now.items in
    subst (λ (replies : List Reply). Leads start all [] replies start all) (sym c.new-replies.ensures.items) (leads-none start all)

pub loop-i-preserved : goal.loop-i-preserved
loop-i-preserved g c =
    rw (c.push.ensures.items, c.if-is_err.ensures.negation, take_more c.args.events.now c.loop-i.i (Post 0 (Go 0 0)) c.loop-i-test.true)
    (leads-push _ _ _ _ _ _ _ _ _ _ c.loop-i.invariant c.in-Ok.ensures.step c.in-Ok-add_collected.ensures)
