-- The order was accepted, or its lane is full.
use Rattle.std.proofs.Common.{◌≡◌, ◌∙◌, ◌≤◌, ◌+◌, Bool, true, false, IsTrue, ◌↔◌, List, [], ◌∷◌, refl, sym, ap, subst}
use Rattle.fleet_book.specs.declared.event.Event.TheVariants.{Post}
use Rattle.fleet_book.specs.declared.limits.Limits.{Limits}
use Rattle.fleet_world.specs.declared.reply.Reply.TheVariants.{LaneFull, Posted}
use Rattle.fleet_world.specs.Keeps.{talk}
use Rattle.live_fleet.specs.declared.notes.Note.{Note}
use Rattle.live_fleet.specs.Act.{did}
use Rattle.live_fleet.specs.Posting.{AreSpent, IsPosted, full, is_close, ok}
use Rattle.live_fleet.proofs.Posted.{not-posted, not-spent, was-posted}
use Rattle.live_fleet.proofs.posting.post.Goals as goal

pub returns-in-Posted : goal.returns-in-Posted
returns-in-Posted g c = (
  did (Post c.args.client c.args.order) (Posted c.in-Posted.number) ∷ [],
  ok c.if-note.false (not-spent c.args.order c.args.note.now (talk c.args.session.now) c.limits.result.now c.is_spent.result c.limits.ensures c.is_spent.ensures c.if-is_spent.false) c.in-Posted.number refl refl
      (was-posted (talk c.args.session.now) (talk c.step.new.self) c.args.client c.args.order c.in_ok-number.field-0 c.in-Posted.number c.in_ok-number.ensures.step c.in-Posted.is)
      (ap (λ (b : Bool). record { closed = b; last = c.in-Posted.number }) c.is_close-note.ensures),
)

pub returns-in_default : goal.returns-in_default
returns-in_default g c = (
  did (Post c.args.client c.args.order) LaneFull ∷ [],
  full c.if-note.false (not-spent c.args.order c.args.note.now (talk c.args.session.now) c.limits.result.now c.is_spent.result c.limits.ensures c.is_spent.ensures c.if-is_spent.false) refl refl
      (not-posted (talk c.args.session.now) (talk c.step.new.self) c.args.client c.args.order c.in_ok-number.field-0 c.requires.there c.in_ok-number.ensures.step c.in_default.not-Posted) refl,
)
