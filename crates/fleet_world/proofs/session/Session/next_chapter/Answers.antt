-- There are as many clients as before, whether or not the next chapter was begun.
use Rattle.fleet_world.proofs.Counts.{count_kept}
use Rattle.fleet_world.proofs.session.Session.next_chapter.Goals as goal

pub invariant_of-self : goal.invariant_of-self
invariant_of-self g c = record { count = count_kept c.next_chapter.result c.args.self.now.world.core c.next_chapter.new.self.core _ c.args.self.now.count c.next_chapter.ensures.next c.next_chapter.ensures.err }
