use Rattle.std.proofs.Common.{◌≡◌, ◌∙◌, ℕ, List, ap, arith, length, drop, subst, sym, vec_len}
use Rattle.fleet_grid.specs.Step.{IsConflictFree}
use Rattle.bench.proofs.Courses.{goals_for, way_for, seam}
use Rattle.bench.proofs.fleet.Fleet.step.Goals as goal

pub step_by-requires-clause-goals : goal.step_by-requires-clause-goals
step_by-requires-clause-goals g c =
    let s = c.args.self.now in
    goals_for c.args.site.now.grid c.args.site.now.home c.args.fields.now s.from.items s.to.items c.deref-2.result.now s.waits.items c.deref-3.result.now s.aims.items c.deref.result.now
    c.deref-2.ensures.value c.deref-3.ensures.value c.deref.ensures.value c.requires.serves c.requires.way

pub step_by-requires-clause-shows : goal.step_by-requires-clause-shows
step_by-requires-clause-shows g c = c.requires.serves.each

pub returns-clause-way : goal.returns-clause-way
returns-clause-way g c =
    let s = c.args.self.now in
    let free = c.in-Ok.ensures.stepped.conflict_free in
    let size : s.to.len ≡ length c.step_by.new.to = omega (arith, s.to.ok.0, c.requires.way.next, free.same_length, ap length c.deref-2.ensures.value) in
    way_for c.args.site.now.grid c.args.site.now.home (length c.args.fields.now) s.from.items s.to.items c.deref-2.result.now c.step_by.new.to c.swap.new.x.items c.swap.new.y.items s.waits.items s.aims.items
    c.deref-2.ensures.value (ap (λ v. v.items) c.swap.ensures.x_after ∙ seam s.to.len c.step_by.new.to (drop (length c.step_by.new.to) s.to.items) size) (ap (λ v. v.items) c.swap.ensures.y_after) c.requires.way free

pub returns-clause-was : goal.returns-clause-was
returns-clause-was g c = c.swap.ensures.y_after

pub returns-clause-robots : goal.returns-clause-robots
returns-clause-robots g c =
    let s = c.args.self.now in
    let len : vec_len c.swap.new.x ≡ s.to.len = ap (λ v. vec_len v) c.swap.ensures.x_after in
    omega (arith, len, s.to.ok.0, s.from.ok.0, c.requires.way.next)

pub returns-clause-conflict_free : goal.returns-clause-conflict_free
returns-clause-conflict_free g c =
    let s = c.args.self.now in
    let m = c.args.site.now.grid in
    let free = c.in-Ok.ensures.stepped.conflict_free in
    let size : s.to.len ≡ length c.step_by.new.to = omega (arith, s.to.ok.0, c.requires.way.next, free.same_length, ap length c.deref-2.ensures.value) in
    let to : c.swap.new.x.items ≡ c.step_by.new.to = ap (λ v. v.items) c.swap.ensures.x_after ∙ seam s.to.len c.step_by.new.to (drop (length c.step_by.new.to) s.to.items) size in
    subst (λ (from : List ℕ). IsConflictFree m from c.swap.new.x.items) c.deref-2.ensures.value (subst (λ (x : List ℕ). IsConflictFree m c.deref-2.result.now x) (sym to) free)
