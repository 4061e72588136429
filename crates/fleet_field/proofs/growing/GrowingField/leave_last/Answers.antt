use Rattle.std.proofs.Common.{◌≡◌, ℕ, List, ◌+◌, length, refl, sym, ap, ◌∙◌, arith}
use Rattle.std.proofs.lemmas.List.{length_push}
use Rattle.fleet_grid.proofs.Forms.{few_cells, floor_inside}
use Rattle.fleet_field.specs.inside.Known.{zero_count}
use Rattle.fleet_field.proofs.Serving.{target_wide, last_right, spread_inside, spread_serves}
use Rattle.fleet_field.proofs.growing.GrowingField.leave_last.Goals as goal

pub exits-requires : goal.exits-requires
exits-requires g c =
    let popped = sym c.reserve.ensures.items ∙ c.in-Some.ensures.items in
    (last_right c.args.grid.now c.make_room.new.self c.make_room.new.self (c.make_room.ensures.serves c.args.grid.now c.requires.serves) c.pop.new.self.items c.in-Some.cell popped).0

pub spread-requires-clause-few : goal.spread-requires-clause-few
spread-requires-clause-few g c =
    let popped = sym c.reserve.ensures.items ∙ c.in-Some.ensures.items in
    let floor = (last_right c.args.grid.now c.make_room.new.self c.make_room.new.self (c.make_room.ensures.serves c.args.grid.now c.requires.serves) c.pop.new.self.items c.in-Some.cell popped).0 in
    let few = few_cells c.args.grid.now c.requires.serves.form in
    let here = floor_inside c.args.grid.now c.in-Some.cell floor in
    omega (arith, here, few)

pub spread-requires-clause-wide : goal.spread-requires-clause-wide
spread-requires-clause-wide g c = target_wide c.args.grid.now c.make_room.new.self c.make_room.new.self (c.make_room.ensures.serves c.args.grid.now c.requires.serves)

pub spread-requires-clause-slim : goal.spread-requires-clause-slim
spread-requires-clause-slim g c =
    let s = c.make_room.ensures.serves c.args.grid.now c.requires.serves in
    let width = s.width in
    let slim = s.form.slim in
    omega (arith, width, slim)

pub spread-requires-clause-mark : goal.spread-requires-clause-mark
spread-requires-clause-mark g c =
    let s = c.make_room.ensures.serves c.args.grid.now c.requires.serves in
    let mark = s.mark in
    omega (arith, mark)

pub spread-requires-clause-inside : goal.spread-requires-clause-inside
spread-requires-clause-inside g c =
    let popped = sym c.reserve.ensures.items ∙ c.in-Some.ensures.items in
    spread_inside c.args.grid.now c.make_room.new.self c.make_room.new.self (c.make_room.ensures.serves c.args.grid.now c.requires.serves) c.pop.new.self.items c.in-Some.cell popped c.exits.result.byte c.exits.ensures

pub returns-clause-serves : goal.returns-clause-serves
returns-clause-serves g c =
    let popped = sym c.reserve.ensures.items ∙ c.in-Some.ensures.items in
    spread_serves c.args.grid.now c.make_room.new.self c.spread.new.self (c.make_room.ensures.serves c.args.grid.now c.requires.serves) c.pop.new.self.items c.in-Some.cell popped c.exits.result.byte
    (record { labels = c.make_room.new.self.labels.items; now = c.pop.new.self.items; next = c.make_room.new.self.next.items; later = c.make_room.new.self.later.items }) c.exits.ensures refl
    c.spread.ensures.spread c.spread.ensures.goal c.spread.ensures.target c.spread.ensures.mark

pub returns-clause-smaller : goal.returns-clause-smaller
returns-clause-smaller g c =
    let popped = sym c.reserve.ensures.items ∙ c.in-Some.ensures.items in
    let now : length c.args.self.now.now.items ≡ length c.make_room.new.self.now.items = ap (λ v. length v.items) (sym c.make_room.ensures.now) in
    let short : length c.make_room.new.self.now.items ≡ length c.pop.new.self.items + 1 = ap (λ (xs : List ℕ). length xs) popped ∙ length_push c.pop.new.self.items c.in-Some.cell in
    let next : length c.spread.new.self.next.items ≡ length c.args.self.now.next.items = ap (λ v. length v.items) (c.spread.ensures.next ∙ c.make_room.ensures.next) in
    let unseen : zero_count c.make_room.new.self.labels.items ≡ zero_count c.args.self.now.labels.items = ap (λ v. zero_count v.items) c.make_room.ensures.labels in
    omega (arith, c.spread.ensures.seen, c.spread.ensures.fewer, c.spread.new.self.now.ok.0, c.pop.new.self.ok.0, now, short, next, unseen)

pub returns-clause-fewer : goal.returns-clause-fewer
returns-clause-fewer g c =
    let popped = sym c.reserve.ensures.items ∙ c.in-Some.ensures.items in
    let now : length c.args.self.now.now.items ≡ length c.make_room.new.self.now.items = ap (λ v. length v.items) (sym c.make_room.ensures.now) in
    let short : length c.make_room.new.self.now.items ≡ length c.pop.new.self.items + 1 = ap (λ (xs : List ℕ). length xs) popped ∙ length_push c.pop.new.self.items c.in-Some.cell in
    let unseen : zero_count c.make_room.new.self.labels.items ≡ zero_count c.args.self.now.labels.items = ap (λ v. zero_count v.items) c.make_room.ensures.labels in
    omega (arith, c.spread.ensures.seen, c.spread.ensures.most_later, c.make_room.ensures.fewer, c.spread.new.self.now.ok.0, c.spread.new.self.later.ok.0, c.make_room.new.self.later.ok.0, c.pop.new.self.ok.0, now, short, unseen)
