use Rattle.std.proofs.Common.{◌≡◌, ℕ, List, [], ◌∷◌, ◌++◌, ◌+◌, length, set, refl, sym, ap, ◌∙◌, arith}
use Rattle.std.proofs.lemmas.List.{length_push, get_or_default}
use Rattle.fleet_field.proofs.Searches.{one_less}
use Rattle.fleet_field.proofs.Serving.{waiting_inside, skipped_serves, taken_serves}
use Rattle.fleet_field.proofs.growing.GrowingField.take_last.Goals as goal

pub index-requires : goal.index-requires
index-requires g c =
    let here = waiting_inside c.requires.inside.0 c.args.self.now c.args.self.now c.requires.inside.1 c.pop.new.self.items c.in-Some.cell c.in-Some.ensures.items in
    omega (arith, here, c.args.self.now.labels.ok.0)

pub index_mut-requires : goal.index_mut-requires
index_mut-requires g c =
    let here = waiting_inside c.requires.inside.0 c.args.self.now c.args.self.now c.requires.inside.1 c.pop.new.self.items c.in-Some.cell c.in-Some.ensures.items in
    omega (arith, here, c.args.self.now.labels.ok.0)

pub returns-then-index-ne0-clause-serves : goal.returns-then-index-ne0-clause-serves
returns-then-index-ne0-clause-serves g c m s =
    let here = waiting_inside m c.args.self.now c.args.self.now s c.pop.new.self.items c.in-Some.cell c.in-Some.ensures.items in
    skipped_serves m c.args.self.now _ s c.pop.new.self.items c.in-Some.cell c.in-Some.ensures.items
    (λ e. c.if-index-ne0.true (sym (get_or_default c.args.self.now.labels.items c.in-Some.cell 0 c.index.result.now here ∙ sym c.index.ensures) ∙ e)) refl refl refl
    (ap (λ (xs : List ℕ). record { labels = c.args.self.now.labels.items; now = xs; next = c.pop.new.self.items; later = c.args.self.now.later.items }) c.reserve.ensures.items)

pub returns-clause-serves : goal.returns-clause-serves
returns-clause-serves g c m s =
    let here = waiting_inside m c.args.self.now c.args.self.now s c.pop.new.self.items c.in-Some.cell c.in-Some.ensures.items in
    taken_serves m c.args.self.now _ s c.pop.new.self.items c.in-Some.cell c.in-Some.ensures.items
    (get_or_default c.args.self.now.labels.items c.in-Some.cell 0 c.index.result.now here ∙ (sym c.index.ensures ∙ c.if-index-ne0.false)) refl refl refl
    (ap (λ (xs : List ℕ). record { labels = set c.args.self.now.labels.items c.in-Some.cell c.args.self.now.mark; now = xs; next = c.pop.new.self.items; later = c.args.self.now.later.items })
    (c.push_reserved.ensures.items ∙ ap (λ (xs : List ℕ). xs ++ c.in-Some.cell ∷ []) c.reserve.ensures.items))

pub returns-clause-smaller : goal.returns-clause-smaller
returns-clause-smaller g c =
    let s = c.requires.inside.1 in
    let here = waiting_inside c.requires.inside.0 c.args.self.now c.args.self.now s c.pop.new.self.items c.in-Some.cell c.in-Some.ensures.items in
    let unseen = get_or_default c.args.self.now.labels.items c.in-Some.cell 0 c.index.result.now here ∙ (sym c.index.ensures ∙ c.if-index-ne0.false) in
    let less = one_less c.args.self.now.labels.items c.in-Some.cell c.args.self.now.mark here unseen (let k = s.mark in omega (arith, k)) in
    let short : length c.args.self.now.next.items ≡ length c.pop.new.self.items + 1 = ap (λ (xs : List ℕ). length xs) c.in-Some.ensures.items ∙ length_push c.pop.new.self.items c.in-Some.cell in
    omega (arith, c.push_reserved.ensures.len, c.push_reserved.new.self.ok.0, c.reserve.ensures.len, c.reserve.new.self.ok.0, c.args.self.now.now.ok.0, less, short)

pub returns-clause-fewer : goal.returns-clause-fewer
returns-clause-fewer g c =
    let s = c.requires.inside.1 in
    let here = waiting_inside c.requires.inside.0 c.args.self.now c.args.self.now s c.pop.new.self.items c.in-Some.cell c.in-Some.ensures.items in
    let unseen = get_or_default c.args.self.now.labels.items c.in-Some.cell 0 c.index.result.now here ∙ (sym c.index.ensures ∙ c.if-index-ne0.false) in
    let less = one_less c.args.self.now.labels.items c.in-Some.cell c.args.self.now.mark here unseen (let k = s.mark in omega (arith, k)) in
    omega (arith, c.push_reserved.ensures.len, c.push_reserved.new.self.ok.0, c.reserve.ensures.len, c.reserve.new.self.ok.0, c.args.self.now.now.ok.0, less)
