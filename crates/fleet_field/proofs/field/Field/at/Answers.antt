use Rattle.std.proofs.Common.{◌≡◌, ◌*◌, ◌<◌, get_or, slice_index, None, sym, ap, ◌∙◌, arith}
use Rattle.std.proofs.lemmas.List.{get_or_read}
use Rattle.fleet_grid.specs.Padded.{place}
use Rattle.fleet_field.specs.Field.{Aim}
use Rattle.fleet_field.specs.Kept.{away_at}
use Rattle.fleet_field.proofs.Transfer.{in_list, away_in, away_out, away_near, away_far}
use Rattle.fleet_field.proofs.field.Field.at.Goals as goal

pub returns-then-cell-self : goal.returns-then-cell-self
returns-then-cell-self g c =
    let f = c.self.inside in
    sym (away_out f.height f.columns.width f.stride c.args.cell f.dist.items (omega (arith, c.if-cell-self.true))) ∙ ap (λ (a : Aim). get_or a.away c.args.cell None) c.self.view_is

pub returns-then-dist-lt-WALL : goal.returns-then-dist-lt-WALL
returns-then-dist-lt-WALL g c =
    let f = c.self.inside in
    let below : c.args.cell < f.height * f.columns.width = omega (arith, c.if-cell-self.false) in
    let inside = in_list f.height f.columns.width f.stride c.args.cell f.dist.items c.self.invariant below in
    let e : c.index-dist.result.now ≡ slice_index f.dist.items (place f.columns.width f.stride c.args.cell) =
    get_or_read f.dist.items c.place.result c.index-dist.result.now (omega (arith, inside, c.place.ensures)) c.index-dist.ensures 0 ∙ ap (slice_index f.dist.items) c.place.ensures in
    sym (away_near c.index-dist.result.now (omega (arith, c.if-dist-lt-WALL.true))) ∙ (ap away_at e ∙ (sym (away_in f.height f.columns.width f.stride c.args.cell f.dist.items below) ∙ ap (λ (a : Aim). get_or a.away c.args.cell None) c.self.view_is))

pub returns-else-dist-lt-WALL : goal.returns-else-dist-lt-WALL
returns-else-dist-lt-WALL g c =
    let f = c.self.inside in
    let below : c.args.cell < f.height * f.columns.width = omega (arith, c.if-cell-self.false) in
    let inside = in_list f.height f.columns.width f.stride c.args.cell f.dist.items c.self.invariant below in
    let e : c.index-dist.result.now ≡ slice_index f.dist.items (place f.columns.width f.stride c.args.cell) =
    get_or_read f.dist.items c.place.result c.index-dist.result.now (omega (arith, inside, c.place.ensures)) c.index-dist.ensures 0 ∙ ap (slice_index f.dist.items) c.place.ensures in
    sym (away_far c.index-dist.result.now (omega (arith, c.if-dist-lt-WALL.false))) ∙ (ap away_at e ∙ (sym (away_in f.height f.columns.width f.stride c.args.cell f.dist.items below) ∙ ap (λ (a : Aim). get_or a.away c.args.cell None) c.self.view_is))

pub place-requires-clause-small : goal.place-requires-clause-small
place-requires-clause-small g c =
    let f = c.self.inside in
    let inside = in_list f.height f.columns.width f.stride c.args.cell f.dist.items c.self.invariant (omega (arith, c.if-cell-self.false)) in
    omega (arith, inside, c.self.invariant.small)

pub overflow_mul-self-inside : goal.overflow_mul-self-inside
overflow_mul-self-inside g c = omega (arith, c.self.invariant.few)

pub place-requires-clause-few : goal.place-requires-clause-few
place-requires-clause-few g c = omega (arith, c.if-cell-self.false, c.self.invariant.few)

pub index-dist-requires : goal.index-dist-requires
index-dist-requires g c =
    let f = c.self.inside in
    let inside = in_list f.height f.columns.width f.stride c.args.cell f.dist.items c.self.invariant (omega (arith, c.if-cell-self.false)) in
    omega (arith, inside, c.place.ensures, f.dist.ok.0)
