use Rattle.std.proofs.Common.{◌≡◌, ℕ, ◌+◌, ◌*◌, List, length, sym, ap, subst, ◌∙◌, arith}
use Rattle.fleet_field.specs.inside.Labels.{AreUnseen}
use Rattle.fleet_field.proofs.Whole.{written_back}
use Rattle.fleet_field.proofs.bits.unseen.Goals as goal

pub lay_rows-requires-clause-laid_out : goal.lay_rows-requires-clause-laid_out
lay_rows-requires-clause-laid_out g c =
    let size : length c.as_mut_slice.result.now ≡ (c.args.height + 2) * c.args.stride = ap (λ (xs : List ℕ). length xs) c.as_mut_slice.ensures.value ∙ (sym c.resize.new.self.ok.0 ∙ c.in_ok-resize.ensures.len) in
    record {
      wide = c.requires.wide;
      apart = c.requires.apart;
      few = c.requires.few;
      small = omega (arith, size, c.requires.small);
      size = size;
    }

pub lay_rows-requires-clause-cells : goal.lay_rows-requires-clause-cells
lay_rows-requires-clause-cells g c = c.requires.cells

pub returns : goal.returns
returns g c =
    let kept : length c.lay_rows.new.labels ≡ length c.resize.new.self.items = c.lay_rows.ensures.len ∙ (sym c.in_ok-resize.ensures.len ∙ c.resize.new.self.ok.0) in
    subst (AreUnseen c.args.height c.args.width c.args.stride c.args.ways.now) (sym (written_back c.resize.new.self.len c.lay_rows.new.labels c.resize.new.self.items kept c.resize.new.self.ok.0)) c.lay_rows.ensures
