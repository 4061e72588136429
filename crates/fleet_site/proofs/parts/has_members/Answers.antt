use Rattle.std.proofs.Common.{◌∙◌, ap, sym, eqb, false, Option, option_map}
use Rattle.std.specs.Option.{unwrap_or}
use Rattle.serde_json.specs.Data.{Members}
use Rattle.fleet_trace.specs.Told.{count_members}
use Rattle.fleet_trace.proofs.Lists.{count_members-view}
use Rattle.fleet_site.proofs.parts.has_members.Goals as goal

pub returns-in-Some : goal.returns-in-Some
returns-in-Some c =
    let n = c.args.count in
    ap (λ x. eqb x n) (c.len.ensures.len ∙ sym (count_members-view c.in-Some.members.now.entries))
    ∙ ap (λ (o : Option Members). unwrap_or (option_map (λ ms. eqb (count_members ms) n) o) false) c.in-Some.ensures
