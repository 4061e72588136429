-- A read that was interrupted, and one that showed a part.
use Rattle.std.proofs.Common.{◌≡◌, ◌≢◌, ◌-◌, ◌∙◌, ◌++◌, ℕ, List, [], length, take, refl, sym, ap, subst, arith, true≢false, length-take-le}
use Rattle.std.proofs.lemmas.Grind.{common_steps}
use Rattle.std.proofs.lemmas.List.Elements.{All-nil}
use Rattle.std.specs.Io.BufRead.{FillKeeps, strip_last}
use Rattle.std.proofs.KnownBytes.{Consumes-nil, Consumes-kept}
use Rattle.std.proofs.BufReadLemmas.{Consumes_shown, zero_unless_positive}
use Rattle.std.proofs.Transfers.{StopsAt-take}
use Rattle.fleet_talk.proofs.line_part.read_part.Goals as goal

nothing_more : (line : List ℕ) (room : ℕ) → line ≡ line ++ take room (strip_last 10 [])
nothing_more line room = grind (arith, common_steps)

-- what is kept of a part
kept : (line new told part : List ℕ) (most len room : ℕ) → new ≡ line ++ told → told ≡ take (most - len) part → len ≡ length line → new ≡ line ++ take (most - length line) part
kept line new told part most len room more first long = more ∙ ap (λ l. line ++ l) (first ∙ ap (λ n. take (most - n) part) long)

pub returns-then-eq-clause-part : goal.returns-then-eq-clause-part
returns-then-eq-clause-part g c = (
  [],
  refl,
  All-nil (λ x. x ≢ 10),
  Consumes-kept _ _ _ [] (Consumes-nil _) c.fill_buf.follows.holds-at-none.0,
  λ _. All-nil (λ x. x ≢ 10),
  λ done. absurd (true≢false (sym done)),
  λ done. absurd (true≢false (sym done)),
  nothing_more _ _,
)

pub returns-clause-part : goal.returns-clause-part
returns-clause-part g c =
    let shown = c.in-Ok.available.now in
    let end = c.length_through-len in
    let bs = take end.result shown in
    let long : length bs ≡ end.result = length-take-le end.result shown end.ensures.bound in
    let rested = c.fill_buf.follows.lender-at-none in
    let filled = subst (FillKeeps _ (g.R.Read.remaining rested) (g.R.BufRead.consumable_len rested)) c.in-Ok.is c.fill_buf.follows.holds-at-none in
    let moved = Consumes_shown _ _ _ _ shown end.result end.ensures.bound c.in-Ok.ensures.front c.in-Ok.ensures.end filled.0 filled.1 c.consume.ensures.bytes in (
      bs,
      long,
      StopsAt-take _ _ _ end.ensures.bound end.ensures.before,
      moved.0,
      c.is_last-is_last.ensures.more,
      c.is_last-is_last.ensures.done,
      λ _ none. moved.1 (zero_unless_positive _ _ end.ensures.some (sym long ∙ none)),
      kept c.args.line.now.items _ _ (strip_last 10 bs) c.args.most c.len.result 0 c.in_ok-extend_from_slice.ensures.items (c.first_of.ensures ∙ ap (take (c.args.most - c.len.result)) c.before_line_feed.ensures) (c.len.ensures ∙ c.args.line.now.ok.0),
    )
