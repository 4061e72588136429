-- The client's counts, read at its place.
use Rattle.std.proofs.Common.{◌<◌, ◌∙◌, length, sym, subst}
use Rattle.std.proofs.lemmas.List.{get_or_default}
use Rattle.fleet_book.specs.Counts.{Counts, blank}
use Rattle.fleet_book.proofs.book.Book.account.Goals as goal

pub returns-clause-value : goal.returns-clause-value
returns-clause-value g c =
    let known : c.args.client < length c.self.inside.accounts.items =
    subst (λ (w : Counts). c.args.client < length w.accounts) (sym c.self.view_is) c.requires in
    rw (← c.self.view_is)
    (c.index.ensures ∙ get_or_default c.self.inside.accounts.items c.args.client c.index.result.now blank known)
