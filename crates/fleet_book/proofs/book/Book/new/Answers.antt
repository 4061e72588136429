-- The book at the opening, in which nobody is owed anything.
use Rattle.std.proofs.Common.{Bool, List, All, ap₂, subst, sym, replicate, arith}
use Rattle.std.proofs.lemmas.List.Elements.{All-replicate}
use Rattle.fleet_book.specs.Counts.{IsWithin, blank}
use Rattle.fleet_book.specs.declared.account.Account.{Account}
use Rattle.fleet_book.proofs.book.Book.new.Goals as goal

pub invariant_of-result : goal.invariant_of-result
invariant_of-result g c =
    let within : All (IsWithin c.args.limits.life) (replicate c.args.clients blank) =
    All-replicate (IsWithin c.args.limits.life) c.args.clients blank (omega arith, omega arith) in
    (subst (All (IsWithin c.args.limits.life)) (sym c.in_ok-filled.ensures) within, c.requires.life.1)

pub returns : goal.returns
returns g c =
    ap₂
    (λ (accounts : List Account) (shut : List Bool). record { accounts = accounts; shut = shut; life = c.args.limits.life })
    c.in_ok-filled.ensures
    c.in_ok-filled-2.ensures
