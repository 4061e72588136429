-- One change more is made.
use Rattle.std.proofs.Common.{◌≡◌, ◌∙◌, ◌+◌, ◌<◌, ℕ, List, [], ◌∷◌, ◌++◌, Option, None, ap, subst, sym, take, length, get_or}
use Rattle.std.proofs.lemmas.List.{append-nil, append_assoc, take_more}
use Rattle.fleet_refit.specs.declared.change.Change.{Change}
use Rattle.fleet_refit.specs.declared.change.Dropped.{Dropped}
use Rattle.fleet_refit.specs.Changed.{AreMade, Changes, none, made}
use Rattle.fleet_refit.specs.Fault.{fault_of}
use Rattle.fleet_refit.specs.Site.{SiteView}

-- where the loop is: the changes up to here are made
abbrev pub Made : {A : Type 0} → SiteView A → List Change → SiteView A → List Dropped → List Dropped → Type 0
Made s changes t before now = (gone : List Dropped) × AreMade s changes t gone × (now ≡ before ++ gone)

pub made-nothing : {A : Type 0} (s : SiteView A) (before : List Dropped) → Made s [] s before before
made-nothing s before = ([], none, sym (append-nil before))

pub made-more : {A : Type 0} (s t u : SiteView A) (changes : List Change) (before now last : List Dropped) (i : ℕ) (d : Change) → Made s (take i changes) t before now → i < length changes →
    fault_of t (get_or changes i d) ≡ None → Changes t (get_or changes i d) u last → Made s (take (i + 1) changes) u before (now ++ last)
made-more s t u changes before now last i d (gone, are, listed) inside can is = (
  gone ++ last,
  subst (λ l. AreMade s l u (gone ++ last)) (sym (take_more changes i d inside)) (made (get_or changes i d) last are can is),
  ap (λ l. l ++ last) listed ∙ append_assoc before gone last,
)
