-- One more argument.
use Rattle.std.proofs.Common.{◌≡◌, ◌∙◌, ap, sym, refl, ℕ, ◌+◌, ◌<◌, List, ◌∷◌, length, drop, map, drop-cons, add-one, get_or, Bool, true, false, ◌||◌}
use Rattle.clap.specs.declared.builder.command.Command.TheViews.{out-Command as fields_of}
use Rattle.clap.specs.Words.{App, Rule, with_rule}
use Rattle.command_words.specs.declared.table.Argument.{Argument}
use Rattle.command_words.specs.Table.{argument_rule, with_rules}
use Rattle.command_words.proofs.command.with_arguments.Goals as goal

one_more : (old new : App) (r : Rule) (xs : List Argument) (i : ℕ) (d : Argument) → i < length xs → new ≡ with_rule old r → r ≡ argument_rule (get_or xs i d)
    → with_rules new (map argument_rule (drop (i + 1) xs)) ≡ with_rules old (map argument_rule (drop i xs))
one_more old new r xs i d short e f =
    let next : drop i xs ≡ get_or xs i d ∷ drop (i + 1) xs = drop-cons xs i d short ∙ ap (λ (k : ℕ). get_or xs i d ∷ drop k xs) (sym (add-one i)) in
    ap (λ (a : App). with_rules a (map argument_rule (drop (i + 1) xs))) (e ∙ ap (with_rule old) f) ∙ ap (λ (l : List Argument). with_rules old (map argument_rule l)) (sym next)

or-false : (b : Bool) → (b || false) ≡ b
or-false true = refl
or-false false = refl

pub loop-argument-preserved : goal.loop-argument-preserved
loop-argument-preserved c =
    let added = c.in_ok-command.ensures in
    let was = (fields_of c.loop-argument.command).has_globals in record {
      app = one_more _ _ _ c.args.arguments.now c.loop-argument.argument-index _ c.loop-argument-test.true (added.shape c.argument_of.ensures.own) c.argument_of.ensures.rule ∙ c.loop-argument.invariant.app;
      own = added.globals ∙ (ap (λ (b : Bool). was || b) c.argument_of.ensures.own ∙ (or-false was ∙ c.loop-argument.invariant.own));
    }
