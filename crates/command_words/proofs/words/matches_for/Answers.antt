-- Words that `clap` takes have matches, and only these.
use Rattle.std.proofs.Common.{◌≡◌, ◌∙◌, ◌⊎◌, inl, inr, Bool, [], ◌∷◌, true, false, true≢false, refl, ap, map, subst, sym, string_bytes}
use Rattle.std.specs.Prelude.{◌||◌, not}
use Rattle.std.specs.List.{list_any}
use Rattle.clap.specs.declared.error.Error.{Error}
use Rattle.clap.specs.declared.error.kind.ErrorKind.{ErrorKind}
use Rattle.clap.specs.declared.error.kind.ErrorKind.TheVariants.{OutOfMemory}
use Rattle.clap.specs.Values.{kind_of}
use Rattle.clap.specs.Words.{App, HasKind, IsAmong, Kinds, fault_of, is_simple, subcommand_of, takes}
use Rattle.clap.specs.Faults.{is_simple_and_free}
use Rattle.command_words.specs.Faults.{is_request, is_mistake, is_help, is_wrong}
use Rattle.command_words.proofs.words.matches_for.Goals as goal

one_is : (a b : Bool) → (a ≡ true) ⊎ (b ≡ true) → (a || b) ≡ true
one_is true b is = refl
one_is false b (inl is) = absurd cc
one_is false b (inr is) = is

among : (p : ErrorKind → Bool) (kind : ErrorKind) (kinds : Kinds) → IsAmong kind kinds → p kind ≡ true → list_any p kinds ≡ true
among p kind [] is holds = absurd is
among p kind (k ∷ ks) (inl same) holds = one_is (p k) (list_any p ks) (inl (subst (λ (x : ErrorKind). p x ≡ true) same holds))
among p kind (k ∷ ks) (inr later) holds = one_is (p k) (list_any p ks) (inr (among p kind ks later holds))

pub returns-in-Ok-clause-taken : goal.returns-in-Ok-clause-taken
returns-in-Ok-clause-taken c = λ free.
    subst (λ (a : App). fault_of a (map (λ w. string_bytes w) c.args.words.now) ≡ []) c.in_ok-command.ensures (c.in-Ok.ensures.kinds (ap is_simple_and_free c.in_ok-command.ensures ∙ free))

pub returns-in-Ok-clause-word : goal.returns-in-Ok-clause-word
returns-in-Ok-clause-word c = λ simple.
    (c.in-Ok.ensures.matches (ap is_simple c.in_ok-command.ensures ∙ simple)).1 ∙ ap (λ (a : App). subcommand_of a (map (λ w. string_bytes w) c.args.words.now)) c.in_ok-command.ensures

pub returns-in-Err-clause-taken : goal.returns-in-Err-clause-taken
returns-in-Err-clause-taken c = λ free. tt

pub returns-in-Err-clause-word : goal.returns-in-Err-clause-word
returns-in-Err-clause-word c = λ simple. tt

pub returns-in-Err-clause-refused : goal.returns-in-Err-clause-refused
returns-in-Err-clause-refused c = λ e.
    c.fault_from.ensures.memory (c.in-Err.ensures.passes (subst (λ (a : App). takes a (map (λ w. string_bytes w) c.args.words.now) ≡ true) (sym c.in_ok-command.ensures) e))

-- what is said agrees with a kind of error that these words may get
told : (p : ErrorKind → Bool) (kind : ErrorKind) (kinds : Kinds) (said : Bool) → (kind ≡ OutOfMemory) ⊎ IsAmong kind kinds → (kind ≡ OutOfMemory → said ≡ false) → (said ≡ true → p kind ≡ true) → said ≡ true
    → list_any p kinds ≡ true
told p kind kinds said (inl memory) silent agrees is = absurd (true≢false (sym is ∙ silent memory))
told p kind kinds said (inr is_among) silent agrees is = among p kind kinds is_among (agrees is)

pub returns-in-Err-clause-help : goal.returns-in-Err-clause-help
returns-in-Err-clause-help c = λ free is.
    let asked = c.fault_from.ensures in
    let has = c.in-Err.ensures.kinds (ap is_simple_and_free c.in_ok-command.ensures ∙ free) in
    subst (λ (a : App). list_any is_request (fault_of a (map (λ w. string_bytes w) c.args.words.now)) ≡ true) c.in_ok-command.ensures
    (told is_request (kind_of c.in-Err.error) _ (is_help c.fault_from.result) has (λ memory. ap is_help (asked.memory memory)) (λ said. asked.help said) is)

pub returns-in-Err-clause-wrong : goal.returns-in-Err-clause-wrong
returns-in-Err-clause-wrong c = λ free is.
    let asked = c.fault_from.ensures in
    let has = c.in-Err.ensures.kinds (ap is_simple_and_free c.in_ok-command.ensures ∙ free) in
    subst (λ (a : App). list_any is_mistake (fault_of a (map (λ w. string_bytes w) c.args.words.now)) ≡ true) c.in_ok-command.ensures
    (told is_mistake (kind_of c.in-Err.error) _ (is_wrong c.fault_from.result) has (λ memory. ap is_wrong (asked.memory memory)) (λ said. ap not (asked.wrong said)) is)

pub returns-in-Ok-clause-help : goal.returns-in-Ok-clause-help
returns-in-Ok-clause-help c = λ free. tt

pub returns-in-Ok-clause-wrong : goal.returns-in-Ok-clause-wrong
returns-in-Ok-clause-wrong c = λ free. tt
