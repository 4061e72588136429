-- What follows the end of a conversation.
use Rattle.std.specs.Prelude.{◌≡◌, ℕ, Bool, List, Option, Result, Ok, Err, IfOk, IfErr}
use Rattle.fleet_text.specs.Transfer.{AppendsPrefix}
use Rattle.std.specs.Io.KnownBytes.{Appends}
use Rattle.fleet_talk.specs.declared.fault.TalkFault.{TalkFault}
use Rattle.fleet_talk.specs.declared.fault.TalkFault.TheVariants.{Output}
use Rattle.fleet_talk.specs.Broken.{IsMidway}

-- the last chapter was kept or not, after the conversation ended so; whether a limit was met is returned where it was
abbrev pub Keeps : Result (Unit {0}) TalkFault → Bool → Result Bool TalkFault → Type 0
Keeps (Ok done) limited result = IfOk result (λ met. met ≡ limited) × IfErr result (λ fault. IsMidway fault)
Keeps (Err fault) limited result = result ≡ Err fault

-- what waits was written whole, or a write failed
pub data Finishes (ended : Result Bool TalkFault) (before after : Option (List ℕ)) (waited : List ℕ) (result : Result Bool TalkFault) : Type 0 where
  written : Appends before after waited → result ≡ ended → Finishes ended before after waited result
  unwritten : AppendsPrefix before after waited → result ≡ Err Output → Finishes ended before after waited result
