-- What a pen holds once something was said.
use Rattle.std.specs.Prelude.{◌≡◌, ℕ, List, [], ◌++◌, Option, if◌then◌else◌}
use Rattle.std.specs.Borrow.{Bor}
use Rattle.std.specs.Option.{option_map}
use Rattle.fleet_talk.specs.declared.ask.Line.{Line}
use Rattle.fleet_talk.specs.declared.ends.Settings.{Settings}
use Rattle.fleet_talk.specs.declared.pen.Pen.{Pen}
use Rattle.fleet_text.specs.Answers.{bad_line}
use Rattle.fleet_talk.specs.Says.{marked, end_line}

-- a mark without where its bytes lie in memory
abbrev pub under : Option (Bor (List ℕ)) → Option (List ℕ)
under mark = option_map (λ m. m.now) mark

-- a text was added to what waits
pub record IsAdded (old new : Pen) (text : List ℕ) : Type 0 where
  pub out : new.out.items ≡ old.out.items ++ text
  pub settings : new.settings ≡ old.settings

-- nothing was said
pub record IsKept (old new : Pen) : Type 0 where
  pub out : new.out.items ≡ old.out.items
  pub settings : new.settings ≡ old.settings

-- that the line is a bad one, under its mark
abbrev pub bad_said : Line → List ℕ
bad_said line = marked (under line.mark) (bad_line line.number)

-- the end of the line's answer under its mark, where that is to be said
abbrev pub end_said : Settings → Line → List ℕ
end_said settings line = if settings.marks then marked (under line.mark) (end_line line.number) else []
