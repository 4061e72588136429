-- What is wrong with the header lines of a conversation, as sentences.
use Rattle.std.specs.Prelude.{ℕ, List, ◌++◌, codes, decimal}
use Rattle.fleet_explain.specs.declared.head.HeadExplanation.{HeadExplanation}
use Rattle.fleet_explain.specs.declared.head.HeadExplanation.TheVariants as explanation
use Rattle.fleet_explain.specs.declared.head.HeadLineFault.{HeadLineFault}
use Rattle.fleet_explain.specs.declared.head.HeadLineFault.TheVariants as fault
use Rattle.fleet_explain.specs.Sentences.{line_text, sentence, start_text}

-- what is wrong with a header line
abbrev pub head_fault_text : HeadLineFault → List ℕ
head_fault_text fault.Long = codes "it is longer than 8192 bytes"
head_fault_text fault.Event = codes "it is an event line, which belongs in the conversation and not in this file"
head_fault_text (fault.Line f) = line_text f

-- what is wrong with a map and the header lines for it
abbrev pub head_sentence : HeadExplanation → List ℕ
head_sentence explanation.Fine = codes "all in order"
head_sentence explanation.Unplaced = codes "all in order for `talk`, whose conversation has to give a line `robots CELL ..`; `live` needs it here"
head_sentence (explanation.Map e) = sentence e
head_sentence (explanation.Line n f) = codes "the header lines: line " ++ (decimal n ++ (codes ": " ++ head_fault_text f))
head_sentence (explanation.Start f width) = codes "the header lines: " ++ start_text width f
