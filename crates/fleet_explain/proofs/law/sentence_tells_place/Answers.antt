-- The file and the place are read back from the sentence.
use Rattle.fleet_explain.proofs.Places.{one_file, one_place}
use Rattle.fleet_explain.proofs.law.sentence_tells_place.Goals as goal

pub returns-clause-file : goal.returns-clause-file
returns-clause-file c = one_file

pub returns-clause-place : goal.returns-clause-place
returns-clause-place c = one_place
