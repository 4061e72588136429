-- The pieces of the line, nested as the definition has them.
use Rattle.std.proofs.Common.{◌∙◌, ◌++◌, ap, codes, decimal, string_bytes}
use Rattle.std.proofs.lemmas.Result.{on_ok_weaker}
use Rattle.fleet_text.specs.Output.{notice_text}
use Rattle.fleet_text.proofs.RunLines.{five}
use Rattle.fleet_text.proofs.runs.write_notice.Goals as goal

pub returns : goal.returns
returns g c = on_ok_weaker c.write.result (λ h. h ∙ ap (λ t. string_bytes c.args.out.now ++ t) (five (codes "collected ") (decimal c.args.client) (codes " ") (notice_text c.args.notice) (codes "\n"))) c.write.ensures.bytes
