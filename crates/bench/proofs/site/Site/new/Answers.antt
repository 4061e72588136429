-- The map of the site.
use Rattle.std.proofs.Common.{refl}
use Rattle.bench.proofs.site.Site.new.Goals as goal

pub returns : goal.returns
returns c = refl
