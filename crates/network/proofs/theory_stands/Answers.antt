use Rattle.network.proofs.Lists.{theory}
use Rattle.network.proofs.theory_stands.Goals as goal

pub returns : goal.returns
returns g c = theory g.K.Kind.meaning.quantities
