use Rattle.builders.proofs.Judging.{build_laws}
use Rattle.builders.proofs.builder.PairsBuilder.build.Goals as goal

pub returns-in_err-count-clause-laws : goal.returns-in_err-count-clause-laws
returns-in_err-count-clause-laws g c = build_laws g.row.R.Denot

pub returns-clause-laws : goal.returns-clause-laws
returns-clause-laws g c = build_laws g.row.R.Denot
