use Rattle.map_canvas.proofs.Filling.{fits_small, new_sources}
use Rattle.map_canvas.proofs.laws.new_sources.Goals as goal

pub returns-clause-sources : goal.returns-clause-sources
returns-clause-sources c = new_sources

pub returns-clause-small : goal.returns-clause-small
returns-clause-small c = fits_small
