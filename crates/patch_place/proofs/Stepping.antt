-- Steps of growing: what is picked for the first unfilled cell fits.
use Rattle.std.proofs.Common.{◌≡◌, List, subst}
use Rattle.std.proofs.lemmas.List.Elements.{All-weaker}
use Rattle.std.specs.Prelude.{All}
use Rattle.cells.specs.declared.place.At.{At}
use Rattle.cells.specs.declared.place.Size.{Size}
use Rattle.cells.specs.Cells.{Cells}
use Rattle.map_canvas.specs.declared.canvas.Placement.{Placement}
use Rattle.map_canvas.specs.Choices.{Fits}
use Rattle.patch_picks.specs.declared.candidates.Candidates.{Candidates}
use Rattle.patch_picks.specs.Fitting.{FitsAndCovers}
use Rattle.patch_picks.specs.Lists.{listed}

pub all_fit_over : (output : Size) (sample : Cells) (q : At) (list : List Placement) → All (FitsAndCovers output sample q) list → All (Fits output sample) list
all_fit_over output sample q list all = All-weaker (FitsAndCovers output sample q) (Fits output sample) (λ placement over. over.fits) list all

-- the same of an output whose size is equal
pub over_for : (list : Candidates) (given output : Size) (sample : Cells) (q : At) → given ≡ output → All (FitsAndCovers given sample q) (listed list given sample) → All (FitsAndCovers output sample q) (listed list output sample)
over_for list given output sample q e all = subst (λ o. All (FitsAndCovers o sample q) (listed list o sample)) e all
