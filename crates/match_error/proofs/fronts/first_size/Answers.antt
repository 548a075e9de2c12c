use Rattle.std.proofs.Common.{◌≡◌, ◌≤◌, length, ap, sym, subst, ◌∙◌, arith}
use Rattle.std.specs.Prelude.{List, Some}
use Rattle.cells.specs.declared.place.Size.{Size}
use Rattle.cells.specs.Places.{IsSmall}
use Rattle.cells.specs.SizeLists.{size_of_part}
use Rattle.match_error.proofs.fronts.first_size.Goals as goal

same_some : (x y : Size) → Some x ≡ Some y → x ≡ y
same_some x y e = cc

pub at-requires-clause-to : goal.at-requires-clause-to
at-requires-clause-to c = subst (λ (sizes : List Size). 1 ≤ length sizes) (sym c.sizes.ensures) (omega arith)

is_first : (c : goal.After-at) → c.at.result ≡ c.args.sample.now.size
is_first c = same_some _ _ (c.at.ensures.size ∙ ap (λ (sizes : List Size). size_of_part sizes 1) c.sizes.ensures)

pub returns-clause-size : goal.returns-clause-size
returns-clause-size c = is_first c

pub returns-clause-small : goal.returns-clause-small
returns-clause-small c = subst IsSmall (sym (is_first c)) c.samples-sample.ensures.volume.small
