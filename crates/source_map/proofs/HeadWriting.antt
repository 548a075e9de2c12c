-- Laws of the sizes that are put.
use Rattle.std.proofs.Common.{◌≡◌, ℕ, ◌+◌, List, get_or, sym, ap, ◌∙◌}
use Rattle.std.proofs.lemmas.Option.{get_or_from_slice_get}
use Rattle.std.proofs.Math.Numerals.{add-one}
use Rattle.std.specs.Prelude.{Some}
use Rattle.cells.specs.declared.place.Size.{Size}
use Rattle.cells.specs.SizeLists.{size_of_part}

-- the size of the part after the first i
pub size_next : (sizes : List Size) (i : ℕ) (size : Size) → Some size ≡ size_of_part sizes (i + 1) → get_or sizes i size ≡ size
size_next sizes i size is = get_or_from_slice_get sizes i size size (sym (is ∙ ap (size_of_part sizes) (add-one i)))
