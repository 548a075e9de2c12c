-- Laws of the rows of a frame's planes.
use Rattle.std.proofs.Common.{◌≡◌, ℕ, ◌<◌, ◌≤◌, ◌+◌, ◌-◌, ◌*◌, List, length, ap, ◌∙◌, arith}
use Rattle.y4m_clip.specs.declared.form.SpaceKind.{SpaceKind}
use Rattle.y4m_clip.specs.declared.form.SpaceKind.TheVariants.{Mono, C444, C422, C411, C420}
use Rattle.y4m_clip.specs.Spaces.{cell_width, cell_height, samples_of}
use Rattle.y4m_clip.specs.Clips.{span, pixels_of}
use Rattle.y4m_clip.specs.Planes.{HasRow, HasPlaneCell}
use Rattle.y4m_clip.proofs.Laying.{length-span}

-- a row has the samples of each of its cells
pub row_cell : (kind : SpaceKind) (w upper lower blue red x : ℕ) → HasRow kind w upper lower blue red → x < w → HasPlaneCell kind upper lower blue red x
row_cell Mono w upper lower blue red x has lt = omega (arith, has)
row_cell C444 w upper lower blue red x has lt = (omega (arith, has.0), omega (arith, has.1), omega (arith, has.2))
row_cell C422 w upper lower blue red x has lt = (omega (arith, has.0), omega (arith, has.1), omega (arith, has.2))
row_cell C411 w upper lower blue red x has lt = (omega (arith, has.0), omega (arith, has.1), omega (arith, has.2))
row_cell C420 w upper lower blue red x has lt = (omega (arith, has.0), omega (arith, has.1), omega (arith, has.2), omega (arith, has.3))

long : (bytes piece : List ℕ) (start count : ℕ) → piece ≡ span bytes start count → start + count ≤ length bytes → length piece ≡ count
long bytes piece start count is fits = ap length is ∙ length-span bytes start count fits

-- the rows of a frame's planes have the samples of w cells
pub row_has : (kind : SpaceKind) (w n before : ℕ) (planes upper lower blue red : List ℕ) → length planes ≡ samples_of kind * n → before + w ≤ n
    → upper ≡ span planes (pixels_of kind before) (cell_width kind * w)
    → lower ≡ span planes (pixels_of kind before + cell_width kind * w * (cell_height kind - 1)) (cell_width kind * w)
    → blue ≡ span planes (pixels_of kind n + before) w → red ≡ span planes (pixels_of kind n + n + before) w
    → HasRow kind w (length upper) (length lower) (length blue) (length red)
row_has Mono w n before planes upper lower blue red whole inside up low b r =
    let u = long planes upper _ _ up (omega (arith, whole, inside)) in
    omega (arith, u)
row_has C444 w n before planes upper lower blue red whole inside up low b r =
    let u = long planes upper _ _ up (omega (arith, whole, inside)) in
    let cb = long planes blue _ _ b (omega (arith, whole, inside)) in
    let cr = long planes red _ _ r (omega (arith, whole, inside)) in
    (omega (arith, u), omega (arith, cb), omega (arith, cr))
row_has C422 w n before planes upper lower blue red whole inside up low b r =
    let u = long planes upper _ _ up (omega (arith, whole, inside)) in
    let cb = long planes blue _ _ b (omega (arith, whole, inside)) in
    let cr = long planes red _ _ r (omega (arith, whole, inside)) in
    (omega (arith, u), omega (arith, cb), omega (arith, cr))
row_has C411 w n before planes upper lower blue red whole inside up low b r =
    let u = long planes upper _ _ up (omega (arith, whole, inside)) in
    let cb = long planes blue _ _ b (omega (arith, whole, inside)) in
    let cr = long planes red _ _ r (omega (arith, whole, inside)) in
    (omega (arith, u), omega (arith, cb), omega (arith, cr))
row_has C420 w n before planes upper lower blue red whole inside up low b r =
    let u = long planes upper _ _ up (omega (arith, whole, inside)) in
    let l = long planes lower _ _ low (omega (arith, whole, inside)) in
    let cb = long planes blue _ _ b (omega (arith, whole, inside)) in
    let cr = long planes red _ _ r (omega (arith, whole, inside)) in
    (omega (arith, u), omega (arith, l), omega (arith, cb), omega (arith, cr))
