-- A box of one frame has no pair along F, and there are three axes.
use Rattle.std.proofs.Common.{◌≡◌, ℕ, zero, suc, ◌+◌, ◌<◌, List, false, ap, sym, ◌∙◌, arith}
use borrow.Author.Tests.{le-ltb}
use mathlib.Core.Bool.{false≢true}
use Rattle.std.specs.Prelude.{◌-ℤ◌, nat_lt, pos}
use Rattle.cells.specs.declared.place.Axis.{Axis}
use Rattle.cells.specs.declared.place.Axis.TheVariants.{X, Y, F}
use Rattle.cells.specs.declared.place.At.{At}
use Rattle.cells.specs.declared.place.Size.{Size}
use Rattle.map_canvas.specs.Maps.{SourceMap}
use Rattle.boxes.specs.Pairs.{has_next}
use Rattle.cut_check.specs.declared.record.CutRecord.{CutRecord}
use Rattle.cut_check.specs.declared.record.Flow.{Flow}
use Rattle.cut_check.specs.Flows.{leaving_along}
use Rattle.cut_check.specs.Steps.{EachAxis, HoldsAlong}
use Rattle.cut_check.proofs.Leaving.{no_pair}

no_next : (size : Size) (x y f : ℕ) → size.f ≡ 1 → has_next size F x y f ≡ false
no_next size x y f one = ap (λ n. nat_lt (f + 1) n) one ∙ le-ltb (f + 1) 1 (omega arith)

pub holds_in_one : (d : At → At → ℕ) (m : SourceMap) (cut : CutRecord) (x y f : ℕ) → cut.placement.rect.size.f ≡ 1 → HoldsAlong d m cut x y f F
holds_in_one d m cut x y f one = λ next. absurd (false≢true (sym (no_next cut.placement.rect.size x y f one) ∙ next))

pub none_leaves : (size : Size) (flows : List Flow) (x y f : ℕ) → size.f ≡ 1 → f < size.f → leaving_along size flows F x y f ≡ pos 0
none_leaves size flows x y zero one below = ap (λ (flow : Flow). flow.x -ℤ pos 0) (no_pair size flows F x y zero (no_next size x y zero one))
none_leaves size flows x y (suc f) one below = absurd (omega (arith, one, below))

-- what holds along the three axes holds along each
pub each_axis : (Holds : Axis → Type 0) → Holds X → Holds Y → Holds F → EachAxis Holds
each_axis Holds x y f X = x
each_axis Holds x y f Y = y
each_axis Holds x y f F = f
