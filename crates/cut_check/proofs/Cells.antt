-- The cells of a placement's box by their indices and their counts.
use Rattle.std.proofs.Common.{◌≡◌, ℕ, ◌<◌, refl, ap, ◌∙◌, sym, subst, Bool, List}
use Rattle.std.specs.Prelude.{pos, Some, IsSome}
use Rattle.cells.specs.declared.place.At.{At}
use Rattle.cells.specs.Boxes.{HoldsBox, IsInBox, cell_in}
use Rattle.cells.specs.Cells.{Cells, Holds, IsInsideOf, IsVolume}
use Rattle.cells.specs.Places.{IsInside, SumFits, cell_count, plus, spot}
use Rattle.cells.proofs.BoxLaws.{plus_minus}
use Rattle.cells.proofs.CellLaws.{indexed_has_cell}
use Rattle.cells.proofs.PartBoxes.{inside_sum_fits}
use Rattle.cells.proofs.Raster.{index_of_spot, place_at}
use Rattle.map_canvas.specs.declared.canvas.Placement.{Placement}
use Rattle.map_canvas.specs.Choices.{box_cell, box_index, new_source}
use Rattle.map_canvas.specs.Maps.{SourceMap, IsFilled, IsSource}
use Rattle.map_canvas.proofs.ChoiceLaws.{box_index_of}
use Rattle.map_canvas.proofs.Filling.{cell_is_source}
use Rattle.boxes.specs.declared.counts.Counts.{Counts}
use Rattle.boxes.specs.Pairs.{AreCounts, at_index}
use Rattle.boxes.specs.Raster.{largest}
use Rattle.boxes.proofs.Indices.{counts_below}
use Rattle.costs.specs.Lawful.{StaysOld}
use Rattle.costs.proofs.Near.{in_largest}
use Rattle.cut_check.specs.declared.record.CutRecord.{CutRecord}
use Rattle.cut_check.specs.Flows.{leaving}
use Rattle.cut_check.specs.Records.{IsBalanced, setting}
use Rattle.cut_check.specs.Steps.{IsAt, LiesIn}

-- the counts at an index of the box are those of a cell
pub counts_in : (placement : Placement) (i : ℕ) (at : Counts) → IsAt placement.rect.size i at → i < cell_count placement.rect.size
    → AreCounts placement.rect.size at.x at.y at.f
counts_in placement i at is lt = counts_below placement.rect.size i at.x at.y at.f is lt

-- the box lies in the largest output
pub holds_largest : (m : SourceMap) (placement : Placement) → LiesIn m placement → HoldsBox largest placement.rect.corner placement.rect.size
holds_largest m placement lies = in_largest m.size placement.rect.corner placement.rect.size lies.map.small lies.inside

-- the index of the cell at an index
pub index_at : (m : SourceMap) (placement : Placement) (p : At) (i : ℕ) → LiesIn m placement → i < cell_count placement.rect.size → p ≡ box_cell placement i → box_index placement p ≡ Some i
index_at m placement p i lies lt e = ap (box_index placement) e ∙ box_index_of placement i (place_at placement.rect.size i lies.some.w lies.some.h lt)

-- it is one of the box's
pub in_box_at : (m : SourceMap) (placement : Placement) (i : ℕ) → LiesIn m placement → i < cell_count placement.rect.size → IsInBox placement.rect (box_cell placement i)
in_box_at m placement i lies lt = subst IsSome (sym (index_at m placement (box_cell placement i) i lies lt refl)) refl

source_inside : (sample : Cells) (placement : Placement) (x y f : ℕ) → Holds sample placement.from placement.rect.size → AreCounts placement.rect.size x y f → IsInsideOf sample (plus placement.from (spot x y f))
source_inside sample placement x y f holds counts =
    holds (plus placement.from (spot x y f))
    (subst (IsInside placement.rect.size) (sym (plus_minus placement.from (spot x y f))) (subst IsSome (sym (index_of_spot placement.rect.size x y f counts.column counts.row counts.frame)) refl))

-- its new source
pub source_sum_fits : (sample : Cells) (placement : Placement) (x y f : ℕ) → IsVolume sample → Holds sample placement.from placement.rect.size → AreCounts placement.rect.size x y f
    → SumFits placement.from (spot x y f)
source_sum_fits sample placement x y f is holds counts =
    inside_sum_fits sample is placement.from (spot x y f) (source_inside sample placement x y f holds counts)

pub new_source_is : (placement : Placement) (x y f : ℕ) → plus placement.from (spot x y f) ≡ new_source placement (cell_in placement.rect x y f)
new_source_is placement x y f = ap (plus placement.from) (sym (plus_minus placement.rect.corner (spot x y f)))

pub new_source_near : (sample : Cells) (placement : Placement) (x y f : ℕ) → IsVolume sample → Holds sample placement.from placement.rect.size → AreCounts placement.rect.size x y f
    → IsSource (plus placement.from (spot x y f))
new_source_near sample placement x y f is holds counts =
    cell_is_source sample is (plus placement.from (spot x y f)) (indexed_has_cell sample is.count (plus placement.from (spot x y f)) (source_inside sample placement x y f holds counts))

-- a free cell that something leaves isn't balanced
pub unbalanced_free : (m : SourceMap) (sample : Cells) (held : List Bool) (cut : CutRecord) (i : ℕ) (p : At) → p ≡ box_cell cut.placement i → IsInBox cut.placement.rect (box_cell cut.placement i)
    → IsFilled m p → (StaysOld m cut.placement held p → ⊥)
    → (at_index cut.placement.rect.size (leaving cut.placement.rect.size cut.flows) i ≡ pos 0 → ⊥) → IsBalanced (setting m sample held) cut i → ⊥
unbalanced_free m sample held cut i p e inside filled free some balanced =
    some (balanced (record { inside = inside; filled = subst (IsFilled m) e filled; free = λ old. free (subst (StaysOld m cut.placement held) (sym e) old) }))
