-- What the conditions of a placement give for each cell of its box, and what a canvas is after one more cell.
use Rattle.std.proofs.Common.{◌≡◌, ◌≢◌, ℕ, ◌<◌, [], length, refl, ap, sym, ◌∙◌, subst, arith, ⊎_elim}
use Rattle.std.proofs.lemmas.Bool.{cases_eq}
use Rattle.std.proofs.lemmas.Int.{ints}
use Rattle.std.specs.Prelude.{Option, Some, None, IsSome, IfSome, unwrap_or}
use Rattle.cells.specs.declared.place.At.{At}
use Rattle.cells.specs.declared.place.Size.{Size}
use Rattle.cells.specs.Places.{IsInside, IsSmall, HasAxes, SumFits, index_in, place_of, plus, minus}
use Rattle.cells.specs.Cells.{Cells, IsCell, IsVolume, HasCell, IsInsideOf, cell_at, put_cell}
use Rattle.cells.proofs.Raster.{index_below, has_index, one_place}
use Rattle.cells.proofs.BoxLaws.{box_small, box_inside, box_sum_fits, plus_minus}
use Rattle.cells.proofs.CellLaws.{IfCell, indexed_has_cell, cell_is_cell, cell_at-put_same, cell_at-put_other, put_is_volume, length-set_nth, All-set_nth}
use Rattle.cells.proofs.PartBoxes.{cell_is_near, held_cell, held_sum_fits, inside_sum_fits}
use Rattle.map_canvas.specs.declared.canvas.Placement.{Placement}
use Rattle.map_canvas.specs.Maps.{IsSource, map_at, with_source, sample_cell}
use Rattle.map_canvas.specs.Canvases.{CanvasState, IsCanvas, StandsOver}
use Rattle.map_canvas.specs.Choices.{Fits, HasNewSources, IsNewSource, box_count, box_cell, box_source}
use Rattle.map_canvas.proofs.ChoiceLaws.{map_at-with_same, map_at-with_other}

module _ (output : Size) (sample : Cells) (placement : Placement) (fits : Fits output sample placement) where
  pub fits_small : IsSmall output → IsSmall placement.rect.size
  fits_small small = box_small output placement.rect.corner placement.rect.size small fits.some fits.inside

  pub fits_cell : (i : ℕ) → i < box_count placement → IsInside output (box_cell placement i)
  fits_cell i lt = box_inside output placement.rect.corner placement.rect.size i fits.inside fits.some lt

  pub fits_cell_sum : HasAxes output → (i : ℕ) → i < box_count placement → SumFits placement.rect.corner (place_of placement.rect.size i)
  fits_cell_sum axes i lt = box_sum_fits output placement.rect.corner placement.rect.size i axes fits.inside fits.some lt

  pub fits_source_sum : IsVolume sample → (i : ℕ) → i < box_count placement → SumFits placement.from (place_of placement.rect.size i)
  fits_source_sum is i lt = held_sum_fits sample is placement.from placement.rect.size i fits.some fits.sources lt

  pub fits_source : IsVolume sample → (i : ℕ) → i < box_count placement → HasCell sample (box_source placement i)
  fits_source is i lt = held_cell sample is placement.from placement.rect.size i fits.some fits.sources lt

-- a place with a cell may be a source
pub cell_is_source : (sample : Cells) → IsVolume sample → (from : At) → HasCell sample from → IsSource from
cell_is_source sample is from has =
    let near = cell_is_near sample is from has in
    record {
      x = (near.x.0, omega (arith, ints, near.x.1));
      y = (near.y.0, omega (arith, ints, near.y.1));
      f = (near.f.0, omega (arith, ints, near.f.1));
    }

-- a placement that fits gives each cell of its box a new source
pub step_source : (output : Size) (sample : Cells) (placement : Placement) → Fits output sample placement → IsVolume sample → (step : At) → IsInside placement.rect.size step → IsNewSource sample (plus placement.from step)
step_source output sample placement fits is step inside =
    let has = indexed_has_cell sample is.count (plus placement.from step) (fits.sources (plus placement.from step) (subst (IsInside placement.rect.size) (sym (plus_minus placement.from step)) inside)) in
    record { cell = has; source = cell_is_source sample is (plus placement.from step) has }

pub step_inside : (output : Size) (sample : Cells) (placement : Placement) → Fits output sample placement → (step : At) → IsInside placement.rect.size step → IsInsideOf sample (plus placement.from step)
step_inside output sample placement fits step inside = fits.sources (plus placement.from step) (subst (IsInside placement.rect.size) (sym (plus_minus placement.from step)) inside)

pub step_sum : (output : Size) (sample : Cells) (placement : Placement) → Fits output sample placement → IsVolume sample → (step : At) → IsInside placement.rect.size step → SumFits placement.from step
step_sum output sample placement fits is step inside = inside_sum_fits sample is placement.from step (step_inside output sample placement fits step inside)

pub new_sources : (output : Size) (sample : Cells) (placement : Placement) → Fits output sample placement → IsVolume sample → HasNewSources sample placement
new_sources output sample placement fits is = record {
  cells = λ p inside. step_source output sample placement fits is (minus p placement.rect.corner) inside;
  steps = step_source output sample placement fits is;
  sums = step_sum output sample placement fits is;
}

-- one more cell of a canvas
abbrev pub filled : CanvasState → Cells → At → At → CanvasState
filled canvas sample p from = record { map = with_source canvas.map p from; picture = put_cell canvas.picture p (sample_cell sample (Some from)) }

some_of : {A : Type 0} (o : Option A) (d : A) → IsSome o → o ≡ Some (unwrap_or o d)
some_of o d some = has_index o d some

sample_cell_is : (sample : Cells) (from : At) → HasCell sample from → cell_at sample from ≡ Some (sample_cell sample (Some from))
sample_cell_is sample from has = some_of (cell_at sample from) [] has

module _ (canvas : CanvasState) (sample : Cells) (p from : At) (o : ℕ) (is : IsCanvas canvas) (stands : StandsOver canvas sample) (volume : IsVolume sample) (at : index_in canvas.map.size p ≡ Some o) (has : HasCell sample from) where
  cell : IsCell sample.k (sample_cell sample (Some from))
  cell = subst (IfCell sample.k) (sample_cell_is sample from has) (cell_is_cell sample volume from)

  pub filled_is : IsCanvas (filled canvas sample p from)
  filled_is = record {
    map = record {
      small = is.map.small;
      count = length-set_nth canvas.map.sources (index_in canvas.map.size p) (Some from) ∙ is.map.count;
      sources = All-set_nth (λ source. IfSome source IsSource) canvas.map.sources (index_in canvas.map.size p) (Some from) (cell_is_source sample volume from has) is.map.sources;
    };
    picture = put_is_volume canvas.picture is.picture p (sample_cell sample (Some from)) (subst (λ k. IsCell k (sample_cell sample (Some from))) (sym stands.samples) cell);
    size = is.size;
    part = is.part;
  }

  in_picture : IsInside canvas.picture.size p
  in_picture = subst (λ s. IsInside s p) (sym is.size) (subst IsSome (sym at) refl)

  in_map : o < length canvas.map.sources
  in_map = subst (λ n. o < n) (sym is.map.count) (index_below canvas.map.size p o at)

  -- what holds of the filled cell and of any other
  split : (P : At → At → Type 0) → P p from → ((q f : At) → p ≢ q → map_at canvas.map q ≡ Some f → P q f) → (q f : At) → map_at (with_source canvas.map p from) q ≡ Some f → P q f
  split P here other q f e = by (index_in canvas.map.size q) refl
    where
      apart_case : p ≢ q → P q f
      apart_case apart = other q f apart (sym (map_at-with_other canvas.map p q from apart) ∙ e)

      same_case : p ≡ q → P q f
      same_case same =
          let found : Some from ≡ Some f = sym (map_at-with_same canvas.map p from o at in_map) ∙ ap (map_at (with_source canvas.map p from)) same ∙ e in
          let source : from ≡ f = cc in
          subst (λ t. P t f) same (subst (P p) source here)

      by : (j : Option ℕ) → index_in canvas.map.size q ≡ j → P q f
      by None out = apart_case (λ same. let no : Some o ≡ None = sym at ∙ ap (index_in canvas.map.size) same ∙ out in cc)
      by (Some j) ej = ⊎_elim (λ is_o. same_case (one_place canvas.map.size p q o at (ej ∙ ap Some is_o)))
          (λ differ. apart_case (λ same. differ (let both : Some j ≡ Some o = sym ej ∙ ap (index_in canvas.map.size) (sym same) ∙ at in cc))) (cases_eq j o)

  pub filled_stands : StandsOver (filled canvas sample p from) sample
  filled_stands = record {
    samples = stands.samples;
    over = split (λ q f. HasCell sample f) has (λ q f apart e. stands.over q f e);
    bytes = split (λ q f. cell_at (put_cell canvas.picture p (sample_cell sample (Some from))) q ≡ cell_at sample f)
        (cell_at-put_same canvas.picture is.picture p (sample_cell sample (Some from)) in_picture ∙ sym (sample_cell_is sample from has))
        (λ q f apart e. cell_at-put_other canvas.picture p q (sample_cell sample (Some from)) apart ∙ stands.bytes q f e);
  }
