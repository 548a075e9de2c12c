-- Tables that stand for errors: one more entry, and lists of one box.
use Rattle.std.proofs.Common.{◌≡◌, ℕ, ◌<◌, List, [], ◌∷◌, ◌++◌, length, map, sym, subst, ◌∙◌, inl, inr, refl}
use Rattle.std.proofs.lemmas.List.Elements.{All-map, AllZip-push, Contains-append_left}
use Rattle.std.specs.Prelude.{◌⊎◌, All, Some, slice_get}
use Rattle.match_error.specs.declared.error.Error.{Error}
use Rattle.cells.specs.declared.place.Box3.{Box3}
use Rattle.cells.specs.declared.place.Size.{Size}
use Rattle.cells.specs.Boxes.{HasCells, HoldsBox}
use Rattle.cells.specs.Cells.{Cells, sizes_of}
use Rattle.map_canvas.specs.declared.canvas.Placement.{Placement}
use Rattle.map_canvas.specs.Canvases.{CanvasState}
use Rattle.map_canvas.specs.Choices.{Fits, laid_from}
use Rattle.patch_place.specs.BoxErrors.{AreCounted}
use Rattle.patch_picks.specs.Lists.{fit_list, from_part, part_lists, room}
use Rattle.patch_place.specs.declared.overlaps.Overlaps.{Overlaps}
use Rattle.patch_place.specs.Overlaps.{IsOverlap}
use Rattle.patch_place.specs.Tables.{AreErrorsAmong, IsBeaten, IsUnfilled, StandsForError}
use Rattle.patch_picks.proofs.Counting.{All-each, All-slice_get, AllZip-same, AllZip-weaker, first_at}
use Rattle.patch_picks.proofs.Fitting.{all_over, over_parts}

still_beaten : (tol : ℕ) (table : List Error) (entry error : Error) → IsBeaten tol table error → IsBeaten tol (table ++ entry ∷ []) error
still_beaten tol table entry error is = record {
  other = is.other;
  listed = Contains-append_left table (entry ∷ []) is.other is.listed;
  filled = is.filled;
  far = is.far;
}

still_stands : (tol : ℕ) (table : List Error) (more entry error : Error) → StandsForError tol table entry error → StandsForError tol (table ++ more ∷ []) entry error
still_stands tol table more entry error stands =
    elim stands [
      | inl same ↦ inl same
      | inr other ↦ inr (other.0, why other.1)
    ]
  where
    why : IsUnfilled error ⊎ IsBeaten tol table error → IsUnfilled error ⊎ IsBeaten tol (table ++ more ∷ []) error
    why is =
        elim is [
          | inl unfilled ↦ inl unfilled
          | inr beaten ↦ inr (still_beaten tol table more error beaten)
        ]

-- one more entry of a table, which stands for an error
pub table_more : (tol : ℕ) (among table errors : List Error) (entry error : Error) → AreErrorsAmong tol among table errors → StandsForError tol among entry error → AreErrorsAmong tol (among ++ entry ∷ []) (table ++ entry ∷ []) (errors ++ error ∷ [])
table_more tol among table errors entry error stands one =
    AllZip-push (StandsForError tol (among ++ entry ∷ [])) table errors entry error
    (AllZip-weaker (StandsForError tol among) (StandsForError tol (among ++ entry ∷ [])) (still_stands tol among entry) table errors stands)
    (still_stands tol among entry entry error one)

-- each entry of a box's list has the box
has_box : (sample : Cells) (rect : Box3) → All (λ (placement : Placement). placement.rect ≡ rect) (part_lists (fit_list rect) sample)
has_box sample rect =
    over_parts (λ placement. placement.rect ≡ rect) (fit_list rect) sample
    (λ number n part e at. all_over (λ placement. (from_part (sizes_of sample) number placement).rect ≡ rect) (laid_from rect) (room part rect.size) (λ i lt. refl))

same_box : (sample : Cells) (rect : Box3) (i : ℕ) (placement : Placement) → slice_get (part_lists (fit_list rect) sample) i ≡ Some placement → placement.rect ≡ rect
same_box sample rect i placement at = All-slice_get (λ (placement : Placement). placement.rect ≡ rect) (part_lists (fit_list rect) sample) i placement (has_box sample rect) at

-- the box of a list with an entry lies in the output
pub box_inside : (output : Size) (sample : Cells) (rect : Box3) → 0 < length (part_lists (fit_list rect) sample) → All (Fits output sample) (part_lists (fit_list rect) sample) → HoldsBox output rect.corner rect.size
box_inside output sample rect some all =
    let first = first_at (part_lists (fit_list rect) sample) some in
    let fits = All-slice_get (Fits output sample) (part_lists (fit_list rect) sample) 0 first.0 all first.1 in
    subst (λ (r : Box3). HoldsBox output r.corner r.size) (same_box sample rect 0 first.0 first.1) fits.inside

-- errors whose count is 0 have no filled cells
pub uncounted : (error : Placement → Error) (MayAsk : Placement → Type 0) (count : ℕ) → AreCounted error MayAsk count → count ≡ 0 → (list : List Placement) → All MayAsk list → All IsUnfilled (map error list)
uncounted error MayAsk count counted none list asked =
    All-map IsUnfilled error list (All-each (λ placement. IsUnfilled (error placement)) list
    (λ i placement at. counted.same placement (All-slice_get MayAsk list i placement asked at) ∙ none))

-- errors without filled cells stand for themselves
pub unfilled_stand : (tol : ℕ) (among errors : List Error) → AreErrorsAmong tol among errors errors
unfilled_stand tol among errors = AllZip-same (StandsForError tol among) (λ error. inl refl) errors

-- and has a cell
pub box_has_cells : (output : Size) (sample : Cells) (rect : Box3) → 0 < length (part_lists (fit_list rect) sample) → All (Fits output sample) (part_lists (fit_list rect) sample) → HasCells rect.size
box_has_cells output sample rect some all =
    let first = first_at (part_lists (fit_list rect) sample) some in
    let fits = All-slice_get (Fits output sample) (part_lists (fit_list rect) sample) 0 first.0 all first.1 in
    subst (λ (r : Box3). HasCells r.size) (same_box sample rect 0 first.0 first.1) fits.some

-- the placements of a box that fit are those that its overlap errors may be asked for
pub overlaps_asked : (o : Overlaps) (canvas : CanvasState) (sample : Cells) (rect : Box3) → o.canvas.now ≡ canvas → o.sample.now ≡ sample → o.rect ≡ rect → All (Fits canvas.map.size sample) (part_lists (fit_list rect) sample) → All (IsOverlap o) (part_lists (fit_list rect) sample)
overlaps_asked o canvas sample rect canvas_is sample_is rect_is all =
    let list = part_lists (fit_list rect) sample in
    All-each (IsOverlap o) list (λ i placement at. record {
      box = same_box sample rect i placement at ∙ sym rect_is;
      fits =
          subst (λ v. Fits o.canvas.now.map.size v placement) (sym sample_is)
          (subst (λ (c : CanvasState). Fits c.map.size sample placement) (sym canvas_is) (All-slice_get (Fits canvas.map.size sample) list i placement all at));
    })
