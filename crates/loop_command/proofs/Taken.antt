-- The frames of a sample along a walk: each cell is the sample's that the frame map names, they are a volume, and a clip of them has the sample's frames.
use Rattle.std.proofs.Common.{◌≡◌, ℕ, ◌<◌, ◌≤◌, ◌+◌, ◌*◌, List, [], ◌++◌, length, get_or, refl, ap, sym, ◌∙◌, subst, arith, slice_index}
use Rattle.std.proofs.lemmas.List.{length-map}
use Rattle.std.proofs.lemmas.List.Elements.{All-from_get_or}
use Rattle.std.proofs.lemmas.Option.{slice_get-map, slice_get-get_or}
use Rattle.std.specs.Prelude.{Some, IsSome, All, map, option_map, slice_get, unwrap_or, codes}
use Rattle.cells.specs.declared.place.At.{At}
use Rattle.cells.specs.declared.place.Size.{Size}
use Rattle.cells.specs.Places.{HasAxes, IsInside, cell_count, index_in, place_of, places, spot}
use Rattle.cells.specs.Cells.{Cells, IsCell, IsVolume, cell_at}
use Rattle.cells.proofs.Raster.{has_index, index_below, index_of_spot, index_parts, one_place, place_at}
use Rattle.cells.proofs.PlaceLists.{count_over, entry_over}
use Rattle.cells.proofs.CellLaws.{IfCell, cell_at-index, cell_is_cell, inside_has_cell}
use Rattle.map_canvas.specs.Maps.{sample_cell}
use Rattle.source_map.specs.MapFiles.{frame_source}
use Rattle.y4m_clip.specs.declared.form.ClipForm.{ClipForm}
use Rattle.y4m_clip.specs.declared.form.SpaceKind.{SpaceKind}
use Rattle.y4m_clip.specs.declared.form.SpaceKind.TheVariants.{Mono, C444, C422, C411, C420}
use Rattle.y4m_clip.specs.Spaces.{joined_to}
use Rattle.y4m_clip.specs.Clips.{span}
use Rattle.y4m_clip.specs.Writing.{written_cell, clip_form, frame_form, line_form, plane_of, planes_of, row_samples, writer_of}
use Rattle.y4m_clip.proofs.Laying.{same_joined}
use Rattle.loop_command.specs.Loops.{frames_taken, loop_size}
use Rattle.loop_command.specs.LoopOuts.{walked_clip}

module _ (sample : Cells) (is : IsVolume sample) (walk : List ℕ) (frames : All (λ frame. frame < sample.size.f) walk) where
  abbrev size : Size
  size = loop_size sample (length walk)

  abbrev taken : Cells
  taken = frames_taken sample walk

  -- the source that the map names for a place
  source_at : (x y i : ℕ) → i < length walk → frame_source walk (spot x y i) ≡ Some (spot x y (slice_index walk i))
  source_at x y i lt = ap (option_map (λ e. spot x y e)) (slice_get-get_or walk i 0 lt)

  -- the cell with an index
  cell_numbered : (n : ℕ) → n < cell_count size → slice_get taken.cells n ≡ Some (sample_cell sample (frame_source walk (place_of size n)))
  cell_numbered n lt = slice_get-map (sample_cell sample) (map (frame_source walk) (places size)) n ∙ ap (option_map (sample_cell sample)) (entry_over (frame_source walk) size n lt)

  -- the sample has a cell there
  sample_has : (x y i : ℕ) → x < sample.size.w → y < sample.size.h → i < length walk
      → cell_at sample (spot x y (slice_index walk i)) ≡ Some (sample_cell sample (Some (spot x y (slice_index walk i))))
  sample_has x y i lx ly li =
      let f : ℕ = slice_index walk i in
      let inside : IsInside sample.size (spot x y f) = subst IsSome (sym (index_of_spot sample.size x y f lx ly (frames i 0 li))) refl in
      has_index (cell_at sample (spot x y f)) [] (inside_has_cell sample is (spot x y f) inside)

  taken_at : (x y i : ℕ) → x < sample.size.w → y < sample.size.h → i < length walk → cell_at taken (spot x y i) ≡ cell_at sample (spot x y (slice_index walk i))
  taken_at x y i lx ly li =
      let n : ℕ = x + size.w * (y + size.h * i) in
      let at : index_in size (spot x y i) ≡ Some n = index_of_spot size x y i lx ly li in
      let below : n < cell_count size = index_below size (spot x y i) n at in
      let here : place_of size n ≡ spot x y i = one_place size (place_of size n) (spot x y i) n (place_at size n (omega (arith, lx)) (omega (arith, ly)) below) at in
      cell_at-index taken (spot x y i) n at ∙ cell_numbered n below
      ∙ ap (λ p. Some (sample_cell sample (frame_source walk p))) here
      ∙ ap (λ o. Some (sample_cell sample o)) (source_at x y i li)
      ∙ sym (sample_has x y i lx ly li)

  -- each cell is the sample's cell that the map names
  pub taken_cells : (p from : At) → IsInside size p → frame_source walk p ≡ Some from → cell_at taken p ≡ cell_at sample from
  taken_cells p from inside named =
      let n : ℕ = unwrap_or (index_in size p) 0 in
      let parts = index_parts size p n (has_index (index_in size p) 0 inside) in
      let q : At = spot parts.x parts.y parts.f in
      let there : p ≡ q = λ k. record { x = parts.x_on.is k; y = parts.y_on.is k; f = parts.f_on.is k } in
      let both : Some from ≡ Some (spot parts.x parts.y (slice_index walk parts.f)) = sym named ∙ ap (frame_source walk) there ∙ source_at parts.x parts.y parts.f parts.f_on.below in
      let source : from ≡ spot parts.x parts.y (slice_index walk parts.f) = cc in
      ap (cell_at taken) there ∙ taken_at parts.x parts.y parts.f parts.x_on.below parts.y_on.below parts.f_on.below ∙ ap (cell_at sample) (sym source)

  -- they are a volume
  count : length taken.cells ≡ cell_count size
  count = length-map (map (frame_source walk) (places size)) (sample_cell sample) ∙ count_over (frame_source walk) size

  each_cell : (n : ℕ) → n < length taken.cells → IsCell sample.k (get_or taken.cells n [])
  each_cell n lt =
      let below : n < cell_count size = subst (λ m. n < m) count lt in
      let some = is.small.axes in
      let at : index_in size (place_of size n) ≡ Some n = place_at size n some.w.0 some.h.0 below in
      let parts = index_parts size (place_of size n) n at in
      let there : place_of size n ≡ spot parts.x parts.y parts.f = λ k. record { x = parts.x_on.is k; y = parts.y_on.is k; f = parts.f_on.is k } in
      let same : cell_at sample (spot parts.x parts.y (slice_index walk parts.f)) ≡ Some (get_or taken.cells n []) =
      sym (taken_at parts.x parts.y parts.f parts.x_on.below parts.y_on.below parts.f_on.below) ∙ ap (cell_at taken) (sym there)
      ∙ cell_at-index taken (place_of size n) n at ∙ slice_get-get_or taken.cells n [] lt in
      subst (IfCell sample.k) same (cell_is_cell sample is (spot parts.x parts.y (slice_index walk parts.f)))

  pub taken_is_volume : 1 ≤ length walk → length walk ≤ 4096 → cell_count size ≤ 33554432 → IsVolume taken
  taken_is_volume some few cells =
      let axes : HasAxes size = record { w = is.small.axes.w; h = is.small.axes.h; f = (some, few) } in
      record {
        small = record { axes = axes; cells = cells };
        parts = record { few = omega arith; first = axes; others = tt; cells = cells };
        samples = is.samples;
        count = count;
        cells = All-from_get_or (IsCell sample.k) taken.cells [] each_cell;
      }

  -- a frame of them is a frame of the sample
  module _ (i : ℕ) (li : i < length walk) where
    abbrev f : ℕ
    f = slice_index walk i

    same_cell : (y x : ℕ) → y < sample.size.h → x < sample.size.w → written_cell taken i y x ≡ written_cell sample f y x
    same_cell y x ly lx = ap (λ o. unwrap_or o []) (taken_at x y i lx ly li)

    same_row : (y start many : ℕ) → y < sample.size.h → row_samples taken i y start many ≡ row_samples sample f y start many
    same_row y start many ly = same_joined sample.size.w (λ x. span (written_cell taken i y x) start many) (λ x. span (written_cell sample f y x) start many) (λ x lx. ap (λ cell. span cell start many) (same_cell y x ly lx))

    same_plane : (start many rows : ℕ) → plane_of taken i start many rows ≡ plane_of sample f start many rows
    same_plane start many rows =
        same_joined sample.size.h (λ y. joined_to rows (λ j. row_samples taken i y (start + many * j) many)) (λ y. joined_to rows (λ j. row_samples sample f y (start + many * j) many))
        (λ y ly. same_joined rows (λ j. row_samples taken i y (start + many * j) many) (λ j. row_samples sample f y (start + many * j) many) (λ j lj. same_row y (start + many * j) many ly))

    same_planes : (kind : SpaceKind) → planes_of kind taken i ≡ planes_of kind sample f
    same_planes Mono = same_plane 0 1 1
    same_planes C444 = λ k. same_plane 0 1 1 k ++ same_plane 1 1 1 k ++ same_plane 2 1 1 k
    same_planes C422 = λ k. same_plane 0 2 1 k ++ same_plane 2 1 1 k ++ same_plane 3 1 1 k
    same_planes C411 = λ k. same_plane 0 4 1 k ++ same_plane 4 1 1 k ++ same_plane 5 1 1 k
    same_planes C420 = λ k. same_plane 0 2 2 k ++ same_plane 4 1 1 k ++ same_plane 5 1 1 k

    same_frame : (kind : SpaceKind) → frame_form kind taken i ≡ frame_form kind sample f
    same_frame kind = ap (λ planes. codes "FRAME\n" ++ planes) (same_planes kind)

  -- so the frames of the sample along the walk, after the line of the clip, are the clip of them
  pub taken_clip : (form : ClipForm) → walked_clip (writer_of form size) sample walk ≡ clip_form form taken
  taken_clip form =
      ap (λ text. line_form form size ++ text)
      (same_joined (length walk) (λ i. frame_form form.space sample (slice_index walk i)) (frame_form form.space taken) (λ i li. sym (same_frame i li form.space)))
