-- The files of runs stand: of cuts, of blocks and of a walk.
use Rattle.std.proofs.Common.{◌≡◌, ◌∙◌, ◌+◌, ◌*◌, ◌/◌, ◌%◌, ◌<◌, ℕ, zero, suc, true, List, [], ◌∷◌, length, get_or, refl, sym, ap, subst, arith}
use Rattle.std.proofs.lemmas.Option.{slice_get-get_or}
use Rattle.std.proofs.lemmas.Bool.Decides.{Decides-eqb}
use Rattle.std.specs.Prelude.{Some, IsSome, option_map, slice_get, unwrap_or}
use Rattle.cells.specs.declared.place.At.{At}
use Rattle.cells.specs.declared.place.Size.{Size}
use Rattle.cells.specs.Cells.{Cells, cell_at, sizes_of}
use Rattle.cells.specs.Places.{IsInside, cell_count, place_of, spot}
use Rattle.cells.proofs.Raster.{below_of_div, has_index, place_at}
use Rattle.map_canvas.specs.Maps.{SourceMap, IsFull, IsMap, empty_map, map_at}
use Rattle.source_map.specs.MapFiles.{frame_source}
use Rattle.cut_replay.specs.Replay.{EachStands, left_by}
use Rattle.block_check.specs.Several.{EachBlockStands, left_by_blocks}
use Rattle.y4m_clip.specs.declared.form.SpaceKind.{SpaceKind}
use Rattle.y4m_clip.specs.declared.form.SpaceKind.TheVariants.{Mono, C444, C422, C411, C420}
use Rattle.sample_files.specs.declared.form.Form.{Form}
use Rattle.sample_files.specs.declared.form.Form.TheVariants.{Picture, Clip}
use Rattle.sample_files.specs.Samples.{goes_with, same_space}
use Rattle.standing_files.specs.Standing.{IsCopied, IsLeftAt, LoopStands, NamesSizes, QuiltStands, RunStands}

one_space : (space : SpaceKind) → same_space space space ≡ true
one_space Mono = refl
one_space C444 = refl
one_space C422 = refl
one_space C411 = refl
one_space C420 = refl

pub goes_with_itself : (form : Form) → goes_with form form ≡ true
goes_with_itself (Picture maxval) = (Decides-eqb maxval maxval).1 refl
goes_with_itself (Clip form) = one_space form.space

-- each cell of a full map has a source
record HasSource (m : SourceMap) (i : ℕ) : Type 0 where
  pub from : At
  pub is : map_at m (place_of m.size i) ≡ Some from

named : (m : SourceMap) → IsMap m → IsFull m → (i : ℕ) → i < cell_count m.size → HasSource m i
named m is full i lt =
    let inside : IsInside m.size (place_of m.size i) = subst IsSome (sym (place_at m.size i is.small.axes.w.0 is.small.axes.h.0 lt)) refl in
    record {
      from = unwrap_or (map_at m (place_of m.size i)) (spot 0 0 0);
      is = has_index (map_at m (place_of m.size i)) (spot 0 0 0) (full (place_of m.size i) inside);
    }

sizes_named : (samples picture : Cells) (size : Size) → picture.size ≡ size → picture.more ≡ [] → NamesSizes (sizes_of samples) (sizes_of picture) size (sizes_of samples)
sizes_named samples picture size same one = record { output_is = cc; samples_are = refl }

-- a full map that is left is that of the map file, and a picture of its cells is copied
module _ (m : SourceMap) (is : IsMap m) (full : IsFull m) where
  map_left : (left : SourceMap) → left ≡ m → (i : ℕ) → i < cell_count m.size → IsLeftAt left m i
  map_left left same i lt =
      let there = named m is full i lt in
      record { from = there.from; left_is = ap (λ left. map_at left (place_of m.size i)) same ∙ there.is; map_is = there.is }

  map_copied : (samples picture : Cells) → ((p from : At) → map_at m p ≡ Some from → cell_at picture p ≡ cell_at samples from)
      → (i : ℕ) → i < cell_count m.size → IsCopied samples picture (map_at m (place_of m.size i)) (place_of m.size i)
  map_copied samples picture cells i lt =
      let there = named m is full i lt in
      record { from = there.from; named = there.is; same = cells (place_of m.size i) there.from there.is }

pub run_stands : RunStands
run_stands samples size cuts m picture of_map of_record_file run =
    let replays : left_by (empty_map m.size) cuts ≡ m = ap (λ (size : Size). left_by (empty_map size) cuts) run.asked ∙ run.replays in
    record {
      together = record {
        map_sizes = sizes_named samples.volume picture m.size (run.size_is ∙ sym run.asked) run.one;
        record_file_sizes = sizes_named samples.volume picture size run.size_is run.one;
        form = goes_with_itself samples.form;
        takes = tt;
        kinds = tt;
      };
      records = subst (λ (size : Size). EachStands samples.volume (empty_map size) cuts) (sym run.asked) run.stand;
      left = map_left m run.is_map run.full (left_by (empty_map m.size) cuts) replays;
      copied = map_copied m run.is_map run.full samples.volume picture run.cells;
    }

pub quilt_stands : QuiltStands
quilt_stands maxval sample size blocks m picture of_map of_record_file run =
    let replays : left_by_blocks (empty_map m.size) blocks ≡ m = ap (λ (size : Size). left_by_blocks (empty_map size) blocks) run.asked ∙ run.replays in
    record {
      together = record {
        map_sizes = sizes_named sample picture m.size (run.size_is ∙ sym run.asked) run.one;
        record_file_sizes = sizes_named sample picture size run.size_is run.one;
        form = goes_with_itself (Picture maxval);
        takes = tt;
        kinds = tt;
      };
      records = subst (λ (size : Size). EachBlockStands sample (empty_map size) blocks) (sym run.asked) run.stand;
      left = map_left m run.is_map run.full (left_by_blocks (empty_map m.size) blocks) replays;
      copied = map_copied m run.is_map run.full sample picture run.cells;
    }

-- a product that is above a number has no factor 0
some_left : (a b p : ℕ) → p < a * b → 0 < a
some_left zero b p lt = absurd (omega arith)
some_left (suc a) b p lt = omega arith

-- the frame of a cell, and its place, are those of the size
record IsCellOf (size : Size) (i : ℕ) : Type 0 where
  pub frame : i / size.w / size.h < size.f
  pub inside : IsInside size (place_of size i)

cell_of : (size : Size) (i : ℕ) → i < cell_count size → IsCellOf size i
cell_of size i lt =
    let w : 0 < size.w = some_left size.w (size.h * size.f) i lt in
    let row : i / size.w < size.h * size.f = below_of_div size.w (size.h * size.f) i w lt in
    let h : 0 < size.h = some_left size.h size.f (i / size.w) row in
    record {
      frame = below_of_div size.h size.f (i / size.w) h row;
      inside = subst IsSome (sym (place_at size i w h lt)) refl;
    }

-- an entry of a frame map names the source of its cells
frame_named : (walk : List ℕ) (size : Size) (i : ℕ) → i / size.w / size.h < length walk
    → frame_source walk (place_of size i) ≡ Some (spot (i % size.w) (i / size.w % size.h) (get_or walk (i / size.w / size.h) 0))
frame_named walk size i lt = ap (option_map (λ e. spot (i % size.w) (i / size.w % size.h) e)) (slice_get-get_or walk (i / size.w / size.h) 0 lt)

pub loop_stands : LoopStands
loop_stands samples size taps gap walk tables clip of_record_file run = record {
  together = record {
    map_sizes = record {
      output_is = (sizes_named samples.volume clip size run.size_is run.one).output_is;
      samples_are = ap (λ (more : List Size). samples.volume.size ∷ more) run.one_sample;
    };
    record_file_sizes = sizes_named samples.volume clip size run.size_is run.one;
    form = goes_with_itself samples.form;
    takes = tt;
    kinds = run.frames;
  };
  records = run.stand;
  left = λ i lt.
      let there : slice_get walk i ≡ Some (get_or walk i 0) = slice_get-get_or walk i 0 (omega (arith, lt, run.frames)) in
      record { frame = get_or walk i 0; walk_is = there; map_is = there };
  copied = λ i lt.
      let cell = cell_of size i lt in
      let there = frame_named walk size i (omega (arith, cell.frame, run.frames)) in
      record {
        from = spot (i % size.w) (i / size.w % size.h) (get_or walk (i / size.w / size.h) 0);
        named = there;
        same = run.cells (place_of size i) _ cell.inside there;
      };
}
