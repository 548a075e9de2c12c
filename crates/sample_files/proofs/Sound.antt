-- Bytes that stand for samples stand for sound ones.
use Rattle.std.proofs.Common.{◌≡◌, ℕ, zero, suc, ◌+◌, ◌*◌, ◌/◌, ◌<◌, ◌≤◌, List, [], ◌∷◌, length, take, drop, refl, sym, ap, ◌∙◌, subst, arith, true, eqb-true}
use Rattle.std.specs.Prelude.{All, map, slice_index}
use Rattle.std.specs.List.{AllByRecursion, concat}
use Rattle.std.proofs.Math.Nat.{mul-div-le, mul-le-mul_left}
use Rattle.std.proofs.lemmas.List.{take-append-drop}
use Rattle.std.proofs.lemmas.List.Elements.{All-append, All-drop, All-nil, All-take, recursion_from_All}
use Rattle.std.proofs.lemmas.List.Folds.{concat-append}
use Rattle.limits.specs.declared.bounds.TheConstants.{MOST_SAMPLE_CELLS}
use Rattle.cells.specs.declared.place.Size.{Size}
use Rattle.cells.specs.Cells.{Cells, IsVolume, bytes_of, cells_of, count_of, sizes_of}
use Rattle.cells.specs.PartLists.{parts_from, parts_of}
use Rattle.cells.specs.Places.{HasAxes, cell_count}
use Rattle.cells.proofs.Buffering.{is_volume}
use Rattle.netpbm_p6.specs.declared.picture.Picture.{Picture as ReadPicture}
use Rattle.netpbm_p6.specs.Pictures.{IsRead, IsSound, picture_size}
use Rattle.y4m_clip.specs.declared.form.ClipForm.{ClipForm}
use Rattle.y4m_clip.specs.Clips.{HasSpaceKind, cells_h, cells_w}
use Rattle.y4m_clip.specs.Refusals.{IsReadClip, IsSoundClip}
use Rattle.y4m_clip.specs.Spaces.{samples_of}
use Rattle.y4m_clip.proofs.FormLaws.{form_of_line}
use Rattle.sample_files.specs.declared.form.Form.{Form}
use Rattle.sample_files.specs.declared.form.Form.TheVariants.{Picture, Clip}
use Rattle.sample_files.specs.declared.several.Asked.{Asked}
use Rattle.sample_files.specs.declared.several.Samples.{Samples}
use Rattle.sample_files.specs.Samples.{AreSoundIn, IsPictureForm, IsSoundWithin, StandsAs, StandsWithin, goes_with}
use Rattle.sample_files.specs.Several.{AreSoundSeveral, StandAlike, StandForParts, StandForSeveral, StandsAlike}
use Rattle.sample_files.proofs.OneSample.{picture_in, stands_as}
use Rattle.sample_files.proofs.Joined.{first_part_k, first_part_size, sizes_of_parts}
use Rattle.sample_files.proofs.Turning.{with_turns-least}

-- what holds of each byte holds of the bytes of the cells that are made of them
cell_bytes : (P : ℕ → Type 0) (k n : ℕ) (bytes : List ℕ) → All P bytes → All P (concat (cells_of k n bytes))
cell_bytes P k zero bytes all = All-nil P
cell_bytes P k (suc n) bytes all = All-append P (take k bytes) (concat (cells_of k n (drop k bytes))) (All-take P k bytes all) (cell_bytes P k n (drop k bytes) (All-drop P k bytes all))

-- a picture that is read is a volume: no byte of it is above its maxval
small_bytes : (most : ℕ) → most < 256 → (bytes : List ℕ) → AllByRecursion (λ b. b ≤ most) bytes → (i : ℕ) → slice_index bytes i < 256
small_bytes most lt [] all i = omega arith
small_bytes most lt (b ∷ bytes) all zero = omega (arith, lt, all.0)
small_bytes most lt (b ∷ bytes) all (suc i) = small_bytes most lt bytes all.1 i

pub read_is_volume : (bytes : List ℕ) (picture : ReadPicture) → IsRead bytes picture → IsVolume picture.volume
read_is_volume bytes picture read =
    let p = read.stands in
    let h = p.headed in
    let size = picture_size h.width h.height in
    let axes : HasAxes size = record {
      w = (h.is_header.gives_width.counts.positive, omega (arith, read.limits.width_fits));
      h = (h.is_header.gives_height.counts.positive, omega (arith, read.limits.height_fits));
      f = (omega arith, omega arith);
    } in
    let one : h.height * 1 ≡ h.height = omega arith in
    let cells : cell_count size ≡ h.width * h.height = ap (λ n. h.width * n) one in
    subst IsVolume (sym p.volume) (is_volume size [] 3 h.raster (record {
      parts = record { few = omega arith; first = axes; others = tt; cells = omega (arith, cells, read.limits.cells_fit) };
      samples = (omega arith, omega arith);
      whole = p.whole ∙ ap (λ n. 3 * n) (sym cells);
    }) (small_bytes h.maxval (omega (arith, p.depth)) h.raster (recursion_from_All (λ b. b ≤ h.maxval) h.raster p.samples)))

-- and sound
pub read_is_sound : (bytes : List ℕ) (maxval : ℕ) (cells : Cells) → IsRead bytes (record { maxval = maxval; volume = cells }) → IsSound (record { maxval = maxval; volume = cells })
read_is_sound bytes maxval cells read =
    let p = read.stands in
    let h = p.headed in
    let size = picture_size h.width h.height in
    record {
      form = record {
        positive = subst (λ m. 1 ≤ m) (sym p.maxval) h.is_header.gives_maxval.counts.positive;
        fits = subst (λ m. m ≤ 255) (sym p.maxval) p.depth;
        volume_is = read_is_volume bytes (record { maxval = maxval; volume = cells }) read;
        one = ap (λ (v : Cells). v.more) p.volume;
        frames = ap (λ (v : Cells). v.size.f) p.volume;
        colours = ap (λ (v : Cells). v.k) p.volume;
        samples = subst (λ m. All (λ b. b ≤ m) (bytes_of cells)) (sym p.maxval)
            (subst (λ (v : Cells). All (λ b. b ≤ h.maxval) (bytes_of v)) (sym p.volume) (cell_bytes (λ b. b ≤ h.maxval) 3 (cell_count size) h.raster p.samples));
      };
      cells = subst (λ (v : Cells). count_of v ≤ MOST_SAMPLE_CELLS) (sym p.volume) (omega (arith, read.limits.cells_fit));
    }

-- a clip that is read is sound, too
clip_is_sound : (most : ℕ) (bytes : List ℕ) (form : ClipForm) (cells : Cells) → IsReadClip most bytes (record { form = form; volume = cells }) → IsSoundClip most (record { form = form; volume = cells })
clip_is_sound most bytes form cells read =
    let c = read.stands in
    let line = c.sized.lined in
    let kind = c.sized.kind in
    let w = cells_w line.tags kind in
    let h = cells_h line.tags kind in
    let f = length c.frames in
    let whole : w * h * f ≤ w * h * (most / (w * h)) = mul-le-mul_left (w * h) (omega (arith, read.few)) in
    let within = mul-div-le most (w * h) in
    let turned : w * (h * f) ≡ w * h * f = grind arith in
    record {
      form = form_of_line form line.line line.tags line.is_line c.tags (subst (HasSpaceKind line.tags) (sym c.space) c.sized.is_kind) read.fits.tags_fit;
      one = ap (λ (v : Cells). v.more) c.volume;
      samples = ap (λ (v : Cells). v.k) c.volume ∙ ap samples_of (sym c.space);
      cells = subst (λ (v : Cells). cell_count v.size ≤ most) (sym c.volume) (omega (arith, whole, within, turned));
    }

pub stands_is_sound : (most : ℕ) (bytes : List ℕ) (form : Form) (cells : Cells) → StandsWithin most bytes form cells → IsSoundWithin most form cells
stands_is_sound most bytes (Picture maxval) cells stands = read_is_sound bytes maxval cells stands
stands_is_sound most bytes (Clip form) cells stands = clip_is_sound most bytes form cells stands

-- Of each part, and so of all.

record PartsSound (maxval k : ℕ) (size : Size) (more : List Size) (cells : List (List ℕ)) : Type 0 where
  frames : AllByRecursion (λ (s : Size). s.f ≡ 1) (size ∷ more)
  samples : All (λ b. b ≤ maxval) (concat cells)

alike_sound : (asked : Asked) (maxval : ℕ) (size : Size) (bytes : List ℕ) (p : Cells) → StandsAlike asked (Picture maxval) size bytes p → IsSound (record { maxval = maxval; volume = p })
alike_sound asked maxval size bytes p a = by a.own a.goes.alike (stands_as asked.pictures bytes a.own p a.stands)
  where
    by : (own : Form) → goes_with (Picture maxval) own ≡ true → StandsAs bytes own p → IsSound (record { maxval = maxval; volume = p })
    by (Clip other) alike stands = absurd (cc)
    by (Picture other) alike stands = subst (λ n. IsSound (record { maxval = n; volume = p })) (sym (eqb-true maxval other alike)) (read_is_sound bytes other p stands)

whole : (P : ℕ → Type 0) (n : ℕ) (cells : List (List ℕ)) → All P (concat (take n cells)) → All P (concat (drop n cells)) → All P (concat cells)
whole P n cells front back = subst (All P) (sym (concat-append (take n cells) (drop n cells)) ∙ ap concat (take-append-drop n cells)) (All-append P (concat (take n cells)) (concat (drop n cells)) front back)

module _ (asked : Asked) where
  others_sound : (maxval k : ℕ) (its : Size) (files : List (List ℕ)) (size : Size) (more : List Size) (cells : List (List ℕ)) → StandAlike asked (Picture maxval) its files (parts_from k size more cells) → PartsSound maxval k size more cells
  others_sound maxval k its [] size [] cells a = absurd a
  others_sound maxval k its [] size (next ∷ more) cells a = absurd a
  others_sound maxval k its (file ∷ files) size [] cells a =
      let s = (alike_sound asked maxval its file _ a.0).form in
      record { frames = (s.frames, tt); samples = s.samples }
  others_sound maxval k its (file ∷ files) size (next ∷ more) cells a =
      let s = (alike_sound asked maxval its file _ a.0).form in
      let rest = others_sound maxval k its files next more (drop (cell_count size) cells) a.1 in
      record { frames = (s.frames, rest.frames); samples = whole (λ b. b ≤ maxval) (cell_count size) cells s.samples rest.samples }

  first_sound : (maxval : ℕ) (first : List ℕ) (more : List (List ℕ)) (v : Cells) → StandForParts asked (Picture maxval) first more (parts_of v) → AreSoundIn (Picture maxval) v
  first_sound maxval first files v = by v.size v.more v.cells
    where
      by : (size : Size) (more : List Size) (cells : List (List ℕ)) → StandForParts asked (Picture maxval) first files (parts_from v.k size more cells) → AreSoundIn (Picture maxval) (record { size = size; more = more; k = v.k; cells = cells })
      by size [] cells stand =
          let s = (read_is_sound first maxval _ (stands_as asked.pictures first (Picture maxval) _ stand.0)).form in
          record { positive = s.positive; fits = s.fits; colours = s.colours; frames = (s.frames, tt); samples = s.samples }
      by size (next ∷ more) cells stand =
          let s = (read_is_sound first maxval _ (stands_as asked.pictures first (Picture maxval) _ stand.0)).form in
          let rest = others_sound maxval v.k size files next more (drop (cell_count size) cells) stand.1 in
          record { positive = s.positive; fits = s.fits; colours = s.colours; frames = (s.frames, rest.frames); samples = whole (λ b. b ≤ maxval) (cell_count size) cells s.samples rest.samples }

  clips_sound : (form : ClipForm) (first : List ℕ) (more : List (List ℕ)) (v : Cells) → StandForParts asked (Clip form) first more (parts_of v) → AreSoundIn (Clip form) v
  clips_sound form first files v stand = by (parts_of v) refl stand
    where
      by : (parts : List Cells) → parts ≡ parts_of v → StandForParts asked (Clip form) first files parts → AreSoundIn (Clip form) v
      by [] is stand = absurd stand
      by (p ∷ parts) is stand =
          let s = clip_is_sound MOST_SAMPLE_CELLS first form p (stands_as asked.pictures first (Clip form) p stand.0) in
          record { is_form = s.form; samples = sym (first_part_k v p parts is) ∙ s.samples }

  -- each part has the size of the first
  alike_sized : asked.one_size ≡ true → (form : Form) (its : Size) (files : List (List ℕ)) (parts : List Cells) → StandAlike asked form its files parts → AllByRecursion (λ (size : Size). size ≡ its) (map (λ (p : Cells). p.size) parts)
  alike_sized on form its [] [] a = tt
  alike_sized on form its [] (p ∷ parts) a = absurd a
  alike_sized on form its (file ∷ files) [] a = absurd a
  alike_sized on form its (file ∷ files) (p ∷ parts) a = (a.0.goes.sized on, alike_sized on form its files parts a.1)

  module _ (first : List ℕ) (more : List (List ℕ)) (samples : Samples) (stand : StandForSeveral asked first more samples) where
    form_sound : (form : Form) → StandForParts asked form first more (parts_of samples.volume) → AreSoundIn form samples.volume
    form_sound (Picture maxval) parts = first_sound maxval first more samples.volume parts
    form_sound (Clip form) parts = clips_sound form first more samples.volume parts

    is_picture : (parts : List Cells) → asked.pictures ≡ true → StandForParts asked samples.form first more parts → IsPictureForm samples.form
    is_picture [] on parts = absurd parts
    is_picture (p ∷ parts) on stands = picture_in asked.pictures first samples.form p stands.0 on

    are_one_size : asked.one_size ≡ true → (parts : List Cells) → parts ≡ parts_of samples.volume → StandForParts asked samples.form first more parts
        → AllByRecursion (λ (size : Size). size ≡ samples.volume.size) samples.volume.more
    are_one_size on [] is parts = absurd parts
    are_one_size on (p ∷ parts) is stands =
        let v = samples.volume in
        let sizes : p.size ∷ map (λ (q : Cells). q.size) parts ≡ v.size ∷ v.more = ap (map (λ (q : Cells). q.size)) is ∙ sizes_of_parts v.k v.size v.more v.cells in
        let more_is : map (λ (q : Cells). q.size) parts ≡ v.more = cc in
        subst (AllByRecursion (λ (size : Size). size ≡ v.size)) more_is
        (subst (λ its. AllByRecursion (λ (size : Size). size ≡ its) (map (λ (q : Cells). q.size) parts)) (first_part_size v p parts is) (alike_sized on samples.form p.size more parts stands.1))

    pub stand_sound : AreSoundSeveral asked samples
    stand_sound = record {
      sound = record { form = form_sound samples.form stand.parts; fits = with_turns-least asked.turns (count_of samples.volume) MOST_SAMPLE_CELLS stand.fits };
      fits = stand.fits;
      pictures = λ on. is_picture (parts_of samples.volume) on stand.parts;
      one_size = λ on. are_one_size on (parts_of samples.volume) refl stand.parts;
    }

-- There is one part for each file.

alike_counted : (asked : Asked) (form : Form) (size : Size) (files : List (List ℕ)) (parts : List Cells) → StandAlike asked form size files parts → length parts ≡ length files
alike_counted asked form size [] [] a = refl
alike_counted asked form size [] (p ∷ parts) a = absurd a
alike_counted asked form size (file ∷ files) [] a = absurd a
alike_counted asked form size (file ∷ files) (p ∷ parts) a = ap suc (alike_counted asked form size files parts a.1)

parts_counted : (k : ℕ) (size : Size) (more : List Size) (cells : List (List ℕ)) → length (parts_from k size more cells) ≡ length (size ∷ more)
parts_counted k size [] cells = refl
parts_counted k size (next ∷ more) cells = ap suc (parts_counted k next more (drop (cell_count size) cells))

pub as_many_parts : (asked : Asked) (first : List ℕ) (more : List (List ℕ)) (samples : Samples) → StandForSeveral asked first more samples → length (sizes_of samples.volume) ≡ length more + 1
as_many_parts asked first more samples stand =
    sym (parts_counted samples.volume.k samples.volume.size samples.volume.more samples.volume.cells) ∙ by (parts_of samples.volume) stand.parts
  where
    by : (parts : List Cells) → StandForParts asked samples.form first more parts → length parts ≡ length more + 1
    by [] parts = absurd parts
    by (p ∷ parts) stands = let others = alike_counted asked samples.form p.size more parts stands.1 in omega (arith, others)
