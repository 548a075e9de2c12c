-- One sample: its bytes have one answer at most, and what goes with a sample is like it.
use Rattle.std.proofs.Common.{◌≡◌, ℕ, ◌≤◌, ◌*◌, ◌++◌, List, [], ◌∷◌, length, Bool, true, false, refl, sym, ap, ◌∙◌, subst, arith, eqb-true, length-append}
use Rattle.std.specs.Prelude.{All}
use Rattle.std.specs.List.{AllByRecursion, concat}
use Rattle.std.proofs.lemmas.List.Elements.{All-append, All-tail, All-head}
use Rattle.std.proofs.lemmas.List.Folds.{concat-append}
use Rattle.limits.specs.declared.bounds.TheConstants.{MOST_SAMPLE_CELLS}
use Rattle.cells.specs.declared.place.Size.{Size}
use Rattle.cells.specs.Places.{cell_count}
use Rattle.cells.specs.Parts.{count_from}
use Rattle.cells.specs.Cells.{Cells, IsCell, IsOnePart, IsVolume, bytes_of, count_of, sizes_of, with_part}
use Rattle.shelf_traits.specs.declared.fault.ReadError.{ReadError}
use Rattle.netpbm_p6.proofs.OneReading.{not_both, one_picture, one_refusal}
use Rattle.y4m_clip.specs.declared.form.ClipForm.{ClipForm}
use Rattle.y4m_clip.specs.declared.form.SpaceKind.{SpaceKind}
use Rattle.y4m_clip.specs.declared.form.SpaceKind.TheVariants.{Mono, C444, C422, C411, C420}
use Rattle.y4m_clip.specs.Spaces.{samples_of}
use Rattle.y4m_clip.proofs.OneClip.{one_clip}
use Rattle.y4m_clip.proofs.OneRefusal as clip
use Rattle.sample_files.specs.declared.form.Form.{Form}
use Rattle.sample_files.specs.declared.form.Form.TheVariants.{Picture, Clip}
use Rattle.sample_files.specs.Samples.{AreSoundIn, IsPictureForm, IsSoundIn, RefusesAs, RefusesIn, RefusesWithin, StandsAs, StandsIn, StandsWithin, begins_clip, goes_with, same_space}
use Rattle.sample_files.proofs.Begins.{clip_begins, picture_begins}

-- bytes that stand for a sample aren't refused
pub stands_or_refused : (most : ℕ) (bytes : List ℕ) (form : Form) (cells : Cells) (refusal : ReadError) → StandsWithin most bytes form cells → RefusesWithin most bytes refusal → ⊥
stands_or_refused most bytes (Picture maxval) cells refusal stands refuses =
    not_both bytes (record { maxval = maxval; volume = cells }) refusal stands
    (subst (λ t. RefusesAs t most bytes refusal) (picture_begins bytes (record { maxval = maxval; volume = cells }) stands.stands) refuses)
stands_or_refused most bytes (Clip form) cells refusal stands refuses =
    clip.not_both most bytes (record { form = form; volume = cells }) refusal stands
    (subst (λ t. RefusesAs t most bytes refusal) (clip_begins bytes (record { form = form; volume = cells }) stands.stands) refuses)

pub one_sample_refusal : (most : ℕ) (bytes : List ℕ) (first second : ReadError) → RefusesWithin most bytes first → RefusesWithin most bytes second → first ≡ second
one_sample_refusal most bytes first second = by (begins_clip bytes)
  where
    by : (t : Bool) → RefusesAs t most bytes first → RefusesAs t most bytes second → first ≡ second
    by true = clip.one_refusal most bytes first second
    by false = one_refusal bytes first second

-- they stand for one
pub record SameSample (form other : Form) (cells others : Cells) : Type 0 where
  pub form_is : form ≡ other
  pub cells_are : cells ≡ others

not_either : (most : ℕ) (bytes : List ℕ) (maxval : ℕ) (form : ClipForm) (cells others : Cells) → StandsWithin most bytes (Picture maxval) cells → StandsWithin most bytes (Clip form) others → ⊥
not_either most bytes maxval form cells others a b =
    let picture = picture_begins bytes (record { maxval = maxval; volume = cells }) a.stands in
    let clip = clip_begins bytes (record { form = form; volume = others }) b.stands in
    absurd (cc)

pub one_sample : (most : ℕ) (bytes : List ℕ) (form other : Form) (cells others : Cells) → StandsWithin most bytes form cells → StandsWithin most bytes other others → SameSample form other cells others
one_sample most bytes (Picture maxval) (Picture other) cells others a b =
    let same = one_picture bytes (record { maxval = maxval; volume = cells }) (record { maxval = other; volume = others }) a.stands b.stands in
    record { form_is = ap (λ p. Picture p.maxval) same; cells_are = ap (λ p. p.volume) same }
one_sample most bytes (Clip form) (Clip other) cells others a b =
    let same = one_clip bytes (record { form = form; volume = cells }) (record { form = other; volume = others }) a.stands b.stands in
    record { form_is = ap (λ p. Clip p.form) same; cells_are = ap (λ p. p.volume) same }
one_sample most bytes (Picture maxval) (Clip form) cells others a b = absurd (not_either most bytes maxval form cells others a b)
one_sample most bytes (Clip form) (Picture maxval) cells others a b = absurd (not_either most bytes maxval form others cells b a)

-- of one part
pub stands_alone : (most : ℕ) (bytes : List ℕ) (form : Form) (cells : Cells) → StandsWithin most bytes form cells → IsOnePart cells
stands_alone most bytes (Picture maxval) cells a = ap (λ (v : Cells). v.more) a.stands.volume
stands_alone most bytes (Clip form) cells a = ap (λ (v : Cells). v.more) a.stands.volume

pub sound_alone : (form : Form) (cells : Cells) → IsSoundIn form cells → IsOnePart cells
sound_alone (Picture maxval) cells s = s.form.one
sound_alone (Clip form) cells s = s.one

pub count_alone : (cells : Cells) → IsOnePart cells → count_of cells ≡ cell_count cells.size
count_alone cells one = ap (count_from cells.size) one

-- Where pictures alone may be asked for.

pub stands_as : (pictures : Bool) (bytes : List ℕ) (form : Form) (cells : Cells) → StandsIn pictures bytes form cells → StandsAs bytes form cells
stands_as false bytes form cells stands = stands
stands_as true bytes (Picture maxval) cells stands = stands
stands_as true bytes (Clip form) cells stands = absurd stands

pub picture_in : (pictures : Bool) (bytes : List ℕ) (form : Form) (cells : Cells) → StandsIn pictures bytes form cells → pictures ≡ true → IsPictureForm form
picture_in false bytes form cells stands is = absurd (cc)
picture_in true bytes (Picture maxval) cells stands is = tt
picture_in true bytes (Clip form) cells stands is = stands

module _ (pictures : Bool) (bytes : List ℕ) where
  pub alone_in : (form : Form) (cells : Cells) → StandsIn pictures bytes form cells → IsOnePart cells
  alone_in form cells stands = stands_alone MOST_SAMPLE_CELLS bytes form cells (stands_as pictures bytes form cells stands)

  pub one_sample_in : (form other : Form) (cells others : Cells) → StandsIn pictures bytes form cells → StandsIn pictures bytes other others → SameSample form other cells others
  one_sample_in form other cells others a b = one_sample MOST_SAMPLE_CELLS bytes form other cells others (stands_as pictures bytes form cells a) (stands_as pictures bytes other others b)

pub stands_or_refused_in : (pictures : Bool) (bytes : List ℕ) (form : Form) (cells : Cells) (refusal : ReadError) → StandsIn pictures bytes form cells → RefusesIn pictures bytes refusal → ⊥
stands_or_refused_in false bytes form cells refusal stands refuses = stands_or_refused MOST_SAMPLE_CELLS bytes form cells refusal stands refuses
stands_or_refused_in true bytes (Picture maxval) cells refusal stands refuses = not_both bytes (record { maxval = maxval; volume = cells }) refusal stands refuses
stands_or_refused_in true bytes (Clip form) cells refusal stands refuses = stands

pub one_refusal_in : (pictures : Bool) (bytes : List ℕ) (first second : ReadError) → RefusesIn pictures bytes first → RefusesIn pictures bytes second → first ≡ second
one_refusal_in false bytes first second = one_sample_refusal MOST_SAMPLE_CELLS bytes first second
one_refusal_in true bytes first second = one_refusal bytes first second

-- A sound sample alone.

pub sound_first : (form : Form) (cells : Cells) → IsSoundIn form cells → AreSoundIn form cells
sound_first (Picture maxval) cells s = record {
  positive = s.form.positive;
  fits = s.form.fits;
  colours = s.form.colours;
  frames = subst (λ more. AllByRecursion (λ (size : Size). size.f ≡ 1) (cells.size ∷ more)) (sym s.form.one) (s.form.frames, tt);
  samples = s.form.samples;
}
sound_first (Clip form) cells s = record { is_form = s.form; samples = s.samples }

pub sound_count : (form : Form) (cells : Cells) → IsSoundIn form cells → count_of cells ≤ MOST_SAMPLE_CELLS
sound_count (Picture maxval) cells s = s.cells
sound_count (Clip form) cells s = subst (λ n. n ≤ MOST_SAMPLE_CELLS) (sym (count_alone cells s.one)) s.cells

-- A sound sample that goes with others.

-- clips that go together have one colour kind
pub one_space : (a b : SpaceKind) → same_space a b ≡ true → a ≡ b
one_space Mono Mono same = refl
one_space Mono C444 same = absurd (cc)
one_space Mono C422 same = absurd (cc)
one_space Mono C411 same = absurd (cc)
one_space Mono C420 same = absurd (cc)
one_space C444 Mono same = absurd (cc)
one_space C444 C444 same = refl
one_space C444 C422 same = absurd (cc)
one_space C444 C411 same = absurd (cc)
one_space C444 C420 same = absurd (cc)
one_space C422 Mono same = absurd (cc)
one_space C422 C444 same = absurd (cc)
one_space C422 C422 same = refl
one_space C422 C411 same = absurd (cc)
one_space C422 C420 same = absurd (cc)
one_space C411 Mono same = absurd (cc)
one_space C411 C444 same = absurd (cc)
one_space C411 C422 same = absurd (cc)
one_space C411 C411 same = refl
one_space C411 C420 same = absurd (cc)
one_space C420 Mono same = absurd (cc)
one_space C420 C444 same = absurd (cc)
one_space C420 C422 same = absurd (cc)
one_space C420 C411 same = absurd (cc)
one_space C420 C420 same = refl

pub same_samples : (form own : Form) (cells part : Cells) → goes_with form own ≡ true → AreSoundIn form cells → IsSoundIn own part → part.k ≡ cells.k
same_samples (Picture maxval) (Picture other) cells part alike s p = p.form.colours ∙ sym s.colours
same_samples (Clip form) (Clip other) cells part alike s p = p.samples ∙ ap samples_of (sym (one_space form.space other.space alike)) ∙ sym s.samples
same_samples (Picture maxval) (Clip other) cells part alike s p = absurd (cc)
same_samples (Clip form) (Picture other) cells part alike s p = absurd (cc)

pub each_behind : {X : Type 0} (P : X → Type 0) (xs : List X) (x : X) → AllByRecursion P xs → P x → AllByRecursion P (xs ++ x ∷ [])
each_behind P [] x all here = (here, tt)
each_behind P (y ∷ xs) x all here = (all.0, each_behind P xs x all.1 here)

pub sound_joined : (form own : Form) (cells part : Cells) → goes_with form own ≡ true → AreSoundIn form cells → IsSoundIn own part → AreSoundIn form (with_part cells part)
sound_joined (Picture maxval) (Picture other) cells part alike s p =
    let one : maxval ≡ other = eqb-true maxval other alike in
    let bytes : bytes_of (with_part cells part) ≡ bytes_of cells ++ bytes_of part = concat-append cells.cells part.cells in
    record {
      positive = s.positive;
      fits = s.fits;
      colours = s.colours;
      frames = each_behind (λ (size : Size). size.f ≡ 1) (sizes_of cells) part.size s.frames p.form.frames;
      samples = subst (All (λ b. b ≤ maxval)) (sym bytes)
          (All-append (λ b. b ≤ maxval) (bytes_of cells) (bytes_of part) s.samples (subst (λ n. All (λ b. b ≤ n) (bytes_of part)) (sym one) p.form.samples));
    }
sound_joined (Clip form) (Clip other) cells part alike s p = record { is_form = s.is_form; samples = s.samples }
sound_joined (Picture maxval) (Clip other) cells part alike s p = absurd (cc)
sound_joined (Clip form) (Picture other) cells part alike s p = absurd (cc)

-- How many bytes the cells have.

length-concat : (k : ℕ) (cells : List (List ℕ)) → All (IsCell k) cells → length (concat cells) ≡ k * length cells
length-concat k [] all = omega arith
length-concat k (cell ∷ cells) all =
    omega (arith, length-append cell (concat cells), (All-head (IsCell k) cell cells all).samples, length-concat k cells (All-tail (IsCell k) cell cells all))

pub bytes_counted : (v : Cells) → IsVolume v → length (bytes_of v) ≡ v.k * count_of v
bytes_counted v volume = length-concat v.k v.cells volume.cells ∙ ap (λ n. v.k * n) volume.count
