-- The sizes of the worked samples, and that they are sound.
use Rattle.std.proofs.Common.{◌≡◌, ◌≤◌, ℕ, ◌+◌, ◌*◌, Bool, true, false, List, [], ◌∷◌, refl, sym, ap, ◌∙◌, subst, arith}
use Rattle.std.specs.List.{AllByRecursion}
use Rattle.limits.specs.declared.bounds.TheConstants.{MOST_SAMPLE_CELLS}
use Rattle.cells.specs.declared.place.Size.{Size}
use Rattle.cells.specs.Parts.{count_from}
use Rattle.cells.specs.Places.{cell_count}
use Rattle.cells.specs.Cells.{Cells, count_of, sizes_of}
use Rattle.turned.specs.Turns.{turn_size}
use Rattle.turned.specs.TurnedParts.{turned_of, turned_sizes_of}
use Rattle.turned.proofs.Turns.{turn_count, turn_frames}
use Rattle.turned.proofs.TurnedCells.{sizes_turned}
use Rattle.turned.proofs.TurnedLists.{sizes_told}
use Rattle.sample_files.specs.declared.form.Form.{Form}
use Rattle.sample_files.specs.declared.form.Form.TheVariants.{Picture, Clip}
use Rattle.sample_files.specs.declared.several.Samples.{Samples}
use Rattle.sample_files.specs.Samples.{AreSoundIn}
use Rattle.sample_files.specs.Several.{AreSoundSamples, with_turns}
use Rattle.sample_files.specs.Worked.{worked, worked_samples, worked_sizes}
use Rattle.sample_files.proofs.WorkedBytes.{turned_all}

pub sizes_worked : (turns : Bool) (v : Cells) → sizes_of (worked turns v) ≡ worked_sizes turns (sizes_of v)
sizes_worked false v = refl
sizes_worked true v = sizes_turned v

pub worked_tell : (turns : Bool) (sizes other : List Size) → worked_sizes turns sizes ≡ worked_sizes turns other → sizes ≡ other
worked_tell false sizes other same = same
worked_tell true sizes other same = sizes_told sizes other same

-- Worked samples are sound where the samples are.

unfoldable pub sizes_count : List Size → ℕ
sizes_count [] = 0
sizes_count (size ∷ sizes) = cell_count size + sizes_count sizes

pub count_is : (size : Size) (more : List Size) → count_from size more ≡ sizes_count (size ∷ more)
unfolding sizes_count
count_is size [] = omega arith
count_is size (next ∷ more) = ap (λ n. cell_count size + n) (count_is next more)

turned_count : (sizes : List Size) → sizes_count (turned_sizes_of sizes) ≡ 8 * sizes_count sizes
unfolding sizes_count
turned_count [] = refl
turned_count (size ∷ sizes) = omega (arith, turned_count sizes, turn_count 0 size, turn_count 1 size, turn_count 2 size, turn_count 3 size, turn_count 4 size, turn_count 5 size, turn_count 6 size, turn_count 7 size)

pub worked_count : (turns : Bool) (v : Cells) → count_of (worked turns v) ≡ with_turns turns (count_of v)
worked_count false v = refl
worked_count true v =
    count_is (turned_of v).size (turned_of v).more ∙ ap sizes_count (sizes_turned v) ∙ turned_count (sizes_of v) ∙ ap (λ n. 8 * n) (sym (count_is v.size v.more))

turned_frames : (sizes : List Size) → AllByRecursion (λ (size : Size). size.f ≡ 1) sizes → AllByRecursion (λ (size : Size). size.f ≡ 1) (turned_sizes_of sizes)
turned_frames [] all = tt
turned_frames (size ∷ sizes) all =
    let at : (t : ℕ) → (turn_size t size).f ≡ 1 = λ t. turn_frames t size ∙ all.0 in
    (at 0, (at 1, (at 2, (at 3, (at 4, (at 5, (at 6, (at 7, turned_frames sizes all.1))))))))

sound_turned : (form : Form) (v : Cells) → AreSoundIn form v → AreSoundIn form (turned_of v)
unfolding turned_of
sound_turned (Picture maxval) v sound = record {
  positive = sound.positive;
  fits = sound.fits;
  colours = sound.colours;
  frames = subst (AllByRecursion (λ (size : Size). size.f ≡ 1)) (sym (sizes_turned v)) (turned_frames (sizes_of v) sound.frames);
  samples = turned_all (λ b. b ≤ maxval) v sound.samples;
}
sound_turned (Clip form) v sound = record { is_form = sound.is_form; samples = sound.samples }

pub worked_sound : (turns : Bool) (samples : Samples) → AreSoundSamples samples → with_turns turns (count_of samples.volume) ≤ MOST_SAMPLE_CELLS → AreSoundSamples (worked_samples turns samples)
worked_sound false samples sound fits = sound
worked_sound true samples sound fits = record {
  form = sound_turned samples.form samples.volume sound.form;
  fits = subst (λ n. n ≤ MOST_SAMPLE_CELLS) (sym (worked_count true samples.volume)) fits;
}
