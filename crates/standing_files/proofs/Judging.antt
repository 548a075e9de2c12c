-- The answers of the calls that judge.
use Rattle.std.proofs.Common.{◌≡◌, ◌∙◌, ◌≤◌, ◌*◌, ℕ, List, [], ◌∷◌, length, inl, inr, refl, sym, ap, subst, arith}
use Rattle.std.specs.Prelude.{Option, Some, None}
use Rattle.cells.specs.declared.place.Size.{Size}
use Rattle.cells.specs.declared.place.Taps.{Taps}
use Rattle.cells.specs.Cells.{Cells, IsOnePart, sizes_of}
use Rattle.cells.specs.Parts.{count_from}
use Rattle.cells.specs.Places.{cell_count}
use Rattle.cells.specs.Firsts.{FirstWithout}
use Rattle.source_map.specs.declared.head.Head.{Head}
use Rattle.source_map.specs.declared.map_file.MapFile.{MapFile}
use Rattle.source_map.specs.MapFiles.{numbered_size}
use Rattle.block_check.specs.declared.block.BlockRecord.{BlockRecord}
use Rattle.frame_distance.specs.Steps.{Steps}
use Rattle.limits.specs.declared.bounds.TheConstants.{MOST_LOOP_FRAMES, MOST_SAMPLE_CELLS}
use Rattle.loop_walk.specs.Records.{WalkStands}
use Rattle.loop_walk.specs.Tables.{IsLength, table_count}
use Rattle.cert_file.specs.declared.file.RecordFile.{RecordFile}
use Rattle.cert_file.specs.declared.file.RecordFile.TheVariants.{Blocks, Walk}
use Rattle.cert_file.specs.RecordFiles.{IsRecordFile}
use Rattle.cert_file.specs.WalkForms.{frames_of}
use Rattle.sample_files.specs.declared.form.Form.{Form}
use Rattle.sample_files.specs.declared.form.Form.TheVariants.{Clip, Picture}
use Rattle.sample_files.specs.declared.sample.Sample.{Sample}
use Rattle.sample_files.specs.declared.several.Samples.{Samples}
use Rattle.sample_files.specs.Samples.{AreSoundIn}
use Rattle.sample_files.specs.Several.{AreSoundSamples}
use Rattle.standing_files.specs.declared.verdict.Verdict.{Verdict}
use Rattle.standing_files.specs.declared.verdict.Verdict.TheVariants.{Stands, Fails}
use Rattle.standing_files.specs.Standing.{GoTogether, HasOneFrame, IsBrokenWalk, IsVerdict, TakesForm}
use Rattle.standing_files.specs.Steps.{JudgesBy, JudgesRecords, JudgesWalk, Suit, verdict_on_map}
use Rattle.standing_files.specs.AsRead.{JudgesPicture, TriesTogether}

-- what is asked of the records of a file that was read

pub block_colours : (head : Head) (blocks : List BlockRecord) (form : Form) (cells : Cells) → TakesForm (Blocks head blocks) form → AreSoundIn form cells → cells.k ≡ 3
block_colours head blocks (Picture maxval) cells takes sound = sound.colours
block_colours head blocks (Clip form) cells takes sound = absurd takes

one_size : (size : Size) (more : List Size) → length (size ∷ more) ≡ 1 → more ≡ []
one_size size [] one = refl
one_size size (other ∷ more) one = absurd (omega arith)

-- the sample of a walk record
pub record IsWalkSample (sample : Cells) (walk tables : List ℕ) : Type 0 where
  pub part : IsOnePart sample
  pub len : IsLength (length walk)
  pub few : sample.size.f ≤ MOST_LOOP_FRAMES
  pub cells : cell_count sample.size ≤ MOST_SAMPLE_CELLS
  pub whole : length tables ≡ table_count (length walk) * (sample.size.f * sample.size.f)

pub walk_sample : (samples : Samples) (map_file : MapFile) (head : Head) (taps : Taps) (gap : ℕ) (walk tables : List ℕ) → IsRecordFile (Walk head taps gap walk tables) → AreSoundSamples samples
    → Suit samples map_file (Walk head taps gap walk tables) → IsWalkSample samples.volume walk tables
walk_sample samples map_file head taps gap walk tables is sound suit =
    let sizes : sizes_of samples.volume ≡ head.samples = suit.samples_are in
    let part : samples.volume.more ≡ [] = one_size samples.volume.size samples.volume.more (ap length sizes ∙ is.head_is.samples_are.one is.version) in
    let frames : samples.volume.size.f ≡ frames_of head = ap (λ (sizes : List Size). (numbered_size sizes 1).f) sizes in
    record {
      part = part;
      len = is.len;
      few = subst (λ n. n ≤ MOST_LOOP_FRAMES) (sym frames) is.frames;
      cells = subst (λ (more : List Size). count_from samples.volume.size more ≤ MOST_SAMPLE_CELLS) part sound.fits;
      whole = is.entries ∙ ap (λ n. table_count (length walk) * (n * n)) (sym frames);
    }

-- records that stand are judged by what they leave
pub map_judged : (Stand : Type 0) (Broken : ℕ → ℕ → ℕ → Type 0) (n : ℕ) (Leave : ℕ → Type 0) → Stand → (first : Option ℕ) → FirstWithout n Leave first → JudgesBy Stand Broken n Leave (verdict_on_map first)
map_judged Stand Broken n Leave stand None each = (stand, each)
map_judged Stand Broken n Leave stand (Some place) first = inr (record { whole = record { number_is = refl; rule_is = refl }; records = stand; first = first })

pub walk_judged : (costs : Steps) (walk tables frames : List ℕ) → WalkStands costs walk tables → (first : Option ℕ) → FirstWithout (length walk) (HasOneFrame walk frames) first → JudgesWalk costs walk tables frames (verdict_on_map first)
walk_judged costs walk tables frames = map_judged (WalkStands costs walk tables) (IsBrokenWalk costs walk tables) (length walk) (HasOneFrame walk frames)

module _ (samples : Samples) (out : Sample) (map_file : MapFile) (record_file : RecordFile) where
  pub suits : GoTogether samples out map_file record_file → Suit samples map_file record_file
  suits together = record { kinds = together.kinds; takes = together.takes; samples_are = together.record_file_sizes.samples_are }

  -- records that are judged first have the first broken rule
  pub judged_before : GoTogether samples out map_file record_file → (v : Verdict) → (v ≡ Stands → ⊥) → JudgesRecords samples.volume map_file record_file v → IsVerdict samples out map_file record_file v
  judged_before together Stands fails is = absurd (fails refl)
  judged_before together (Fails number rule place) fails (inl broken) = inr (inl (record { together = together; broken = broken }))
  judged_before together (Fails number rule place) fails (inr left) = inr (inr (inl (record { whole = left.whole; together = together; records = left.records; first = left.first })))

  -- files that don't go together break the first rule
  pub apart : (v : Verdict) → (v ≡ Stands → ⊥) → TriesTogether samples out map_file record_file v → IsVerdict samples out map_file record_file v
  apart Stands fails tried = absurd (fails refl)
  apart (Fails number rule place) fails tried = inl tried

  -- records that stand leave the verdict to the picture
  pub judged_last : GoTogether samples out map_file record_file → JudgesRecords samples.volume map_file record_file Stands → (v : Verdict) → JudgesPicture samples.volume out.volume map_file v → IsVerdict samples out map_file record_file v
  judged_last together judged Stands copied = record { together = together; records = judged.0; left = judged.1; copied = copied }
  judged_last together judged (Fails number rule place) copied = inr (inr (inr (record { whole = copied.whole; together = together; records = judged.0; left = judged.1; first = copied.first })))
