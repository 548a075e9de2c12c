-- Files that stand break no rule, and others have one first broken rule.
use Rattle.std.proofs.Common.{◌∙◌, ◌+◌, ◌⊎◌, ℕ, inl, inr, sym, ap}
use Rattle.cells.specs.declared.place.Size.{Size}
use Rattle.cells.specs.Cells.{Cells}
use Rattle.cells.specs.Places.{cell_count}
use Rattle.map_canvas.specs.Maps.{empty_map}
use Rattle.source_map.specs.declared.map_file.MapFile.{MapFile}
use Rattle.cert_file.specs.declared.file.RecordFile.{RecordFile}
use Rattle.cert_file.specs.declared.file.RecordFile.TheVariants.{Blocks, Cuts, Walk}
use Rattle.cut_replay.proofs.Standing.{stands_not}
use Rattle.block_check.proofs.FirstBroken as quilted
use Rattle.loop_walk.proofs.OneAnswer.{no_fault}
use Rattle.sample_files.specs.declared.sample.Sample.{Sample}
use Rattle.sample_files.specs.declared.several.Samples.{Samples}
use Rattle.standing_files.specs.Standing.{AreOneFault, BreaksMap, BreaksPicture, BreaksRecord, BreaksTogether, IsBrokenRecord, IsCopiedAt, IsFirstBrokenRule, LeaveAt, OneFirstBrokenRule, RecordsStand, StandingFilesBreakNone, map_entries, map_output, walk_costs}
use Rattle.standing_files.proofs.FirstBroken.{one_broken}
use Rattle.standing_files.proofs.LoopFaults.{one_loop_fault}
use Rattle.standing_files.proofs.Searching.{one_first}

-- records that stand have no broken one
none_broken : (samples : Cells) (output : Size) (record_file : RecordFile) (number rule place : ℕ) → RecordsStand samples output record_file → IsBrokenRecord samples output record_file number rule place → ⊥
none_broken samples output (Cuts head cuts) number rule place stand broken = stands_not samples (empty_map output) cuts broken.broken broken.first stand
none_broken samples output (Blocks head blocks) number rule place stand broken = quilted.stands_not samples (empty_map output) blocks broken.broken broken.first stand
none_broken samples output (Walk head taps gap walk tables) number rule place stand broken = no_fault (walk_costs samples taps gap) walk tables broken.fault broken.whole stand broken.first

one_record : (samples : Cells) (output : Size) (record_file : RecordFile) (number rule place number' rule' place' : ℕ) → IsBrokenRecord samples output record_file number rule place → IsBrokenRecord samples output record_file number' rule' place'
    → AreOneFault number rule place number' rule' place'
one_record samples output (Cuts head cuts) number rule place number' rule' place' one other =
    let same = one_broken samples (empty_map output) cuts one.broken other.broken one.first other.first in
    record {
      number_is = one.number_is ∙ ap (λ n. n + 1) same.number ∙ sym other.number_is;
      rule_is = one.rule_is ∙ same.fault.kind ∙ sym other.rule_is;
      place_is = one.place_is ∙ same.fault.place ∙ sym other.place_is;
    }
one_record samples output (Blocks head blocks) number rule place number' rule' place' one other =
    let same = quilted.one_broken samples (empty_map output) blocks one.broken other.broken one.first other.first in
    record {
      number_is = one.number_is ∙ ap (λ n. n + 1) same.number ∙ sym other.number_is;
      rule_is = one.rule_is ∙ same.fault.kind ∙ sym other.rule_is;
      place_is = one.place_is ∙ same.fault.place ∙ sym other.place_is;
    }
one_record samples output (Walk head taps gap walk tables) number rule place number' rule' place' one other =
    let same = one_loop_fault (walk_costs samples taps gap) walk tables one.whole one.fault other.fault one.first other.first in
    record {
      number_is = one.number_is ∙ sym other.number_is;
      rule_is = one.rule_is ∙ same.kind ∙ sym other.rule_is;
      place_is = one.place_is ∙ same.place ∙ sym other.place_is;
    }

pub breaks_none : StandingFilesBreakNone
breaks_none samples out map_file record_file number rule place stand (inl broken) = broken.apart stand.together
breaks_none samples out map_file record_file number rule place stand (inr (inl broken)) = none_broken samples.volume (map_output map_file) record_file number rule place stand.records broken.broken
breaks_none samples out map_file record_file number rule place stand (inr (inr (inl broken))) = broken.first.here (stand.left place broken.first.below)
breaks_none samples out map_file record_file number rule place stand (inr (inr (inr broken))) = broken.first.here (stand.copied place broken.first.below)

-- of a first property and others, of which at most one holds, and for one fault
either : (P Q : ℕ → ℕ → ℕ → Type 0) → ((n r p n' r' p' : ℕ) → P n r p → P n' r' p' → AreOneFault n r p n' r' p') → ((n r p n' r' p' : ℕ) → P n r p → Q n' r' p' → ⊥)
    → ((n r p n' r' p' : ℕ) → Q n r p → Q n' r' p' → AreOneFault n r p n' r' p') → (n r p n' r' p' : ℕ) → P n r p ⊎ Q n r p → P n' r' p' ⊎ Q n' r' p' → AreOneFault n r p n' r' p'
either P Q first apart others n r p n' r' p' (inl one) (inl other) = first n r p n' r' p' one other
either P Q first apart others n r p n' r' p' (inl one) (inr other) = absurd (apart n r p n' r' p' one other)
either P Q first apart others n r p n' r' p' (inr one) (inl other) = absurd (apart n' r' p' n r p other one)
either P Q first apart others n r p n' r' p' (inr one) (inr other) = others n r p n' r' p' one other

module _ (samples : Samples) (out : Sample) (map_file : MapFile) (record_file : RecordFile) where
  abbrev Late : ℕ → ℕ → ℕ → Type 0
  Late n r p = BreaksMap samples out map_file record_file n r p ⊎ BreaksPicture samples out map_file record_file n r p

  abbrev FromRecords : ℕ → ℕ → ℕ → Type 0
  FromRecords n r p = BreaksRecord samples out map_file record_file n r p ⊎ Late n r p

  late : (n r p n' r' p' : ℕ) → Late n r p → Late n' r' p' → AreOneFault n r p n' r' p'
  late = either (BreaksMap samples out map_file record_file) (BreaksPicture samples out map_file record_file)
      (λ n r p n' r' p' one other. record {
        number_is = one.whole.number_is ∙ sym other.whole.number_is;
        rule_is = one.whole.rule_is ∙ sym other.whole.rule_is;
        place_is = one_first (map_entries map_file) (LeaveAt record_file map_file) p p' one.first other.first;
      })
      (λ n r p n' r' p' one other. one.first.here (other.left p one.first.below))
      (λ n r p n' r' p' one other. record {
        number_is = one.whole.number_is ∙ sym other.whole.number_is;
        rule_is = one.whole.rule_is ∙ sym other.whole.rule_is;
        place_is = one_first (cell_count (map_output map_file)) (IsCopiedAt samples.volume out.volume map_file) p p' one.first other.first;
      })

  record_first : (n r p n' r' p' : ℕ) → BreaksRecord samples out map_file record_file n r p → Late n' r' p' → ⊥
  record_first n r p n' r' p' one (inl other) = none_broken samples.volume (map_output map_file) record_file n r p other.records one.broken
  record_first n r p n' r' p' one (inr other) = none_broken samples.volume (map_output map_file) record_file n r p other.records one.broken

  from_records : (n r p n' r' p' : ℕ) → FromRecords n r p → FromRecords n' r' p' → AreOneFault n r p n' r' p'
  from_records = either (BreaksRecord samples out map_file record_file) Late
      (λ n r p n' r' p' one other. one_record samples.volume (map_output map_file) record_file n r p n' r' p' one.broken other.broken)
      record_first late

  together_first : (n r p n' r' p' : ℕ) → BreaksTogether samples out map_file record_file n r p → FromRecords n' r' p' → ⊥
  together_first n r p n' r' p' one (inl other) = one.apart other.together
  together_first n r p n' r' p' one (inr (inl other)) = one.apart other.together
  together_first n r p n' r' p' one (inr (inr other)) = one.apart other.together

  one_of_these : (n r p n' r' p' : ℕ) → IsFirstBrokenRule samples out map_file record_file n r p → IsFirstBrokenRule samples out map_file record_file n' r' p' → AreOneFault n r p n' r' p'
  one_of_these = either (BreaksTogether samples out map_file record_file) FromRecords
      (λ n r p n' r' p' one other. record {
        number_is = one.whole.number_is ∙ sym other.whole.number_is;
        rule_is = one.whole.rule_is ∙ sym other.whole.rule_is;
        place_is = one.place_is ∙ sym other.place_is;
      })
      together_first from_records

pub one_broken_rule : OneFirstBrokenRule
one_broken_rule samples out map_file record_file number rule place number' rule' place' = one_of_these samples out map_file record_file number rule place number' rule' place'
