use Rattle.std.proofs.Common.{◌≡◌, ◌∙◌, ◌*◌, ℕ, List, length, ap, sym, subst}
use Rattle.std.specs.Prelude.{IfOk}
use Rattle.source_map.specs.declared.map_file.MapFile.{MapFile}
use Rattle.source_map.specs.declared.map_file.MapFile.TheVariants.{Frames}
use Rattle.cert_file.specs.declared.file.RecordFile.{RecordFile}
use Rattle.cert_file.specs.declared.file.RecordFile.TheVariants.{Walk}
use Rattle.cert_file.specs.RecordFiles.{IsRecordFile}
use Rattle.loop_walk.specs.Records.{WalkStands}
use Rattle.loop_walk.specs.Tables.{IsLength, table_count}
use Rattle.standing_files.specs.Standing.{HasOneFrame, IsBrokenWalk, walk_costs}
use Rattle.standing_files.specs.Steps.{JudgesBy, JudgesRecords, JudgesWalk, Suit}
use Rattle.standing_files.proofs.Judging.{walk_sample}
use Rattle.standing_files.proofs.records.judge_walk_record.Goals as goal

pub judge_walk-requires : goal.judge_walk-requires
judge_walk-requires c =
    let at = c.in-Frames-Walk in
    let samples = c.args.samples.now in
    let map_file = Frames at.size-0 at.sample-0 at.frames in
    let is = subst (λ (record_file : RecordFile). IsRecordFile record_file) at.is-1 c.requires.record_file in
    let suit = subst (λ (record_file : RecordFile). Suit samples map_file record_file) at.is-1
    (subst (λ (map_file : MapFile). Suit samples map_file c.args.record_file.now) at.is-0 c.requires.suit) in
    let its = walk_sample samples map_file at.head-1 at.taps at.gap at.walk at.tables is c.requires.sound suit in
    let n = samples.volume.size.f in
    record {
      part = its.part;
      few = its.few;
      cells = its.cells;
      walk = subst (λ (walk : List ℕ). IsLength (length walk)) (sym c.as_slice.ensures) its.len;
      tables = ap length c.as_slice-in-Frames-Walk.ensures ∙ its.whole ∙ ap (λ (walk : List ℕ). table_count (length walk) * (n * n)) (sym c.as_slice.ensures);
    }

pub returns : goal.returns
returns c =
    let at = c.in-Frames-Walk in
    let volume = c.args.samples.now.volume in
    let answer = c.judge_walk.result in
    let costs = walk_costs volume at.taps at.gap in
    let suit = subst (λ (record_file : RecordFile). Suit c.args.samples.now (Frames at.size-0 at.sample-0 at.frames) record_file) at.is-1
    (subst (λ (map_file : MapFile). Suit c.args.samples.now map_file c.args.record_file.now) at.is-0 c.requires.suit) in
    let count : length at.walk ≡ at.size-0.f = suit.kinds in
    let judged : IfOk answer (JudgesWalk costs at.walk at.tables at.frames) =
    subst (λ (walk : List ℕ). IfOk answer (JudgesWalk costs walk at.tables at.frames)) c.as_slice.ensures
    (subst (λ (tables : List ℕ). IfOk answer (JudgesWalk costs c.as_slice.result.now tables at.frames)) c.as_slice-in-Frames-Walk.ensures
    (subst (λ (frames : List ℕ). IfOk answer (JudgesWalk costs c.as_slice.result.now c.as_slice-in-Frames-Walk.result.now frames)) c.as_slice-in-Frames-Walk-2.ensures
    c.judge_walk.ensures)) in
    subst (λ (map_file : MapFile). IfOk answer (JudgesRecords volume map_file c.args.record_file.now)) (sym at.is-0)
    (subst (λ (record_file : RecordFile). IfOk answer (JudgesRecords volume (Frames at.size-0 at.sample-0 at.frames) record_file)) (sym at.is-1)
    (subst (λ (n : ℕ). IfOk answer (JudgesBy (WalkStands costs at.walk at.tables) (IsBrokenWalk costs at.walk at.tables) n (HasOneFrame at.walk at.frames))) count judged))
