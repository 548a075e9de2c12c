use Rattle.std.proofs.Common.{◌≡◌, List, [], ◌∷◌, subst, sym}
use Rattle.source_map.specs.declared.head.Version.TheVariants.{Two}
use Rattle.source_map.specs.MapFiles.{cell_map_form}
use Rattle.cert_file.specs.RecordFiles.{AreCutsInForm, cuts_form}
use Rattle.synth_report.specs.declared.fault.FileOf.TheVariants as part
use Rattle.command.specs.Writing.{FileText, WritesRun, file_text}
use Rattle.upgrade_command.specs.Upgrades.{in_version_two, pair_files, pair_summary}
use Rattle.upgrade_command.proofs.Ready.{cuts_ready, map_ready}
use Rattle.upgrade_command.proofs.upgrading.write_pair.Goals as goal

pub write_run-requires : goal.write_run-requires
write_run-requires g c =
    let pair = c.args.pair in (
      map_ready pair c.requires,
      subst (λ head. AreCutsInForm head c.as_slice.result.now) (sym c.in_version_two.ensures)
          (subst (λ cuts. AreCutsInForm (in_version_two pair.head) cuts) (sym c.as_slice.ensures) (cuts_ready pair c.requires)),
    )

pub returns-clause-wrote : goal.returns-clause-wrote
returns-clause-wrote g c =
    let job = c.args.job.now in
    let pair = c.args.pair in
    let was = g.S.Shelf.state c.args.shelf.now in
    let now = g.S.Shelf.state c.write_run.new.shelf in
    let out = g.O.Sink.state c.args.out.now in
    let out' = g.O.Sink.state c.write_run.new.out in
    let given : List FileText =
    file_text part.NewMap job.new_map (cell_map_form pair.map pair.samples Two) ∷ file_text part.NewRecord job.new_record_file (cuts_form c.in_version_two.result c.as_slice.result.now) ∷ [] in
    let same : given ≡ pair_files job pair =
    λ i. file_text part.NewMap job.new_map (cell_map_form pair.map pair.samples Two) ∷ file_text part.NewRecord job.new_record_file (cuts_form (c.in_version_two.ensures i) (c.as_slice.ensures i)) ∷ [] in
    subst (λ files. WritesRun files (pair_summary pair) was now out out' c.write_run.result) same
    (subst (λ summary. WritesRun given summary was now out out' c.write_run.result) c.summary_of-summary.ensures c.write_run.ensures.wrote)
