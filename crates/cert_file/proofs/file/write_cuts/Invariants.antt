use Rattle.std.proofs.Common.{◌++◌, length, take}
use Rattle.std.specs.List.{flat_map}
use Rattle.std.specs.Prelude.{All}
use Rattle.source_map.specs.Heads.{head_form}
use Rattle.file_bytes.specs.Fields.{field_32}
use Rattle.file_bytes.specs.Writing.{HasPut}
use Rattle.cert_file.specs.CutForms.{HasShortFlows, cut_form}
use Rattle.cert_file.specs.RecordFiles.{cuts_kind, record_magic}
use Rattle.cert_file.proofs.file.write_cuts.Given as goal

abbrev pub invariant-loop-cut : goal.invariant-loop-cut
invariant-loop-cut g l =
    let state = g.S.Shelf.state in
    record {
      put : HasPut l.name (head_form record_magic cuts_kind l.head ++ field_32 (length l.cuts) ++ flat_map (cut_form l.head.version l.head.samples) (take l.cut-index l.cuts)) (state l.fn.shelf) (state l.shelf) l.file;
      short : All HasShortFlows (take l.cut-index l.cuts);
    }
