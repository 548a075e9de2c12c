use Rattle.std.proofs.Common.{take}
use Rattle.std.specs.List.{flat_map}
use Rattle.std.specs.Prelude.{All}
use Rattle.file_bytes.specs.Writing.{Puts}
use Rattle.cert_file.specs.CutForms.{IsShortFlow, flow_field}
use Rattle.cert_file.proofs.cuts.put_flows.Given as goal

abbrev pub invariant-loop-flow : goal.invariant-loop-flow
invariant-loop-flow g l =
    let state = g.S.Shelf.state in
    record {
      put : Puts l.name (flat_map flow_field (take l.flow-index l.flows)) (state l.fn.shelf) (state l.shelf) l.fn.file l.file;
      short : All IsShortFlow (take l.flow-index l.flows);
    }
