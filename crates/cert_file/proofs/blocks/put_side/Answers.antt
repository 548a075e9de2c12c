use Rattle.std.proofs.Common.{◌++◌, ◌/◌, length, subst, sym}
use Rattle.std.specs.Prelude.{Option}
use Rattle.strip_boundary.specs.declared.boundary.BoundaryRecord.{BoundaryRecord}
use Rattle.file_bytes.specs.Fields.{field_16, fields_16, fields_32}
use Rattle.file_bytes.specs.Writing.{Puts}
use Rattle.file_bytes.proofs.WritingLaws.{put_next}
use Rattle.cert_file.specs.BlockForms.{boundary_form}
use Rattle.cert_file.proofs.blocks.put_side.Goals as goal

pub returns-clause-put : goal.returns-clause-put
returns-clause-put g c =
    let state = g.S.Shelf.state in
    let name = c.args.name.now in
    let rows = c.args.rows in
    let a = field_16 (length c.as_slice-sums.result.now / rows) in
    let b = fields_16 c.as_slice-path.result.now in
    let d = fields_32 c.as_slice-sums.result.now in
    let s0 = state c.args.shelf.now in
    let s3 = state c.put_all-2.new.shelf in
    let w0 = c.args.file.now in
    let w3 = c.put_all-2.new.self in
    let two = put_next name a b (state c.put_number.new.shelf) (state c.put_all.new.shelf) c.put_number.new.self c.put_all.new.self w0 s0 c.put_number.ensures c.put_all.ensures in
    let three = put_next name (a ++ b) d (state c.put_all.new.shelf) s3 c.put_all.new.self w3 w0 s0 two c.put_all-2.ensures in
    subst (λ (boundary : Option BoundaryRecord). Puts name (boundary_form rows boundary) s0 s3 w0 w3) (sym c.in-Some.is)
    (subst (λ piece. Puts name piece s0 s3 w0 w3)
    (λ k. field_16 (length (c.as_slice-sums.ensures k) / rows) ++ fields_16 (c.as_slice-path.ensures k) ++ fields_32 (c.as_slice-sums.ensures k)) three)
