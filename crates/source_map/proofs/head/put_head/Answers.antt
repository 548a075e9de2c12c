use Rattle.file_bytes.proofs.WritingLaws.{put_next}
use Rattle.source_map.specs.Heads.{sizes_field, start_form}
use Rattle.source_map.proofs.head.put_head.Goals as goal

pub returns : goal.returns
returns g c =
    let state = g.S.Shelf.state in
    let head = c.args.head.now in
    put_next c.args.name.now (start_form c.args.magic c.args.kind head.version head.output) (sizes_field head.version head.samples)
    (state c.put_start.new.shelf) (state c.put_samples.new.shelf) c.put_start.new.file c.put_samples.new.file c.args.file.now (state c.args.shelf.now)
    c.put_start.ensures c.put_samples.ensures
