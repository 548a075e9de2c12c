use Rattle.std.proofs.Common.{[], ◌++◌}
use Rattle.source_map.specs.declared.head.Version.TheVariants.{One}
use Rattle.source_map.specs.Heads.{size_field, start_form}
use Rattle.source_map.specs.MapFiles.{frame_map_form, map_magic}
use Rattle.source_map.proofs.map_file.write_frame_map.Goals as goal

pub returns-clause-writes : goal.returns-clause-writes
returns-clause-writes g c =
    let state = g.S.Shelf.state in
    let was = state c.args.shelf.now in
    let start = start_form map_magic 1 One c.args.size in
    c.finish.ensures.writes was (frame_map_form c.args.size c.args.sample c.args.frames.now)
    (c.put_all.ensures was (start ++ size_field c.args.sample) (c.put_size.ensures was start (c.put_start.ensures was [] c.begin-file.ensures)))

pub returns-clause-ok : goal.returns-clause-ok
returns-clause-ok g c =
    let state = g.S.Shelf.state in
    let was = state c.args.shelf.now in
    let start = start_form map_magic 1 One c.args.size in
    c.finish.ensures.ok was (frame_map_form c.args.size c.args.sample c.args.frames.now)
    (c.put_all.ensures was (start ++ size_field c.args.sample) (c.put_size.ensures was start (c.put_start.ensures was [] c.begin-file.ensures)))

pub returns-clause-err : goal.returns-clause-err
returns-clause-err g c =
    let state = g.S.Shelf.state in
    let was = state c.args.shelf.now in
    let start = start_form map_magic 1 One c.args.size in
    c.finish.ensures.err was (frame_map_form c.args.size c.args.sample c.args.frames.now)
    (c.put_all.ensures was (start ++ size_field c.args.sample) (c.put_size.ensures was start (c.put_start.ensures was [] c.begin-file.ensures)))

pub returns-clause-failed : goal.returns-clause-failed
returns-clause-failed g c =
    let state = g.S.Shelf.state in
    let was = state c.args.shelf.now in
    let start = start_form map_magic 1 One c.args.size in
    c.finish.ensures.failed was (frame_map_form c.args.size c.args.sample c.args.frames.now)
    (c.put_all.ensures was (start ++ size_field c.args.sample) (c.put_size.ensures was start (c.put_start.ensures was [] c.begin-file.ensures)))
