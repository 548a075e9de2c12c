use Rattle.photo_merge.proofs.Leading.{merges_are_merged}
use Rattle.merge_command.proofs.Planning.{marks_not_read, marks_only, merge_made, not_set, pictures_not_read, pictures_only}
use Rattle.merge_command.proofs.plan.plan.Goals as goal

pub returns-in-Err-clause-planned : goal.returns-in-Err-clause-planned
returns-in-Err-clause-planned g c =
    let a = g.S.Shelf.state c.args.shelf.now in
    let b = g.S.Shelf.state c.read_pictures.new.shelf in
    let job = c.args.job.now in
    pictures_not_read job a b c.as_slice.ensures.names c.read_pictures.ensures.reads c.in-Err.fault (c.in-Err.ensures {u = tt}).answer

pub returns-in-Err-clause-reads : goal.returns-in-Err-clause-reads
returns-in-Err-clause-reads g c =
    let a = g.S.Shelf.state c.args.shelf.now in
    let b = g.S.Shelf.state c.read_pictures.new.shelf in
    pictures_only c.args.job.now a b c.as_slice.ensures.names c.read_pictures.ensures.reads

pub returns-in-Err-read_part-clause-planned : goal.returns-in-Err-read_part-clause-planned
returns-in-Err-read_part-clause-planned g c =
    let a = g.S.Shelf.state c.args.shelf.now in
    let b = g.S.Shelf.state c.read_pictures.new.shelf in
    let d = g.S.Shelf.state c.read_part.new.shelf in
    marks_not_read c.args.job.now a b c.as_slice.ensures.names c.read_pictures.ensures.reads c.in-Ok.pictures (c.in-Ok.ensures {u = tt}).answer d c.read_part.ensures.reads
    c.in-Err-read_part.fault (c.in-Err-read_part.ensures {u = tt}).answer

pub returns-in-Err-read_part-clause-reads : goal.returns-in-Err-read_part-clause-reads
returns-in-Err-read_part-clause-reads g c =
    let a = g.S.Shelf.state c.args.shelf.now in
    let b = g.S.Shelf.state c.read_pictures.new.shelf in
    let d = g.S.Shelf.state c.read_part.new.shelf in
    marks_only c.args.job.now a b c.as_slice.ensures.names c.read_pictures.ensures.reads c.in-Ok.pictures (c.in-Ok.ensures {u = tt}).answer d c.read_part.ensures.reads

pub returns-in-Err-set_against-clause-planned : goal.returns-in-Err-set_against-clause-planned
returns-in-Err-set_against-clause-planned g c =
    let a = g.S.Shelf.state c.args.shelf.now in
    let b = g.S.Shelf.state c.read_pictures.new.shelf in
    let d = g.S.Shelf.state c.read_part.new.shelf in
    let job = c.args.job.now in
    not_set job a b c.as_slice.ensures.names c.read_pictures.ensures.reads c.in-Ok.pictures (c.in-Ok.ensures {u = tt}).answer d c.read_part.ensures.reads
    c.in-Ok-read_part.marks (c.in-Ok-read_part.ensures {u = tt}).answer c.in-Err-set_against.fault (c.in-Err-set_against.ensures {u = tt})

pub returns-in-Err-set_against-clause-reads : goal.returns-in-Err-set_against-clause-reads
returns-in-Err-set_against-clause-reads g c =
    let a = g.S.Shelf.state c.args.shelf.now in
    let b = g.S.Shelf.state c.read_pictures.new.shelf in
    let d = g.S.Shelf.state c.read_part.new.shelf in
    marks_only c.args.job.now a b c.as_slice.ensures.names c.read_pictures.ensures.reads c.in-Ok.pictures (c.in-Ok.ensures {u = tt}).answer d c.read_part.ensures.reads

pub returns-in-Err-merged-clause-reads : goal.returns-in-Err-merged-clause-reads
returns-in-Err-merged-clause-reads g c =
    let a = g.S.Shelf.state c.args.shelf.now in
    let b = g.S.Shelf.state c.read_pictures.new.shelf in
    let d = g.S.Shelf.state c.read_part.new.shelf in
    marks_only c.args.job.now a b c.as_slice.ensures.names c.read_pictures.ensures.reads c.in-Ok.pictures (c.in-Ok.ensures {u = tt}).answer d c.read_part.ensures.reads

pub returns-clause-planned : goal.returns-clause-planned
returns-clause-planned g c =
    let a = g.S.Shelf.state c.args.shelf.now in
    let b = g.S.Shelf.state c.read_pictures.new.shelf in
    let d = g.S.Shelf.state c.read_part.new.shelf in
    let pictures = c.in-Ok.pictures in
    let canvas = c.in-Ok-merged.canvas in
    let merged = c.in-Ok-merged.ensures {u = tt} in
    merge_made c.args.job.now a b c.as_slice.ensures.names c.read_pictures.ensures.reads pictures (c.in-Ok.ensures {u = tt}).answer d c.read_part.ensures.reads
    c.in-Ok-read_part.marks (c.in-Ok-read_part.ensures {u = tt}).answer (c.in_default.ensures) canvas
    (record {
      volume = c.samples-k.ensures.volume;
      merge = merged.merge;
      full = merged.full;
      is_canvas = merged.canvas;
      stands = merged.stands;
    })
    (record { pictures = pictures; canvas = canvas; seams = c.total-seams.result }) (λ i. record { pictures = pictures; canvas = canvas; seams = c.total-seams.ensures i })

pub returns-clause-made : goal.returns-clause-made
returns-clause-made g c =
    let pictures = c.in-Ok.pictures in
    let set = c.in_default.ensures in
    let merged = c.in-Ok-merged.ensures {u = tt} in
    record {
      volume = c.samples-k.ensures.volume;
      sound = (c.in-Ok.ensures {u = tt}).sound;
      within = set.within;
      size = (merges_are_merged pictures.volume c.in-Ok-read_part.marks.volume c.in-Ok-merged.canvas.map merged.merge).size;
      full = merged.full;
      canvas = merged.canvas;
      stands = merged.stands;
    }

pub returns-clause-reads : goal.returns-clause-reads
returns-clause-reads g c =
    let a = g.S.Shelf.state c.args.shelf.now in
    let b = g.S.Shelf.state c.read_pictures.new.shelf in
    let d = g.S.Shelf.state c.read_part.new.shelf in
    marks_only c.args.job.now a b c.as_slice.ensures.names c.read_pictures.ensures.reads c.in-Ok.pictures (c.in-Ok.ensures {u = tt}).answer d c.read_part.ensures.reads
