use Rattle.std.proofs.Common.{[], ◌<◌, ◌^◌}
use Rattle.std.proofs.lemmas.List.Elements.{All-from_get_or}
use Rattle.cert_file.proofs.Putting.{walk_put}
use Rattle.cert_file.proofs.WalksAgain.{walk_again}
use Rattle.source_map.specs.Heads.{head_form}
use Rattle.cert_file.specs.RecordFiles.{record_magic, walk_file_form, walk_kind}
use Rattle.cert_file.proofs.walks.write_walk.Goals as goal

pub returns-clause-again : goal.returns-clause-again
returns-clause-again g c = walk_again c.args.head.now c.args.taps c.args.gap c.args.walk.now c.args.tables.now c.requires (record {
  frames = All-from_get_or (λ n. n < 2 ^ 16) c.args.walk.now 0 (λ i lt. (c.type_inv.walk i).fits);
  entries = All-from_get_or (λ n. n < 2 ^ 64) c.args.tables.now 0 (λ i lt. (c.type_inv.tables i).fits);
})

pub returns-clause-writes : goal.returns-clause-writes
returns-clause-writes g c =
    let was = g.S.Shelf.state c.args.shelf.now in
    c.finish.ensures.writes was (walk_file_form c.args.head.now c.args.taps c.args.gap c.args.walk.now c.args.tables.now)
    (walk_put c.args.name.now c.args.taps c.taps_byte.result c.args.gap c.args.walk.now c.args.tables.now c.taps_byte.ensures c.put_number.ensures c.put.ensures c.put_number-2.ensures c.put_all.ensures c.put_all-2.ensures
    was (head_form record_magic walk_kind c.args.head.now) (c.put_head.ensures was [] c.begin-file.ensures))

pub returns-clause-ok : goal.returns-clause-ok
returns-clause-ok g c =
    let was = g.S.Shelf.state c.args.shelf.now in
    c.finish.ensures.ok was (walk_file_form c.args.head.now c.args.taps c.args.gap c.args.walk.now c.args.tables.now)
    (walk_put c.args.name.now c.args.taps c.taps_byte.result c.args.gap c.args.walk.now c.args.tables.now c.taps_byte.ensures c.put_number.ensures c.put.ensures c.put_number-2.ensures c.put_all.ensures c.put_all-2.ensures
    was (head_form record_magic walk_kind c.args.head.now) (c.put_head.ensures was [] c.begin-file.ensures))

pub returns-clause-err : goal.returns-clause-err
returns-clause-err g c =
    let was = g.S.Shelf.state c.args.shelf.now in
    c.finish.ensures.err was (walk_file_form c.args.head.now c.args.taps c.args.gap c.args.walk.now c.args.tables.now)
    (walk_put c.args.name.now c.args.taps c.taps_byte.result c.args.gap c.args.walk.now c.args.tables.now c.taps_byte.ensures c.put_number.ensures c.put.ensures c.put_number-2.ensures c.put_all.ensures c.put_all-2.ensures
    was (head_form record_magic walk_kind c.args.head.now) (c.put_head.ensures was [] c.begin-file.ensures))

pub returns-clause-failed : goal.returns-clause-failed
returns-clause-failed g c =
    let was = g.S.Shelf.state c.args.shelf.now in
    c.finish.ensures.failed was (walk_file_form c.args.head.now c.args.taps c.args.gap c.args.walk.now c.args.tables.now)
    (walk_put c.args.name.now c.args.taps c.taps_byte.result c.args.gap c.args.walk.now c.args.tables.now c.taps_byte.ensures c.put_number.ensures c.put.ensures c.put_number-2.ensures c.put_all.ensures c.put_all-2.ensures
    was (head_form record_magic walk_kind c.args.head.now) (c.put_head.ensures was [] c.begin-file.ensures))
