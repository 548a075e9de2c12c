use Rattle.std.proofs.Common.{[], ◌++◌, length, take, get_or, subst, sym, arith}
use Rattle.std.proofs.lemmas.List.{take_all, take_more}
use Rattle.std.proofs.lemmas.List.Elements.{All-push}
use Rattle.std.specs.List.{flat_map}
use Rattle.std.specs.Prelude.{All}
use Rattle.file_bytes.specs.Fields.{field_32}
use Rattle.file_bytes.specs.Writing.{HasPut, Puts}
use Rattle.file_bytes.proofs.WritingLaws.{put_none}
use Rattle.cert_file.specs.BlockForms.{IsBlockInForm, IsWideBlock, block_form}
use Rattle.cert_file.proofs.BlocksAgain.{blocks_again}
use Rattle.cert_file.proofs.Putting.{one_more_put}
use Rattle.source_map.specs.Heads.{head_form}
use Rattle.cert_file.specs.RecordFiles.{record_magic, blocks_form, blocks_kind}
use Rattle.cert_file.proofs.blocks.write_blocks.Goals as goal

pub loop-block-init : goal.loop-block-init
loop-block-init g c =
    let state = g.S.Shelf.state in
    let was = state c.args.shelf.now in
    let head = head_form record_magic blocks_kind c.args.head.now in
    record {
      put = put_none c.args.name.now (state c.put_number.new.shelf) c.put_number.new.self was (head ++ field_32 (length c.args.blocks.now)) (c.put_number.ensures was head (c.put_head.ensures was [] c.begin-file.ensures));
      wide = λ i d lt. absurd (omega arith);
    }

pub loop-block-preserved : goal.loop-block-preserved
loop-block-preserved g c =
    let state = g.S.Shelf.state in
    let name = c.args.name.now in
    let field = block_form in
    let items = c.args.blocks.now in
    let i = c.loop-block.block-index in
    let item = c.block-item.result in
    record {
      put =
          one_more_put name (head_form record_magic blocks_kind c.args.head.now ++ field_32 (length items)) field items i item (state c.args.shelf.now) (state c.loop-block.shelf) (state c.put_block.new.shelf)
          c.loop-block.file c.put_block.new.file c.loop-block-test.true c.loop-block.invariant.put
          (subst (λ block. Puts name (field block) (state c.loop-block.shelf) (state c.put_block.new.shelf) c.loop-block.file c.put_block.new.file) c.block-item.is c.put_block.ensures.put);
      wide = subst (All IsWideBlock) (sym (take_more items i item c.loop-block-test.true)) (All-push IsWideBlock (take i items) (get_or items i item) c.loop-block.invariant.wide (subst IsWideBlock c.block-item.is c.put_block.ensures.wide));
    }

pub returns-clause-again : goal.returns-clause-again
returns-clause-again g c = λ limits. blocks_again c.args.head.now c.args.blocks.now limits (subst (All IsWideBlock) (take_all c.loop-block.block-index c.args.blocks.now c.loop-block-test.false) c.loop-block.invariant.wide)

pub returns-clause-writes : goal.returns-clause-writes
returns-clause-writes g c =
    let state = g.S.Shelf.state in
    let was = state c.args.shelf.now in
    c.finish.ensures.writes was (blocks_form c.args.head.now c.args.blocks.now)
    (subst (λ blocks. HasPut c.args.name.now (head_form record_magic blocks_kind c.args.head.now ++ field_32 (length c.args.blocks.now) ++ flat_map block_form blocks) was (state c.loop-block.shelf) c.loop-block.file)
    (take_all c.loop-block.block-index c.args.blocks.now c.loop-block-test.false) c.loop-block.invariant.put)

pub returns-clause-ok : goal.returns-clause-ok
returns-clause-ok g c =
    let state = g.S.Shelf.state in
    let was = state c.args.shelf.now in
    c.finish.ensures.ok was (blocks_form c.args.head.now c.args.blocks.now)
    (subst (λ blocks. HasPut c.args.name.now (head_form record_magic blocks_kind c.args.head.now ++ field_32 (length c.args.blocks.now) ++ flat_map block_form blocks) was (state c.loop-block.shelf) c.loop-block.file)
    (take_all c.loop-block.block-index c.args.blocks.now c.loop-block-test.false) c.loop-block.invariant.put)

pub returns-clause-err : goal.returns-clause-err
returns-clause-err g c =
    let state = g.S.Shelf.state in
    let was = state c.args.shelf.now in
    c.finish.ensures.err was (blocks_form c.args.head.now c.args.blocks.now)
    (subst (λ blocks. HasPut c.args.name.now (head_form record_magic blocks_kind c.args.head.now ++ field_32 (length c.args.blocks.now) ++ flat_map block_form blocks) was (state c.loop-block.shelf) c.loop-block.file)
    (take_all c.loop-block.block-index c.args.blocks.now c.loop-block-test.false) c.loop-block.invariant.put)

pub returns-clause-failed : goal.returns-clause-failed
returns-clause-failed g c =
    let state = g.S.Shelf.state in
    let was = state c.args.shelf.now in
    c.finish.ensures.failed was (blocks_form c.args.head.now c.args.blocks.now)
    (subst (λ blocks. HasPut c.args.name.now (head_form record_magic blocks_kind c.args.head.now ++ field_32 (length c.args.blocks.now) ++ flat_map block_form blocks) was (state c.loop-block.shelf) c.loop-block.file)
    (take_all c.loop-block.block-index c.args.blocks.now c.loop-block-test.false) c.loop-block.invariant.put)

pub put_block-requires : goal.put_block-requires
put_block-requires g c = subst IsBlockInForm (sym c.block-item.is) (c.requires.each c.loop-block.block-index c.block-item.result c.loop-block-test.true)
