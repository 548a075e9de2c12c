use Rattle.std.proofs.Common.{◌≡◌, true, false, subst}
use Rattle.std.specs.Prelude.{Ok, Err}
use Rattle.sample_files.specs.declared.form.Form.TheVariants.{Clip}
use Rattle.shelf_traits.specs.Files.{InFile}
use Rattle.sample_files.specs.Samples.{begins_clip}
use Rattle.sample_files.proofs.Begins.{read_by_first}
use Rattle.sample_files.proofs.sample.read_sample_within.Goals as goal

pub returns-in-Ok-clause-answer : goal.returns-in-Ok-clause-answer
returns-in-Ok-clause-answer g c =
    let a = g.S.Shelf.state c.args.shelf.now in
    let b = g.S.Shelf.state c.begins_clip.new.shelf in
    let d = g.S.Shelf.state c.read_clip.new.shelf in
    read_by_first c.args.most c.args.name.now a b d true c.begins_clip.ensures.reads c.in-Ok.ensures.reads
    (subst (λ t. InFile c.args.name.now a b (λ bytes. begins_clip bytes ≡ t)) (c.if-branch.true) (c.in_ok-begins_clip.ensures {u = tt}).begins)
    (Ok (record { form = Clip c.in-Ok.clip.form; volume = c.in-Ok.clip.volume })) c.in-Ok.ensures.answer

pub returns-in-Err-clause-answer : goal.returns-in-Err-clause-answer
returns-in-Err-clause-answer g c =
    let a = g.S.Shelf.state c.args.shelf.now in
    let b = g.S.Shelf.state c.begins_clip.new.shelf in
    let d = g.S.Shelf.state c.read_clip.new.shelf in
    read_by_first c.args.most c.args.name.now a b d true c.begins_clip.ensures.reads c.in-Err.ensures.reads
    (subst (λ t. InFile c.args.name.now a b (λ bytes. begins_clip bytes ≡ t)) (c.if-branch.true) (c.in_ok-begins_clip.ensures {u = tt}).begins)
    (Err c.in-Err.error) c.in-Err.ensures.answer

pub returns-clause-answer : goal.returns-clause-answer
returns-clause-answer g c =
    let a = g.S.Shelf.state c.args.shelf.now in
    let b = g.S.Shelf.state c.begins_clip.new.shelf in
    let d = g.S.Shelf.state c.read_as_picture.new.shelf in
    read_by_first c.args.most c.args.name.now a b d false c.begins_clip.ensures.reads c.read_as_picture.ensures.reads
    (subst (λ t. InFile c.args.name.now a b (λ bytes. begins_clip bytes ≡ t)) (c.if-branch.false) (c.in_ok-begins_clip.ensures {u = tt}).begins)
    c.read_as_picture.result (c.read_as_picture.ensures.answer c.args.most)
