use Rattle.std.proofs.Common.{subst}
use Rattle.std.specs.Prelude.{Err}
use Rattle.shelf_traits.specs.Files.{Changes, content_of}
use Rattle.netpbm_p6.specs.Pictures.{IsRead, ReadsAs}
use Rattle.sample_files.proofs.OnePicture.{picture_fails}
use Rattle.sample_files.proofs.picture.read_part.Goals as goal

pub returns-in-Err-clause-answer : goal.returns-in-Err-clause-answer
returns-in-Err-clause-answer g c =
    let a = g.S.Shelf.state c.args.shelf.now in
    let b = g.S.Shelf.state c.read_p6.new.shelf in
    let failed = subst (λ name. ReadsAs name a b (Err c.in-Err.error)) c.as_text.ensures (c.in-Err.ensures {u = tt}).answer in
    record { error = c.in-Err.error; fails = picture_fails c.args.name.now a b c.in-Err.error failed; is = c.read_fault.ensures }

pub returns-in-Ok-clause-answer : goal.returns-in-Ok-clause-answer
returns-in-Ok-clause-answer g c =
    let a = g.S.Shelf.state c.args.shelf.now in
    let b = g.S.Shelf.state c.read_p6.new.shelf in
    subst (λ name. Changes a b (λ before after. IsRead (content_of before name) c.in-Ok.picture)) c.as_text.ensures (c.in-Ok.ensures {u = tt}).answer
