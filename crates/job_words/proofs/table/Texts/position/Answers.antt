use Rattle.std.proofs.Common.{◌∙◌, ap, sym}
use Rattle.std.specs.Prelude.{position}
use Rattle.job_words.specs.Texts.{same_text}
use Rattle.job_words.proofs.Texting.{position-map}
use Rattle.job_words.proofs.table.Texts.position.Goals as goal

pub returns : goal.returns
returns c =
    c.position_of.ensures
    ∙ sym (position-map (λ text. text.now) (same_text c.args.text.now) c.all.result.now)
    ∙ ap (position (same_text c.args.text.now)) c.all.ensures
