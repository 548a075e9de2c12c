use Rattle.std.proofs.Common.{◌≡◌, ◌∙◌, ◌++◌, ap, sym}
use Rattle.std.specs.Prelude.{decimal}
use Rattle.std.proofs.lemmas.Bool.Decides.{Decides-eqb}
use Rattle.std.proofs.lemmas.Slice.Eq.{strip_prefix_is}
use Rattle.job_words.specs.Texts.{same_text}
use Rattle.job_words.proofs.Texting.{same_after, same_not, same_turned}
use Rattle.job_words.proofs.keys.is_numbered.Goals as goal

pub returns-in-Some : goal.returns-in-Some
returns-in-Some c =
    let stem = c.args.stem.now in
    let digits = decimal c.args.number in
    let split = strip_prefix_is Decides-eqb c.as_bytes.result.now c.as_bytes-2.result.now c.strip_prefix.result c.strip_prefix.ensures.cases in
    let whole = rw c.in-Some.is at split in
    let text : c.args.text.now ≡ stem ++ c.in-Some.rest.now =
    sym c.as_bytes.ensures.value ∙ whole ∙ ap (λ s. s ++ c.in-Some.rest.now) c.as_bytes-2.ensures.value in
    c.eq.ensures ∙ ap (same_text c.in-Some.rest.now) (c.as_bytes-in-Some.ensures.value ∙ c.format.ensures.text)
    ∙ same_turned c.in-Some.rest.now digits ∙ sym (same_after stem digits c.in-Some.rest.now) ∙ ap (same_text (stem ++ digits)) (sym text)

pub returns-in-None : goal.returns-in-None
returns-in-None c =
    let digits = decimal c.args.number in
    let split = strip_prefix_is Decides-eqb c.as_bytes.result.now c.as_bytes-2.result.now c.strip_prefix.result c.strip_prefix.ensures.cases in
    let none = rw c.in-None.is at split in
    sym (same_not (c.args.stem.now ++ digits) c.args.text.now
    (λ e. none digits (c.as_bytes.ensures.value ∙ sym e ∙ ap (λ s. s ++ digits) (sym c.as_bytes-2.ensures.value))))
