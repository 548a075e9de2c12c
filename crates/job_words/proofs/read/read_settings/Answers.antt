use Rattle.std.proofs.lemmas.Grind.{common_steps}
use Rattle.std.proofs.Common.{◌≡◌, ◌≤◌, ◌+◌, ◌++◌, ◌∷◌, [], length, arith, sym, ap, subst, ◌∙◌, length-append}
use Rattle.std.specs.Prelude.{Ok, Err}
use Rattle.std.proofs.lemmas.Result.{err_from_is_err_and}
use Rattle.job_words.specs.Words.{AnswersAs, setting_of}
use Rattle.job_words.proofs.Accepting.{accepted}
use Rattle.job_words.proofs.Counting.{set_count, set_count_le, one_more_set}
use Rattle.job_words.proofs.Reading.{word_read, no_fault, refused}
use Rattle.job_words.proofs.read.read_settings.Goals as goal

pub overflow_cast-i : goal.overflow_cast-i
overflow_cast-i c = omega (arith, c.loop-word.invariant.few, set_count_le c.args.rows.now c.loop-word.settings.items, c.len.ensures, c.requires)

pub overflow_add-i : goal.overflow_add-i
overflow_add-i c = omega (arith, c.loop-word.invariant.few, set_count_le c.args.rows.now c.loop-word.settings.items, c.len.ensures, c.requires)

pub loop-word-preserved : goal.loop-word-preserved
loop-word-preserved c =
    let rows = c.args.rows.now in
    let settings = c.loop-word.settings.items in
    let new = c.in_ok-setting.setting in
    let grown = c.in_ok-add.ensures {u = tt} in
    let ok : setting_of rows (c.len.result + 2) settings c.word-item.result ≡ Ok new =
    ap (setting_of rows (c.len.result + 2) settings) (sym c.as_text.ensures) ∙ ap (λ s. setting_of rows (c.len.result + 2) s c.as_text.result.now) (sym c.deref.ensures.value)
    ∙ no_fault (setting_of rows (c.len.result + 2) c.deref.result.now c.as_text.result.now) new c.in_ok-setting.ensures in
    let read = word_read rows settings c.args.words.now c.loop-word.word-index (c.len.result + 2) c.word-item.result new _ c.loop-word-test.true c.word-item.is (omega (arith, c.len.ensures)) ok c.loop-word.invariant.rest in
    let more = one_more_set rows settings new (accepted rows (c.len.result + 2) settings c.word-item.result new ok) in
    let few : length (settings ++ new ∷ []) ≤ set_count rows (settings ++ new ∷ []) = omega (arith, more, c.loop-word.invariant.few, length-append settings (new ∷ [])) in
    rw grown (record { rest = read; few = few })

pub returns-in_err-setting-clause-err : goal.returns-in_err-setting-clause-err
returns-in_err-setting-clause-err c =
    let rows = c.args.rows.now in
    let settings = c.loop-word.settings.items in
    let n = c.len.result + 2 in
    let word = c.word-item.result in
    let fault = c.in_err-setting.field-0.0 in
    let p = err_from_is_err_and c.from_residual.result c.from_residual.ensures.1 in
    let same : setting_of rows n c.deref.result.now c.as_text.result.now ≡ setting_of rows n settings word =
    ap (λ s. setting_of rows n s c.as_text.result.now) c.deref.ensures.value ∙ ap (setting_of rows n settings) c.as_text.ensures in
    rw (p.1, p.2)
    (refused rows settings c.args.words.now c.loop-word.word-index n word fault _ c.loop-word-test.true c.word-item.is (omega (arith, c.len.ensures))
    (subst (λ r. AnswersAs r (Err fault)) same (c.in_err-setting.ensures {u = tt})) c.loop-word.invariant.rest)

pub returns-clause-ok : goal.returns-clause-ok
returns-clause-ok c = grind (arith, common_steps)
