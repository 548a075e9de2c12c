use Rattle.std.proofs.Common.{◌≡◌, ◌≤◌, true, rules, ap, subst, sym}
use Rattle.cells.specs.Cells.{Cells, count_of}
use Rattle.limits.specs.declared.bounds.TheConstants.{MOST_SAMPLE_CELLS}
use Rattle.sample_files.specs.Several.{AreSoundSamples, with_turns}
use Rattle.sample_files.proofs.WorkedLaws.{worked_sound}
use Rattle.sample_files.proofs.working.worked.Goals as goal

pub returns-clause-sound : goal.returns-clause-sound
returns-clause-sound c =
    let samples = c.args.samples in
    let on : c.args.turns ≡ true = search rules in
    let fits = subst (λ t. with_turns t (count_of samples.volume) ≤ MOST_SAMPLE_CELLS) on c.requires.fits in
    subst AreSoundSamples (ap (λ (v : Cells). record { form = samples.form; volume = v }) (sym (c.in_ok-volume.ensures {u = tt})))
    (worked_sound true samples c.requires.sound fits)
