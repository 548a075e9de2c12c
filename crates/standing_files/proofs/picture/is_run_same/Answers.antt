use Rattle.std.proofs.Common.{◌≡◌, ◌∙◌, sym, arith}
use mathlib.Core.Bool.{false≢true}
use Rattle.std.proofs.lemmas.Bool.Decides.{Decides-eqb}
use Rattle.std.proofs.lemmas.Slice.Eq.{slice_eq-Decides}
use Rattle.standing_files.proofs.RunLaws.{row_of, runs_same}
use Rattle.standing_files.proofs.picture.is_run_same.Goals as goal

pub returns-then-samples : goal.returns-then-samples
returns-then-samples c = λ yes. absurd (false≢true yes)

pub returns-then-not-holds : goal.returns-then-not-holds
returns-then-not-holds c = λ yes. absurd (false≢true yes)

pub row-requires : goal.row-requires
row-requires c = row_of c.args.picture.now c.args.p c.args.w c.requires.some (c.holds-else-not-holds.ensures.0 c.if-not-holds-2.false)

pub row-requires-2 : goal.row-requires-2
row-requires-2 c = row_of c.args.samples.now c.args.from c.args.w c.requires.some (c.holds.ensures.0 c.if-not-holds.false)

pub returns : goal.returns
returns c = λ yes.
    let samples = c.args.samples.now in
    let picture = c.args.picture.now in
    let ks : samples.k ≡ picture.k = omega (arith, c.samples.ensures.samples, c.samples-2.ensures.samples, c.if-samples.false) in
    runs_same samples picture c.samples.ensures.volume c.samples-2.ensures.volume ks c.args.from c.args.p c.args.w
    (row_of samples c.args.from c.args.w c.requires.some (c.holds.ensures.0 c.if-not-holds.false))
    (row_of picture c.args.p c.args.w c.requires.some (c.holds-else-not-holds.ensures.0 c.if-not-holds-2.false))
    (sym c.row.ensures.bytes ∙ (slice_eq-Decides Decides-eqb _ _ _ c.eq.ensures).0 yes ∙ c.row-2.ensures.bytes)
