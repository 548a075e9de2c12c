use Rattle.std.proofs.Common.{arith}
use Rattle.std.proofs.lemmas.Grind.{common_steps}
use Rattle.std.proofs.Common.{inl, refl, subst, sym, ◌∙◌, ap}
use Rattle.std.specs.Prelude.{Ok, Err, codes}
use Rattle.std.proofs.lemmas.Result.{err_from_is_err_and}
use Rattle.job_words.specs.declared.job.Job.TheVariants.{Merge, Tile, Transfer}
use Rattle.job_words.specs.Jobs.{check_asked, grow_asked, job_of, loop_asked, merge_asked, quilt_asked, tile_asked, transfer_asked, trial_asked, upgrade_asked}
use Rattle.job_words.proofs.Commands.{IsUnknown, answered, passed_on, unknown, wrapped}
use Rattle.job_words.proofs.read.read_job.Goals as goal

pub returns-in_default-as_text-clause-exact : goal.returns-in_default-as_text-clause-exact
returns-in_default-as_text-clause-exact c =
    let is = c.in_default-as_text in
    let its : IsUnknown c.as_text.result.now = record { grow = is.not-grow; quilt = is.not-quilt; loops = is.not-loop; check = is.not-check; trial = is.not-trial; upgrade = is.not-upgrade; tile = is.not-tile; merge = is.not-merge; transfer = is.not-transfer } in
    inl (unknown c.as_slice.result.now _ c.in-len1-up.len_at_least (subst IsUnknown (c.as_text.ensures ∙ c.command-item.is) its) ∙ ap job_of c.as_slice.ensures)

pub returns-in-grow-clause-exact : goal.returns-in-grow-clause-exact
returns-in-grow-clause-exact c =
    answered (codes "grow") grow_asked (λ rest. refl) c.as_slice.result.now c.args.words.now _ c.read_grow.result c.in-len1-up.len_at_least
    (sym c.in-grow.is ∙ c.as_text.ensures ∙ c.command-item.is) c.as_slice.ensures c.read_grow.ensures.exact

pub returns-in-quilt-clause-exact : goal.returns-in-quilt-clause-exact
returns-in-quilt-clause-exact c =
    answered (codes "quilt") quilt_asked (λ rest. refl) c.as_slice.result.now c.args.words.now _ c.read_quilt.result c.in-len1-up.len_at_least
    (sym c.in-quilt.is ∙ c.as_text.ensures ∙ c.command-item.is) c.as_slice.ensures c.read_quilt.ensures.exact

pub returns-in-loop-clause-exact : goal.returns-in-loop-clause-exact
returns-in-loop-clause-exact c =
    answered (codes "loop") loop_asked (λ rest. refl) c.as_slice.result.now c.args.words.now _ c.read_loop.result c.in-len1-up.len_at_least
    (sym c.in-loop.is ∙ c.as_text.ensures ∙ c.command-item.is) c.as_slice.ensures c.read_loop.ensures.exact

pub returns-in-check-clause-exact : goal.returns-in-check-clause-exact
returns-in-check-clause-exact c =
    answered (codes "check") check_asked (λ rest. refl) c.as_slice.result.now c.args.words.now _ c.read_check.result c.in-len1-up.len_at_least
    (sym c.in-check.is ∙ c.as_text.ensures ∙ c.command-item.is) c.as_slice.ensures c.read_check.ensures.exact

pub returns-in-trial-clause-exact : goal.returns-in-trial-clause-exact
returns-in-trial-clause-exact c =
    answered (codes "trial") trial_asked (λ rest. refl) c.as_slice.result.now c.args.words.now _ c.read_trial.result c.in-len1-up.len_at_least
    (sym c.in-trial.is ∙ c.as_text.ensures ∙ c.command-item.is) c.as_slice.ensures c.read_trial.ensures.exact

pub returns-in-upgrade-clause-exact : goal.returns-in-upgrade-clause-exact
returns-in-upgrade-clause-exact c =
    answered (codes "upgrade") upgrade_asked (λ rest. refl) c.as_slice.result.now c.args.words.now _ c.read_upgrade.result c.in-len1-up.len_at_least
    (sym c.in-upgrade.is ∙ c.as_text.ensures ∙ c.command-item.is) c.as_slice.ensures c.read_upgrade.ensures.exact

pub returns-in_default-clause-exact : goal.returns-in_default-clause-exact
returns-in_default-clause-exact c = grind (arith, common_steps)

pub returns-in_ok-read_tile-in-tile-clause-exact : goal.returns-in_ok-read_tile-in-tile-clause-exact
returns-in_ok-read_tile-in-tile-clause-exact c =
    answered (codes "tile") tile_asked (λ rest. refl) c.as_slice.result.now c.args.words.now _ (Ok (Tile c.in_ok-read_tile-in-tile.field-0)) c.in-len1-up.len_at_least
    (sym c.in-tile.is ∙ c.as_text.ensures ∙ c.command-item.is) c.as_slice.ensures (wrapped Tile _ _ (c.in_ok-read_tile-in-tile.ensures {u = tt}).exact)

pub returns-in_ok-read_merge-in-merge-clause-exact : goal.returns-in_ok-read_merge-in-merge-clause-exact
returns-in_ok-read_merge-in-merge-clause-exact c =
    answered (codes "merge") merge_asked (λ rest. refl) c.as_slice.result.now c.args.words.now _ (Ok (Merge c.in_ok-read_merge-in-merge.field-0)) c.in-len1-up.len_at_least
    (sym c.in-merge.is ∙ c.as_text.ensures ∙ c.command-item.is) c.as_slice.ensures (wrapped Merge _ _ (c.in_ok-read_merge-in-merge.ensures {u = tt}).exact)

pub returns-in_ok-read_transfer-in-transfer-clause-exact : goal.returns-in_ok-read_transfer-in-transfer-clause-exact
returns-in_ok-read_transfer-in-transfer-clause-exact c =
    answered (codes "transfer") transfer_asked (λ rest. refl) c.as_slice.result.now c.args.words.now _ (Ok (Transfer c.in_ok-read_transfer-in-transfer.field-0)) c.in-len1-up.len_at_least
    (sym c.in-transfer.is ∙ c.as_text.ensures ∙ c.command-item.is) c.as_slice.ensures (wrapped Transfer _ _ (c.in_ok-read_transfer-in-transfer.ensures {u = tt}).exact)

pub returns-in_err-read_tile-in-tile-clause-exact : goal.returns-in_err-read_tile-in-tile-clause-exact
returns-in_err-read_tile-in-tile-clause-exact c =
    let p = err_from_is_err_and c.from_residual.result c.from_residual.ensures.1 in
    rw (p.1, p.2)
    (answered (codes "tile") tile_asked (λ rest. refl) c.as_slice.result.now c.args.words.now _ (Err c.in_err-read_tile-in-tile.field-0.0) c.in-len1-up.len_at_least
    (sym c.in-tile.is ∙ c.as_text.ensures ∙ c.command-item.is) c.as_slice.ensures (passed_on Tile _ _ (c.in_err-read_tile-in-tile.ensures {u = tt}).exact))

pub returns-in_err-read_merge-in-merge-clause-exact : goal.returns-in_err-read_merge-in-merge-clause-exact
returns-in_err-read_merge-in-merge-clause-exact c =
    let p = err_from_is_err_and c.from_residual-in_err-read_merge-in-merge.result c.from_residual-in_err-read_merge-in-merge.ensures.1 in
    rw (p.1, p.2)
    (answered (codes "merge") merge_asked (λ rest. refl) c.as_slice.result.now c.args.words.now _ (Err c.in_err-read_merge-in-merge.field-0.0) c.in-len1-up.len_at_least
    (sym c.in-merge.is ∙ c.as_text.ensures ∙ c.command-item.is) c.as_slice.ensures (passed_on Merge _ _ (c.in_err-read_merge-in-merge.ensures {u = tt}).exact))

pub returns-in_err-read_transfer-in-transfer-clause-exact : goal.returns-in_err-read_transfer-in-transfer-clause-exact
returns-in_err-read_transfer-in-transfer-clause-exact c =
    let p = err_from_is_err_and c.from_residual-in_err-read_transfer-in-transfer.result c.from_residual-in_err-read_transfer-in-transfer.ensures.1 in
    rw (p.1, p.2)
    (answered (codes "transfer") transfer_asked (λ rest. refl) c.as_slice.result.now c.args.words.now _ (Err c.in_err-read_transfer-in-transfer.field-0.0) c.in-len1-up.len_at_least
    (sym c.in-transfer.is ∙ c.as_text.ensures ∙ c.command-item.is) c.as_slice.ensures (passed_on Transfer _ _ (c.in_err-read_transfer-in-transfer.ensures {u = tt}).exact))
