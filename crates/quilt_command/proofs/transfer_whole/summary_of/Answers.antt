use Rattle.std.proofs.Common.{◌≡◌, ◌≤◌, ◌^◌, length, subst, sym}
use Rattle.cells.specs.Cells.{Cells, bytes_of}
use Rattle.quilt_command.proofs.Matching.{as_long, few_bytes}
use Rattle.quilt_command.proofs.transfer_whole.summary_of.Goals as goal

pub match_of-requires-clause-long : goal.match_of-requires-clause-long
match_of-requires-clause-long c =
    let made = c.args.made.now in
    subst (λ (v : Cells). length (bytes_of v) ≡ length (bytes_of made.target.volume)) (sym c.picture.ensures.picture) (as_long c.args.job.now made c.requires)

pub match_of-requires-clause-few : goal.match_of-requires-clause-few
match_of-requires-clause-few c =
    subst (λ (v : Cells). length (bytes_of v) ≤ 2 ^ 26) (sym c.picture.ensures.picture) (few_bytes c.args.job.now c.args.made.now c.requires)
