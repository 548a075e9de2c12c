use Rattle.std.proofs.Common.{◌<◌, ◌^◌}
use Rattle.std.proofs.lemmas.List.Elements.{All-from_get_or}
use Rattle.loop_command.proofs.plan.are_wide.Goals as goal

pub returns : goal.returns
returns c = record {
  frames = All-from_get_or (λ n. n < 2 ^ 16) c.args.walk.now 0 (λ i lt. (c.type_inv.walk i).fits);
  entries = All-from_get_or (λ n. n < 2 ^ 64) c.args.tables.now 0 (λ i lt. (c.type_inv.tables i).fits);
}
