use Rattle.std.proofs.Common.{◌<◌, ◌^◌}
use Rattle.std.proofs.lemmas.List.Elements.{All-from_get_or}
use Rattle.cert_file.proofs.number_lists.fit_16.Goals as goal

pub returns : goal.returns
returns c = All-from_get_or (λ n. n < 2 ^ 16) c.args.numbers.now 0 (λ i lt. (c.type_inv.numbers i).fits)
