use Rattle.std.proofs.Common.{◌≡◌, ◌+◌, ◌-◌, take, drop, ap, ◌∙◌, sym, subst, arith}
use Rattle.source_map.specs.Waiting.{PlaceWaits}
use Rattle.source_map.proofs.WaitingLaws.{place_waits}
use Rattle.source_map.proofs.waiting.waiting_place.Goals as goal

pub returns-then-from-size-3-clause-waits : goal.returns-then-from-size-3-clause-waits
returns-then-from-size-3-clause-waits c =
    let i = c.args.i in
    let waiting = c.args.waiting.now in
    let x_width : i + 2 - i ≡ 2 = omega arith in
    let y_width : i + 4 - (i + 2) ≡ 2 = omega arith in
    let f_width : i + 6 - (i + 4) ≡ 2 = omega arith in
    subst (PlaceWaits c.args.size waiting i) (sym c.place_at.ensures)
    (place_waits c.args.size waiting i c.of-x.result c.of-y.result c.of-f.result c.requires
    (omega arith) (omega arith) (omega arith) (omega arith) (omega arith) (omega arith)
    (c.of-x.ensures ∙ ap (λ n. take n (drop i waiting)) x_width)
    (c.of-y.ensures ∙ ap (λ n. take n (drop (i + 2) waiting)) y_width)
    (c.of-f.ensures ∙ ap (λ n. take n (drop (i + 4) waiting)) f_width))
