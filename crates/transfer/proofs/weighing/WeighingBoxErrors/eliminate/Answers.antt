use Rattle.std.proofs.Common.{◌≡◌, ℕ, ◌+◌, ◌-◌, ◌*◌, ◌∙◌, sym, subst}
use Rattle.std.proofs.Math.Nat.{add_comm, le-add_left, le-add_right}
use Rattle.cells.specs.declared.place.At.{At}
use Rattle.map_canvas.specs.Choices.{laid_from}
use Rattle.patch_place.specs.BoxErrors.{sum_from}
use Rattle.search_squares.specs.Eliminations.{AreEliminatedBy}
use Rattle.transfer.specs.Weighing.{aimed, sum_over, weighed_error}
use Rattle.transfer.proofs.weighing.WeighingBoxErrors.eliminate.Goals as goal

pub returns-then-self-lt100 : goal.returns-then-self-lt100
returns-then-self-lt100 c =
    let e = c.args.self.now in
    let here : c.args.placement.now.rect ≡ e.here.rect = c.requires.asked.box in
    let there : e.first ≡ e.there.rect = (c.requires.ready.aims c.args.placement.now c.requires.asked).box in
    let turned : (at : At) → (100 - e.alpha) * sum_over e.there (laid_from e.there.rect at) + e.alpha * sum_over e.here (laid_from e.here.rect at) ≡ sum_from (weighed_error e) c.args.placement.now.rect at =
    λ at. add_comm ((100 - e.alpha) * sum_over e.there (laid_from e.there.rect at)) (e.alpha * sum_over e.here (laid_from e.here.rect at))
    ∙ (λ i. e.alpha * sum_over e.here (laid_from (sym here i) at) + (100 - e.alpha) * sum_over e.there (laid_from (sym there i) at)) in
    subst (λ sum. AreEliminatedBy sum c.eliminate_both.result) (λ i at. turned at i) c.eliminate_both.ensures

pub returns : goal.returns
returns c =
    let e = c.args.self.now in
    let rect = c.args.placement.now.rect in
    let sum : At → ℕ = sum_from (weighed_error e) rect in
    c.or.ensures sum
    (c.eliminate_times-away.ensures sum (λ at. le-add_left ((100 - e.alpha) * sum_over e.there (aimed e (laid_from rect at))) (e.alpha * sum_over e.here (laid_from rect at))))
    (c.eliminate_times-over.ensures sum (λ at. le-add_right (e.alpha * sum_over e.here (laid_from rect at)) ((100 - e.alpha) * sum_over e.there (aimed e (laid_from rect at)))))
