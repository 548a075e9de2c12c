use Rattle.std.proofs.Common.{◌≡◌, ◌+◌, ◌-◌, ◌*◌, ◌≤◌, subst, sym, ◌∙◌, Fits, w64}
use Rattle.std.specs.Prelude.{◌^◌}
use Rattle.cells.specs.Boxes.{HasCells}
use Rattle.boxes.proofs.ClosedForm.{closed_is}
use Rattle.boxes.proofs.PairNumbers.{along_fits, along_x, three_fit, two_fit}
use Rattle.boxes.proofs.counts.Counts.pairs_before.Goals as goal

pub returns-clause-before : goal.returns-clause-before
returns-clause-before c =
    let size = c.args.size in
    let s = c.args.self in
    let some : HasCells size = record { w = c.requires.small.axes.w.0; h = c.requires.small.axes.h.0; f = c.requires.small.axes.f.0 } in
    (λ k. ((c.from-4.ensures k - 1) * (c.from.ensures k + c.from-2.ensures k * c.from-3.ensures k) + c.from-5.ensures k) + c.pairs_along_y.ensures.is k + c.pairs_along_f.ensures.is k)
    ∙ sym (closed_is size some s.x s.y s.f c.requires.counts)

pub overflow_mul-along_x : goal.overflow_mul-along_x
overflow_mul-along_x c =
    let along : (c.from-4.result - 1) * (c.from.result + c.from-2.result * c.from-3.result) ≡ (c.args.size.w - 1) * (c.args.self.y + c.args.size.h * c.args.self.f) = λ k. (c.from-4.ensures k - 1) * (c.from.ensures k + c.from-2.ensures k * c.from-3.ensures k) in
    subst (Fits w64) (sym along) (along_fits _ c.args.self.x (along_x c.args.size c.args.self.x c.args.self.y c.args.self.f c.requires.small c.requires.counts)).0

pub overflow_add-along_x : goal.overflow_add-along_x
overflow_add-along_x c =
    let along : (c.from-4.result - 1) * (c.from.result + c.from-2.result * c.from-3.result) + c.from-5.result ≡ (c.args.size.w - 1) * (c.args.self.y + c.args.size.h * c.args.self.f) + c.args.self.x = λ k. (c.from-4.ensures k - 1) * (c.from.ensures k + c.from-2.ensures k * c.from-3.ensures k) + c.from-5.ensures k in
    subst (Fits w64) (sym along) (along_fits _ c.args.self.x (along_x c.args.size c.args.self.x c.args.self.y c.args.self.f c.requires.small c.requires.counts)).1

pub overflow_add-result : goal.overflow_add-result
overflow_add-result c =
    let along : (c.from-4.result - 1) * (c.from.result + c.from-2.result * c.from-3.result) + c.from-5.result ≡ (c.args.size.w - 1) * (c.args.self.y + c.args.size.h * c.args.self.f) + c.args.self.x = λ k. (c.from-4.ensures k - 1) * (c.from.ensures k + c.from-2.ensures k * c.from-3.ensures k) + c.from-5.ensures k in
    two_fit _ c.pairs_along_y.result (subst (λ n. n ≤ 2 ^ 37) (sym along) (along_fits _ c.args.self.x (along_x c.args.size c.args.self.x c.args.self.y c.args.self.f c.requires.small c.requires.counts)).2) c.pairs_along_y.ensures.few

pub overflow_add-result-2 : goal.overflow_add-result-2
overflow_add-result-2 c =
    let along : (c.from-4.result - 1) * (c.from.result + c.from-2.result * c.from-3.result) + c.from-5.result ≡ (c.args.size.w - 1) * (c.args.self.y + c.args.size.h * c.args.self.f) + c.args.self.x = λ k. (c.from-4.ensures k - 1) * (c.from.ensures k + c.from-2.ensures k * c.from-3.ensures k) + c.from-5.ensures k in
    three_fit _ c.pairs_along_y.result c.pairs_along_f.result (subst (λ n. n ≤ 2 ^ 37) (sym along) (along_fits _ c.args.self.x (along_x c.args.size c.args.self.x c.args.self.y c.args.self.f c.requires.small c.requires.counts)).2) c.pairs_along_y.ensures.few c.pairs_along_f.ensures.few
