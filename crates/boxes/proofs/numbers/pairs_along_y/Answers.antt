use Rattle.std.proofs.Common.{◌≡◌, ◌+◌, ◌-◌, ◌*◌, ◌≤◌, subst, sym, ◌∙◌, Fits, w64}
use Rattle.std.specs.Prelude.{if◌then◌else◌, nat_lt, ◌^◌}
use Rattle.boxes.proofs.PairNumbers.{along_fits, along_y, if_at_most, if_less, if_not_less}
use Rattle.boxes.proofs.numbers.pairs_along_y.Goals as goal
use Rattle.boxes.proofs.numbers.pairs_along_y.Goals.{then-at-size, else-at-size}

pub overflow_mul-result-2 : goal.overflow_mul-result-2
overflow_mul-result-2 c =
    let at = c.args.at in
    let h = c.args.size.h in
    let same : c.from-w.result * (c.from.result + (c.from-h.result - 1) * c.from-2.result) ≡ c.args.size.w * (at.y + (h - 1) * at.f) = λ k. c.from-w.ensures k * (c.from.ensures k + (c.from-h.ensures k - 1) * c.from-2.ensures k) in
    subst (Fits w64) (sym same) (along_fits _ _ (along_y c.args.size at.x at.y at.f (if nat_lt (at.y + 1) h then at.x else 0) c.requires.small c.requires.counts (if_at_most (nat_lt (at.y + 1) h) at.x))).0

pub overflow_add-result-2 : goal.overflow_add-result-2
overflow_add-result-2 c =
    let at = c.args.at in
    let h = c.args.size.h in
    let here : c.if-at-size.here ≡ (if nat_lt (at.y + 1) h then at.x else 0) = elim c.if-at-size.branch [
      | then-at-size w ↦ w.here-is ∙ sym (if_less (at.y + 1) h at.x w.if-at-size.true)
      | else-at-size w ↦ w.here-is ∙ sym (if_not_less (at.y + 1) h at.x w.if-at-size.false)
    ] in
    let same : c.from-w.result * (c.from.result + (c.from-h.result - 1) * c.from-2.result) + c.from-3.result ≡ c.args.size.w * (at.y + (h - 1) * at.f) + (if nat_lt (at.y + 1) h then at.x else 0) = λ k. c.from-w.ensures k * (c.from.ensures k + (c.from-h.ensures k - 1) * c.from-2.ensures k) + (c.from-3.ensures ∙ here) k in
    subst (Fits w64) (sym same) (along_fits _ _ (along_y c.args.size at.x at.y at.f (if nat_lt (at.y + 1) h then at.x else 0) c.requires.small c.requires.counts (if_at_most (nat_lt (at.y + 1) h) at.x))).1

pub returns-clause-few : goal.returns-clause-few
returns-clause-few c =
    let at = c.args.at in
    let h = c.args.size.h in
    let here : c.if-at-size.here ≡ (if nat_lt (at.y + 1) h then at.x else 0) = elim c.if-at-size.branch [
      | then-at-size w ↦ w.here-is ∙ sym (if_less (at.y + 1) h at.x w.if-at-size.true)
      | else-at-size w ↦ w.here-is ∙ sym (if_not_less (at.y + 1) h at.x w.if-at-size.false)
    ] in
    let same : c.from-w.result * (c.from.result + (c.from-h.result - 1) * c.from-2.result) + c.from-3.result ≡ c.args.size.w * (at.y + (h - 1) * at.f) + (if nat_lt (at.y + 1) h then at.x else 0) = λ k. c.from-w.ensures k * (c.from.ensures k + (c.from-h.ensures k - 1) * c.from-2.ensures k) + (c.from-3.ensures ∙ here) k in
    subst (λ n. n ≤ 2 ^ 37) (sym same) (along_fits _ _ (along_y c.args.size at.x at.y at.f (if nat_lt (at.y + 1) h then at.x else 0) c.requires.small c.requires.counts (if_at_most (nat_lt (at.y + 1) h) at.x))).2

pub returns-clause-is : goal.returns-clause-is
returns-clause-is c =
    let at = c.args.at in
    let h = c.args.size.h in
    let here : c.if-at-size.here ≡ (if nat_lt (at.y + 1) h then at.x else 0) = elim c.if-at-size.branch [
      | then-at-size w ↦ w.here-is ∙ sym (if_less (at.y + 1) h at.x w.if-at-size.true)
      | else-at-size w ↦ w.here-is ∙ sym (if_not_less (at.y + 1) h at.x w.if-at-size.false)
    ] in
    λ k. c.from-w.ensures k * (c.from.ensures k + (c.from-h.ensures k - 1) * c.from-2.ensures k) + (c.from-3.ensures ∙ here) k
