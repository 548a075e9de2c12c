use Rattle.std.proofs.Common.{◌≡◌, ◌+◌, ◌/◌, ◌%◌, ◌^◌, ◌<◌, ap, sym, ◌∙◌, arith, w64, shr-shr}
use Rattle.std.proofs.lemmas.Nat.{shr_le}
use Rattle.std.proofs.lemmas.Nat.Bits.{bit_at-trailing_ones}
use Rattle.std.specs.Int.{bit_at, trailing_ones}
use Rattle.search_squares.proofs.lanes.marked_from.Goals as goal

pub returns : goal.returns
returns c = λ j lj.
    let marks = c.args.marks in
    let first = c.args.first in
    let count : c.trailing_ones.result ≡ trailing_ones w64 (marks / 2 ^ first) = c.trailing_ones.ensures ∙ ap (λ n. trailing_ones w64 (n / 2 ^ first)) c.from.ensures in
    let small : marks / 2 ^ first + 1 < 2 ^ 64 = omega (arith, shr_le marks first, c.ranges.marks.fits) in
    let set : bit_at (marks / 2 ^ first) j ≡ 1 = (bit_at-trailing_ones w64 (marks / 2 ^ first) small).2 j (omega (arith, count, lj)) in
    ap (λ n. n % 2) (sym (shr-shr marks first j)) ∙ set
