use Rattle.std.proofs.Common.{◌≡◌, ◌+◌, ◌%◌, ◌∙◌, length, sym, subst, arith, Fits, w32}
use Rattle.std.specs.Simd.Lanes.{zip2}
use Rattle.std.proofs.lemmas.Simd.{length-zip2}
use Rattle.search_squares.specs.Bounds.{IsMarked}
use Rattle.search_squares.proofs.Marks.{marked_above, mask_fits, wide_mask_is}
use Rattle.search_squares.proofs.Vectors.{added_at_most}
use Rattle.search_squares.proofs.lanes.marks_of_terms.Goals as goal

pub overflow_cast-result : goal.overflow_cast-result
overflow_cast-result c =
    let some = c.taken.result in
    let others = c.taken-2.result in
    let lanes = zip2 (λ a b. (a + b) % 4294967296) some others in
    let long : length lanes ≡ 32 = length-zip2 _ some others (c.taken.ensures.long ∙ sym c.taken-2.ensures.long) ∙ c.taken.ensures.long in
    subst (Fits w32) (sym (wide_mask_is c.args.most lanes long)) (mask_fits c.args.most lanes long)

pub returns : goal.returns
returns c = λ j lj marked.
    let some = c.taken.result in
    let others = c.taken-2.result in
    let lanes = zip2 (λ a b. (a + b) % 4294967296) some others in
    let long : length lanes ≡ 32 = length-zip2 _ some others (c.taken.ensures.long ∙ sym c.taken-2.ensures.long) ∙ c.taken.ensures.long in
    let above = marked_above c.args.most lanes long j lj (subst (λ m. IsMarked m j) (wide_mask_is c.args.most lanes long) marked) in
    omega (arith, above, added_at_most some others j, c.taken.ensures.at_most j, c.taken-2.ensures.at_most j)
