use Rattle.std.proofs.lemmas.Grind.{common_steps}
use Rattle.std.proofs.lemmas.Int.{ints}
use Rattle.cells.proofs.BoxTests.{of_inside, on_axis_bounds}
use Rattle.std.proofs.Common.{to_z, of_z, ◌≡◌, ◌≤◌, ◌-◌, ◌∷◌, List, ℕ, ap, sym, ◌∙◌, subst, arith}
use Rattle.std.specs.Prelude.{pos, ◌+ℤ◌, FitsSigned, length}
use Rattle.std.specs.Int.{w32}
use Rattle.cells.specs.declared.place.Size.{Size}
use Rattle.cells.specs.declared.place.At.{At}
use Rattle.cells.specs.SizeLists.{frames_to_part, stock_place}
use Rattle.cells.proofs.SizeLaws.{near_back, stock_fits, stock_is, stock_sum}
use Rattle.cells.proofs.sizes.Sizes.stock.Goals as goal

pub sum_of-requires : goal.sum_of-requires
sum_of-requires c =
    let size = c.at-size.result in
    let inside = c.requires.inside size (sym c.at-size.ensures.size) in
    let n = frames_to_part (c.self.inside.first ∷ c.as_slice.result.now) (c.args.part - 1) in
    let few : length c.args.self.now ≤ 16 = subst (λ (xs : List Size). length xs ≤ 16) c.self.view_is c.self.invariant.few in
    let le : n ≤ 65552 = omega (arith, c.frames_before-before.ensures.small, few, c.requires.to) in
    subst (FitsSigned w32) (sym (stock_sum size c.args.at c.frames_before-before.result n c.at-size.ensures.axes inside c.frames_before-before.ensures.frames le))
    (stock_fits size c.args.at n c.at-size.ensures.axes inside le)

pub returns : goal.returns
returns c =
    let size = c.at-size.result in
    let inside = c.requires.inside size (sym c.at-size.ensures.size) in
    let n = frames_to_part (c.self.inside.first ∷ c.as_slice.result.now) (c.args.part - 1) in
    let few : length c.args.self.now ≤ 16 = subst (λ (xs : List Size). length xs ≤ 16) c.self.view_is c.self.invariant.few in
    let le : n ≤ 65552 = omega (arith, c.frames_before-before.ensures.small, few, c.requires.to) in
    let on = of_inside size c.args.at inside in
    let f : c.sum_of.result ≡ c.args.at.f +ℤ pos n =
    c.sum_of.ensures ∙ stock_sum size c.args.at c.frames_before-before.result n c.at-size.ensures.axes inside c.frames_before-before.ensures.frames le in
    (λ k. record {
      x = near_back c.args.at.x (on_axis_bounds size.w c.args.at.x on.x).0 (omega (arith, ints, (on_axis_bounds size.w c.args.at.x on.x).1, c.at-size.ensures.axes.w.1)) k;
      y = near_back c.args.at.y (on_axis_bounds size.h c.args.at.y on.y).0 (omega (arith, ints, (on_axis_bounds size.h c.args.at.y on.y).1, c.at-size.ensures.axes.h.1)) k;
      f = subst (λ z. to_z w32 (of_z w32 z) ≡ c.args.at.f +ℤ pos n) (sym f)
          (near_back (c.args.at.f +ℤ pos n) (omega (arith, ints, (on_axis_bounds size.f c.args.at.f on.f).0)) (omega (arith, ints, le, (on_axis_bounds size.f c.args.at.f on.f).1, c.at-size.ensures.axes.f.1))) k;
    })
    ∙ ap (λ (more : List Size). at_frames c.args.at (frames_to_part (c.self.inside.first ∷ more) (c.args.part - 1))) c.as_slice.ensures.sizes
    ∙ sym (stock_is (c.self.inside.first ∷ c.self.inside.more) c.args.part c.args.at c.requires.from) ∙ ap (λ (xs : List Size). stock_place xs c.args.part c.args.at) c.self.view_is
  where
    at_frames : At → ℕ → At
    at_frames p n = record { x = p.x; y = p.y; f = p.f +ℤ pos n }

pub frames_before-before-requires-clause-sizes : goal.frames_before-before-requires-clause-sizes
frames_before-before-requires-clause-sizes c = grind (arith, common_steps)

pub frames_before-before-requires-clause-parts : goal.frames_before-before-requires-clause-parts
frames_before-before-requires-clause-parts c = grind (arith, common_steps)
