use Rattle.std.proofs.Common.{◌≡◌, ap, sym, ◌∙◌}
use Rattle.std.proofs.lemmas.Option.{same_Some}
use Rattle.std.specs.Prelude.{Some}
use Rattle.cells.specs.Places.{spot}
use Rattle.cells.specs.SizeLists.{size_of_part}
use Rattle.grown.specs.declared.limit.Kind.TheVariants.{Copies, Patches}
use Rattle.grown.specs.BoxLimit.{box_for}
use Rattle.grown.specs.Counted.{box_at}
use Rattle.grown.proofs.limit.boxes_of.Goals as goal

pub returns-in-Grid : goal.returns-in-Grid
returns-in-Grid c =
    let plan = c.args.plan.now in
    let sample = c.args.sample.now in
    let first : c.at.result ≡ sample.size = same_Some c.at.result sample.size (c.at.ensures.size ∙ ap (λ sizes. size_of_part sizes 1) c.sizes.ensures) in (
      record { w = c.at.ensures.axes.w; h = c.at.ensures.axes.h; f = c.at.ensures.axes.f },
      λ x y f. (λ i. box_for (c.in-Grid.is i) plan.size sample (spot x y f)) ∙ (λ i. Some (box_at (record { kind = Copies; len = sym first i; overlap = c.in-Grid.overlap }) plan.size x y f)),
    )

pub returns-in-Sub : goal.returns-in-Sub
returns-in-Sub c =
    let plan = c.args.plan.now in
    let sample = c.args.sample.now in
    let axes = c.requires.small.axes in
    let some = c.window_size.ensures.some (rw c.in-Sub.is at c.requires.patch) (record { w = axes.w.0; h = axes.h.0; f = axes.f.0 }) in
    let room = c.window_size.ensures.room in (
      record { w = (some.w, room.w); h = (some.h, room.h); f = (some.f, room.f) },
      λ x y f. (λ i. box_for (c.in-Sub.is i) plan.size sample (spot x y f)) ∙ (λ i. Some (box_at (record { kind = Patches; len = sym c.window_size.ensures.size i; overlap = c.in-Sub.overlap }) plan.size x y f)),
    )
