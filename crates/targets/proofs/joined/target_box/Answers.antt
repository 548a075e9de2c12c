use Rattle.std.proofs.Common.{◌≡◌, ◌∙◌, ap, sym, subst, true}
use Rattle.std.specs.Prelude.{Some, replicate}
use Rattle.cells.specs.declared.place.At.{At}
use Rattle.cells.specs.declared.place.Box3.{Box3}
use Rattle.cells.specs.declared.place.Size.{Size}
use Rattle.cells.specs.Cells.{Cells, Holds, sizes_of}
use Rattle.cells.specs.Places.{cell_count, spot}
use Rattle.cells.specs.SizeLists.{stock_place}
use Rattle.cells.proofs.PartBoxes.{held_small}
use Rattle.map_canvas.specs.Canvases.{CanvasState}
use Rattle.map_canvas.specs.Choices.{Fits, IsAfter, laid_from}
use Rattle.targets.specs.Joined.{at_first, target_place}
use Rattle.targets.proofs.Aims.{all_new, first_holds}
use Rattle.targets.proofs.Joining.{both_sizes, target_held, target_step}
use Rattle.targets.proofs.joined.target_box.Goals as goal

pub empty-requires-clause-small : goal.empty-requires-clause-small
empty-requires-clause-small c =
    let sample = c.args.sample.now in
    let target = c.args.target.now in
    let rect = c.args.rect.now in
    let there = target_place sample target rect.corner in
    held_small c.args.joined.now there rect.size c.samples-k.ensures.volume c.requires.some
    (subst (λ (v : Cells). Holds v there rect.size) (sym c.requires.joined) (target_held sample target c.samples-sample.ensures.volume c.requires.can rect.corner rect.size c.requires.inside))

pub put_choice-requires-clause-fits : goal.put_choice-requires-clause-fits
put_choice-requires-clause-fits c =
    let sample = c.args.sample.now in
    let target = c.args.target.now in
    let joined = c.args.joined.now in
    let rect = c.args.rect.now in
    let there = target_place sample target rect.corner in
    let size_is : c.in_ok-canvas.canvas.map.size ≡ rect.size = ap (λ (a : CanvasState). a.map.size) c.in_ok-canvas.ensures.empty in
    let from_is : c.stock-from.result ≡ there = c.stock-from.ensures ∙ ap (λ sizes. stock_place sizes 2 rect.corner) (c.sizes.ensures ∙ ap sizes_of c.requires.joined ∙ both_sizes sample target c.samples-sample.ensures.volume c.requires.can) in
    let base : Fits rect.size joined (laid_from (at_first rect) there) = record {
      some = c.requires.some;
      inside = first_holds rect.size;
      sources = subst (λ (v : Cells). Holds v there rect.size) (sym c.requires.joined) (target_held sample target c.samples-sample.ensures.volume c.requires.can rect.corner rect.size c.requires.inside);
    } in
    subst (λ (s : Size). Fits s joined (record { rect = c.at_first.result; from = c.stock-from.result })) (sym size_is)
    (subst (λ (r : Box3). Fits rect.size joined (record { rect = r; from = c.stock-from.result })) (sym c.at_first.ensures)
    (subst (λ (p : At). Fits rect.size joined (record { rect = at_first rect; from = p })) (sym from_is) base))

pub returns : goal.returns
returns c =
    let sample = c.args.sample.now in
    let target = c.args.target.now in
    let rect = c.args.rect.now in
    let there = target_place sample target rect.corner in
    let old = c.in_ok-canvas.canvas.map in
    let new = c.put_choice.new.self.map in
    let choice = c.deref.result.now in
    let size_is : old.size ≡ rect.size = ap (λ (a : CanvasState). a.map.size) c.in_ok-canvas.ensures.empty in
    let from_is : c.stock-from.result ≡ there = c.stock-from.ensures ∙ ap (λ sizes. stock_place sizes 2 rect.corner) (c.sizes.ensures ∙ ap sizes_of c.requires.joined ∙ both_sizes sample target c.samples-sample.ensures.volume c.requires.can) in
    let after : IsAfter old (laid_from (at_first rect) there) choice new =
    subst (λ (p : At). IsAfter old (laid_from (at_first rect) p) choice new) from_is
    (subst (λ (r : Box3). IsAfter old (laid_from r c.stock-from.result) choice new) c.at_first.ensures c.put_choice.ensures.after) in
    let all : choice ≡ replicate (cell_count rect.size) true = c.deref.ensures.value ∙ c.in_ok-choice.ensures.items_if_clones_equal (λ y e. e) ∙ ap (λ n. replicate n true) c.cells.ensures in
    record {
      size = c.put_choice.ensures.after.size ∙ size_is;
      over = c.put_choice.ensures.stands;
      sources = λ x y f lx ly lf. all_new rect there old new choice after all x y f lx ly lf ∙ ap Some (target_step sample target rect.corner (spot x y f));
    }
