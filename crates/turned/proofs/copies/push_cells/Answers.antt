use Rattle.std.proofs.Common.{arith, ℕ, Bor, List, ◌≡◌, ◌++◌, ◌∙◌, ap, refl, sym, subst}
use Rattle.std.specs.Prelude.{IsSome, Option, None, Some, option_copied}
use Rattle.std.proofs.lemmas.List.{append-nil, append_assoc}
use Rattle.std.specs.List.{concat}
use Rattle.cells.specs.Cells.{cell_at}
use Rattle.cells.specs.Places.{IsInside, spot}
use Rattle.turned.specs.Copies.{numbered_part, turned_row}
use Rattle.turned.specs.TurnedParts.{turned_cell}
use Rattle.turned.proofs.Copying.{cell_it, row_more, source_inside, spot_within}
use Rattle.turned.proofs.copies.push_cells.Goals as goal

pub source_of-at-requires-clause-inside : goal.source_of-at-requires-clause-inside
source_of-at-requires-clause-inside c =
    source_inside c.args.samples.now c.args.sizes.now c.args.it c.requires.part c.samples-k.ensures.volume c.spot_of.result
    (subst (IsInside c.args.it.size) (sym c.spot_of.ensures) (spot_within c.args.it.size c.loop-x.x c.args.y c.args.f c.loop-x-test.true c.requires.row c.requires.frame))

some_same : {A : Type 0} (x y : A) → Some x ≡ Some y → x ≡ y
some_same x y e = cc

found : (o : Option (Bor (List ℕ))) (cell : List ℕ) → option_copied o ≡ Some cell → IsSome o
found None cell is = let none : None ≡ Some cell = is in absurd (cc)
found (Some x) cell is = refl

pub unwrap-requires : goal.unwrap-requires
unwrap-requires c =
    let inside = subst (IsInside c.args.it.size) (sym c.spot_of.ensures) (spot_within c.args.it.size c.loop-x.x c.args.y c.args.f c.loop-x-test.true c.requires.row c.requires.frame) in
    let there = cell_it c.args.samples.now c.args.sizes.now c.args.it c.requires.part c.samples-k.ensures.volume c.spot_of.result inside in
    found c.cell.result _ (c.cell.ensures.bytes ∙ ap (cell_at c.args.samples.now) c.source_of-at.ensures ∙ there)

pub loop-x-init : goal.loop-x-init
loop-x-init c = sym (append-nil c.args.bytes.now.items)

pub loop-x-preserved : goal.loop-x-preserved
loop-x-preserved c =
    let part = numbered_part c.args.samples.now c.args.it.number in
    let turn = c.args.it.turn in
    let x = c.loop-x.x in
    let inside = subst (IsInside c.args.it.size) (sym c.spot_of.ensures) (spot_within c.args.it.size x c.args.y c.args.f c.loop-x-test.true c.requires.row c.requires.frame) in
    let there = cell_it c.args.samples.now c.args.sizes.now c.args.it c.requires.part c.samples-k.ensures.volume c.spot_of.result inside in
    let cell : c.unwrap.result.now ≡ turned_cell turn part (spot x c.args.y c.args.f) = some_same c.unwrap.result.now (turned_cell turn part c.spot_of.result)
    (sym (ap option_copied c.unwrap.ensures) ∙ c.cell.ensures.bytes ∙ ap (cell_at c.args.samples.now) c.source_of-at.ensures ∙ there)
    ∙ ap (turned_cell turn part) c.spot_of.ensures in
    (c.in_ok-extend_from_slice.ensures {u = tt}).items ∙ (λ k. c.loop-x.invariant k ++ cell k)
    ∙ append_assoc c.args.bytes.now.items (concat (turned_row turn part c.args.y c.args.f x)) (turned_cell turn part (spot x c.args.y c.args.f))
    ∙ ap (λ xs. c.args.bytes.now.items ++ xs) (sym (row_more turn part c.args.y c.args.f x))

pub returns : goal.returns
returns c =
    let part = numbered_part c.args.samples.now c.args.it.number in
    let all : c.loop-x.x ≡ c.args.it.size.w = omega (arith, c.loop-x-test.false, c.loop-x.auto.x-end) in
    subst (λ n. c.loop-x.bytes.items ≡ c.args.bytes.now.items ++ concat (turned_row c.args.it.turn part c.args.y c.args.f n)) all c.loop-x.invariant
