use Rattle.std.proofs.Common.{◌≡◌, ◌∙◌, ap, subst, sym}
use Rattle.std.specs.Prelude.{Some, unwrap_or}
use Rattle.cells.specs.declared.place.Size.{Size}
use Rattle.cells.specs.Places.{IsInside}
use Rattle.cells.specs.SizeLists.{stock_place}
use Rattle.turned.specs.Turns.{turn_from, turn_size}
use Rattle.turned.specs.TurnedPlaces.{sample_size}
use Rattle.turned.proofs.copies.source_of.Goals as goal

some_same : {A : Type 0} (x y : A) → Some x ≡ Some y → x ≡ y
some_same x y e = cc

pub turn_from-requires-clause-inside : goal.turn_from-requires-clause-inside
turn_from-requires-clause-inside c =
    let same : c.at.result ≡ sample_size c.args.sizes.now c.args.number = ap (λ o. unwrap_or o (record { w = 0; h = 0; f = 0 })) c.at.ensures.size in
    subst (λ size. IsInside (turn_size c.args.turn size) c.args.at) (sym same) c.requires.inside

pub stock-requires-clause-inside : goal.stock-requires-clause-inside
stock-requires-clause-inside c = λ size is. subst (λ (s : Size). IsInside s c.turn_from.result) (some_same c.at.result size (c.at.ensures.size ∙ is)) c.turn_from.ensures.inside

pub returns : goal.returns
returns c =
    let same : c.at.result ≡ sample_size c.args.sizes.now c.args.number = ap (λ o. unwrap_or o (record { w = 0; h = 0; f = 0 })) c.at.ensures.size in
    c.stock.ensures ∙ ap (stock_place c.args.sizes.now c.args.number) (c.turn_from.ensures.from ∙ ap (λ size. turn_from c.args.turn size c.args.at) same)
