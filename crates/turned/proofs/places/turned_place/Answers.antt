use Rattle.std.proofs.Common.{◌≡◌, ◌∙◌, List, ap, arith, length, subst, sym}
use Rattle.std.specs.Prelude.{unwrap_or}
use Rattle.cells.specs.declared.place.At.{At}
use Rattle.cells.specs.declared.place.Size.{Size}
use Rattle.cells.specs.Places.{IsInside}
use Rattle.cells.specs.SizeLists.{size_of_part, stock_place}
use Rattle.turned.specs.Turns.{turn_size, turn_to}
use Rattle.turned.specs.TurnedParts.{turned_sizes_of}
use Rattle.turned.specs.TurnedPlaces.{IsInTurned, IsUntouched, sample_size, turned_number, turned_place}
use Rattle.turned.proofs.TurnedPlaces.{place_in_part, place_is_part, place_untouched}
use Rattle.turned.proofs.TurnedLists.{sample_bounds, turn_count}
use Rattle.turned.proofs.places.turned_place.Goals as goal

pub stock-requires-clause-to : goal.stock-requires-clause-to
stock-requires-clause-to c =
    let there = c.args.there in
    let bounds = sample_bounds c.args.samples.now there.sample (sample_size c.args.samples.now there.sample) c.requires.turned.sample in
    omega (arith, ap length c.requires.sizes, turn_count turn_size c.args.samples.now, bounds.0, bounds.1, c.requires.turned.turn)

pub stock-requires-clause-inside : goal.stock-requires-clause-inside
stock-requires-clause-inside c = λ size is.
    let to = c.turn_to.ensures.to ∙ ap (λ size. turn_to c.args.there.turn size c.args.there.at) (ap (λ o. unwrap_or o (record { w = 0; h = 0; f = 0 })) c.at-size.ensures.size) in
    subst (IsInside size) (sym to)
    (place_in_part c.args.samples.now c.args.there c.requires.turned size (ap (λ (xs : List Size). size_of_part xs (turned_number c.args.there.sample c.args.there.turn)) (sym c.requires.sizes) ∙ is))

placed : (c : goal.After-stock) → c.stock.result ≡ turned_place c.args.samples.now c.args.there
placed c =
    let to = c.turn_to.ensures.to ∙ ap (λ size. turn_to c.args.there.turn size c.args.there.at) (ap (λ o. unwrap_or o (record { w = 0; h = 0; f = 0 })) c.at-size.ensures.size) in
    c.stock.ensures
    ∙ ap (λ (xs : List Size). stock_place xs (turned_number c.args.there.sample c.args.there.turn) c.turn_to.result) c.requires.sizes
    ∙ ap (stock_place (turned_sizes_of c.args.samples.now) (turned_number c.args.there.sample c.args.there.turn)) to

pub returns-clause-place : goal.returns-clause-place
returns-clause-place c = placed c

pub returns-clause-inside : goal.returns-clause-inside
returns-clause-inside c = subst (IsInTurned c.args.samples.now) (sym (placed c)) (_, place_is_part c.args.samples.now c.args.there c.requires.turned)

pub returns-clause-untouched : goal.returns-clause-untouched
returns-clause-untouched c =
    subst (λ (p : At). IsUntouched c.args.samples.now p c.args.there) (sym (placed c)) (place_untouched c.args.samples.now c.args.there c.requires.turned)

pub overflow_mul-part : goal.overflow_mul-part
overflow_mul-part c =
    let there = c.args.there in
    let bounds = sample_bounds c.args.samples.now there.sample (sample_size c.args.samples.now there.sample) c.requires.turned.sample in
    omega (arith, bounds.0, bounds.1, c.requires.few, c.requires.turned.turn)

pub overflow_add-part : goal.overflow_add-part
overflow_add-part c =
    let there = c.args.there in
    let bounds = sample_bounds c.args.samples.now there.sample (sample_size c.args.samples.now there.sample) c.requires.turned.sample in
    omega (arith, bounds.0, bounds.1, c.requires.few, c.requires.turned.turn)

pub overflow_add-part-2 : goal.overflow_add-part-2
overflow_add-part-2 c =
    let there = c.args.there in
    let bounds = sample_bounds c.args.samples.now there.sample (sample_size c.args.samples.now there.sample) c.requires.turned.sample in
    omega (arith, bounds.0, bounds.1, c.requires.few, c.requires.turned.turn)
