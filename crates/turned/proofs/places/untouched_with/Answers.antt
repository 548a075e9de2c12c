use Rattle.std.proofs.Common.{◌≡◌, ◌∙◌, ◌+◌, ◌-◌, ◌/◌, ◌%◌, List, arith, ap, refl, subst, sym}
use Rattle.std.specs.Prelude.{IfSome, IsNone, IsSome, None, Option, Some, unwrap_or}
use Rattle.cells.specs.declared.place.At.{At}
use Rattle.cells.specs.declared.place.Size.{Size}
use Rattle.cells.specs.declared.sizes.PartPlace.{PartPlace}
use Rattle.cells.specs.Places.{IsInside}
use Rattle.cells.specs.SizeLists.{IsPartPlace}
use Rattle.turned.specs.Turns.{turn_from, turn_size}
use Rattle.turned.specs.TurnedParts.{turned_sizes_of}
use Rattle.turned.specs.TurnedPlaces.{IsUntouched, sample_size}
use Rattle.turned.proofs.TurnedLists.{below_of, turn_count}
use Rattle.turned.proofs.TurnedPlaces.{found_inside, found_untouched, untouched_back}
use Rattle.turned.proofs.places.untouched_with.Goals as goal

some_part : (o : Option PartPlace) → (IsNone o → ⊥) → IsSome o
some_part None none = absurd (none refl)
some_part (Some there) none = refl

pub unwrap-there-requires : goal.unwrap-there-requires
unwrap-there-requires c =
    some_part c.part_of.result (λ none. c.part_of.ensures.none none c.requires.inside.0
    (subst (λ (sizes : List Size). IsPartPlace sizes c.args.at c.requires.inside.0) (sym c.requires.sizes) c.requires.inside.1))

has : (o : Option PartPlace) (there : PartPlace) (all sizes : List Size) (at : At) → sizes ≡ all → o ≡ Some there → IfSome o (IsPartPlace sizes at) → IsPartPlace all at there
has o there all sizes at same is some = subst (λ (list : List Size). IsPartPlace list at there) same (subst (λ o. IfSome o (IsPartPlace sizes at)) is some)

pub at-requires-clause-to : goal.at-requires-clause-to
at-requires-clause-to c =
    let its = has c.part_of.result c.unwrap-there.result (turned_sizes_of c.args.samples.now) c.args.sizes.now c.args.at c.requires.sizes c.unwrap-there.ensures c.part_of.ensures.some in
    omega (arith, its.part, below_of (turned_sizes_of c.args.samples.now) its.before its.size its.is, turn_count turn_size c.args.samples.now)

pub turn_from-requires-clause-inside : goal.turn_from-requires-clause-inside
turn_from-requires-clause-inside c =
    let same : c.at.result ≡ sample_size c.args.samples.now ((c.unwrap-there.result.part - 1) / 8 + 1) = ap (λ o. unwrap_or o (record { w = 0; h = 0; f = 0 })) c.at.ensures.size in
    subst (λ size. IsInside (turn_size ((c.unwrap-there.result.part - 1) % 8) size) c.unwrap-there.result.at) (sym same)
    (found_inside c.args.samples.now c.args.at c.unwrap-there.result (has c.part_of.result c.unwrap-there.result (turned_sizes_of c.args.samples.now) c.args.sizes.now c.args.at c.requires.sizes c.unwrap-there.ensures c.part_of.ensures.some))

found : (c : goal.After-turn_from) → IsUntouched c.args.samples.now c.args.at (record {
  sample = (c.unwrap-there.result.part - 1) / 8 + 1;
  turn = (c.unwrap-there.result.part - 1) % 8;
  at = c.turn_from.result;
})
found c =
    let same : c.at.result ≡ sample_size c.args.samples.now ((c.unwrap-there.result.part - 1) / 8 + 1) = ap (λ o. unwrap_or o (record { w = 0; h = 0; f = 0 })) c.at.ensures.size in
    subst (λ (p : At). IsUntouched c.args.samples.now c.args.at (record { sample = (c.unwrap-there.result.part - 1) / 8 + 1; turn = (c.unwrap-there.result.part - 1) % 8; at = p }))
    (sym (c.turn_from.ensures.from ∙ ap (λ size. turn_from ((c.unwrap-there.result.part - 1) % 8) size c.unwrap-there.result.at) same))
    (found_untouched c.args.samples.now c.args.at c.unwrap-there.result (has c.part_of.result c.unwrap-there.result (turned_sizes_of c.args.samples.now) c.args.sizes.now c.args.at c.requires.sizes c.unwrap-there.ensures c.part_of.ensures.some))

pub returns-clause-untouched : goal.returns-clause-untouched
returns-clause-untouched c = found c

pub returns-clause-back : goal.returns-clause-back
returns-clause-back c = untouched_back c.args.samples.now c.args.at _ (found c)
