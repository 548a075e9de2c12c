use Rattle.std.proofs.Common.{◌≡◌, length, arith, refl, subst, sym}
use Rattle.std.specs.Prelude.{Option, Some, None, IsSome, IsNone}
use Rattle.cells.specs.declared.sizes.PartPlace.{PartPlace}
use Rattle.cells.specs.SizeLists.{IsPartPlace}
use Rattle.source_map.proofs.MapWriting.{one_part}
use Rattle.source_map.proofs.PartLaws.{part_is}
use Rattle.source_map.proofs.map_file.place_of.Goals as goal

some_part : (o : Option PartPlace) → (IsNone o → ⊥) → IsSome o
some_part None none = absurd (none refl)
some_part (Some there) none = refl

pub unwrap-requires : goal.unwrap-requires
unwrap-requires c = some_part c.part_of.result (λ none. c.part_of.ensures.none none c.requires.0 c.requires.1)

pub returns-clause-form : goal.returns-clause-form
returns-clause-form c = sym (part_is c.args.samples.now c.args.from c.unwrap.result (rw c.unwrap.ensures at c.part_of.ensures.some))

pub returns-then-len-eq1-clause-part : goal.returns-then-len-eq1-clause-part
returns-then-len-eq1-clause-part c =
    let one : length c.args.samples.now ≡ 1 = omega (arith, c.len.ensures.len, c.if-len-eq1.true) in
    subst (IsPartPlace c.args.samples.now c.args.from) (one_part c.args.samples.now c.args.from c.requires.0 one c.requires.1) c.requires.1

pub returns-then-len-eq1-clause-form : goal.returns-then-len-eq1-clause-form
returns-then-len-eq1-clause-form c = sym (part_is c.args.samples.now c.args.from (record { part = 1; at = c.args.from }) (returns-then-len-eq1-clause-part c))
