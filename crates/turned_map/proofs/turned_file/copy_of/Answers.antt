use Rattle.std.proofs.Common.{◌≡◌, ◌<◌, ◌≤◌, ◌++◌, ◌∷◌, [], ◌∙◌, List, ap, arith, length, subst, sym, take}
use Rattle.std.proofs.lemmas.List.{length-take-le, take_all, take_more}
use Rattle.std.specs.Prelude.{Some}
use Rattle.cells.specs.declared.place.Size.{Size}
use Rattle.cells.specs.SizeLists.{AreSizes, size_of_part}
use Rattle.source_map.proofs.HeadWriting.{size_next}
use Rattle.turned_map.proofs.turned_file.copy_of.Goals as goal

first_taken : (samples : List Size) (size : Size) → Some size ≡ size_of_part samples 1 → size ∷ [] ≡ take 1 samples
first_taken [] size e = cc
first_taken (s ∷ samples) size e = let same : size ≡ s = cc in ap (λ z. z ∷ []) same

pub loop-part-init : goal.loop-part-init
loop-part-init c = c.one-copy.ensures ∙ first_taken c.args.samples.now c.at.result c.at.ensures.size

pub add-requires-clause-few : goal.add-requires-clause-few
add-requires-clause-few c =
    let within : c.loop-part.part ≤ length c.args.samples.now = omega arith in
    omega (arith, ap length c.loop-part.invariant, length-take-le c.loop-part.part c.args.samples.now within, c.len-count.ensures.sizes.few)

pub loop-part-preserved : goal.loop-part-preserved
loop-part-preserved c =
    let samples = c.args.samples.now in
    let i = c.loop-part.part in
    let lt : i < length samples = omega arith in
    c.add.ensures ∙ ap (λ xs. xs ++ c.at-in-loop-part.result ∷ []) c.loop-part.invariant
    ∙ ap (λ z. take i samples ++ z ∷ []) (sym (size_next samples i c.at-in-loop-part.result c.at-in-loop-part.ensures.size)) ∙ sym (take_more samples i c.at-in-loop-part.result lt)

pub returns-clause-sizes : goal.returns-clause-sizes
returns-clause-sizes c = c.loop-part.invariant ∙ take_all c.loop-part.part c.args.samples.now (omega arith)

pub returns-clause-are : goal.returns-clause-are
returns-clause-are c = subst AreSizes (sym (c.loop-part.invariant ∙ take_all c.loop-part.part c.args.samples.now (omega arith))) c.len-count.ensures.sizes
