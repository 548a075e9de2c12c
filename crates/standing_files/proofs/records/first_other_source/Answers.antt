use Rattle.std.proofs.Common.{◌≡◌, ◌∙◌, ◌<◌, List, length, ap, sym, subst, arith, below_more}
use mathlib.Core.Bool.{false≢true}
use Rattle.std.specs.Prelude.{Option}
use Rattle.cells.specs.Firsts.{Each}
use Rattle.cells.specs.declared.place.At.{At}
use Rattle.cells.specs.declared.place.Size.{Size}
use Rattle.cells.specs.Places.{cell_count, place_of}
use Rattle.standing_files.specs.Standing.{HasOneSource}
use Rattle.standing_files.specs.Steps.{HaveOneEntry}
use Rattle.standing_files.proofs.SameMaps.{one_source_each}
use Rattle.standing_files.proofs.Sizes.{size_test}
use Rattle.standing_files.proofs.records.first_other_source.Goals as goal

pub returns-then-have_one_entry_each : goal.returns-then-have_one_entry_each
returns-then-have_one_entry_each c =
    let left = c.args.left.now in
    let m = c.args.map.now in
    let entries = c.sources-then-eq.result.now in
    let same : left.size ≡ m.size = sym c.size.ensures.size ∙ (size_test c.size.result c.size-2.result).0 (sym c.eq.ensures ∙ c.if-eq.true) ∙ c.size-2.ensures.size in
    one_source_each left m c.size-2.ensures.map same
    (subst (λ (sources : List (Option At)). Each (length sources) (HaveOneEntry left.sources sources)) c.sources-then-eq.ensures
    (subst (λ (lefts : List (Option At)). Each (length entries) (HaveOneEntry lefts entries)) c.sources.ensures (c.have_one_entry_each.ensures c.if-have_one_entry_each.true)))

pub returns-then-not-has_one_source : goal.returns-then-not-has_one_source
returns-then-not-has_one_source c =
    let left = c.args.left.now in
    let m = c.args.map.now in
    let i = c.loop-i.i in
    let same = c.size-size.ensures.size in
    let here : c.place_at.result ≡ place_of m.size i = c.place_at.ensures ∙ ap (λ (size : Size). place_of size i) same in
    record {
      below = subst (λ n. i < n) (c.cells-i-end.ensures ∙ ap (λ (size : Size). cell_count size) same) c.loop-i-test.true;
      before = c.loop-i.invariant;
      here = λ one. false≢true (sym c.if-not-has_one_source.true ∙ c.has_one_source.ensures.1 (subst (λ (p : At). HasOneSource left m p) (sym here) one));
    }

pub loop-i-preserved : goal.loop-i-preserved
loop-i-preserved c =
    let left = c.args.left.now in
    let m = c.args.map.now in
    let i = c.loop-i.i in
    let here : c.place_at.result ≡ place_of m.size i = c.place_at.ensures ∙ ap (λ (size : Size). place_of size i) c.size-size.ensures.size in
    below_more (λ k. HasOneSource left m (place_of m.size k)) i c.loop-i.invariant
    (subst (λ (p : At). HasOneSource left m p) here (c.has_one_source.ensures.0 c.if-not-has_one_source.false))

pub returns : goal.returns
returns c = λ k lt.
    let n_is : c.cells-i-end.result ≡ cell_count c.args.map.now.size = c.cells-i-end.ensures ∙ ap (λ (size : Size). cell_count size) c.size-size.ensures.size in
    let below : k < c.cells-i-end.result = subst (λ n. k < n) (sym n_is) lt in
    c.loop-i.invariant k (omega (arith, below, c.loop-i-test.false))

pub loop-i-init : goal.loop-i-init
loop-i-init c =
    λ k lt. let none : ⊥ = omega arith in absurd none
