use Rattle.std.proofs.Common.{◌≡◌, ◌≤◌, ◌<◌, ℕ, ◌+◌, length, sym, ap, ◌∙◌, subst, false, arith}
use Rattle.std.proofs.lemmas.Bool.{le-ltb}
use Rattle.std.proofs.lemmas.Grind.{common_steps}
use Rattle.std.specs.Prelude.{All, IfSome}
use Rattle.cells.specs.declared.place.Size.{Size}
use Rattle.cells.specs.Distances.{distance}
use Rattle.cells.specs.Places.{IsSmall, spot}
use Rattle.boxes.specs.Pairs.{AreCounts, has_next}
use Rattle.map_canvas.specs.Maps.{IsSource, map_at}
use Rattle.costs.specs.Costs.{most_of_pair, pair_at}
use Rattle.cost_windows.proofs.Fills.{HasPair, no_pair, pair_by_index, pair_of_row}
use Rattle.cost_windows.proofs.Rows.{set_more}
use Rattle.cost_windows.proofs.reach.fill_row.Goals as goal
use Rattle.cost_windows.proofs.reach.fill_row.Goals.{After-pairs_of_row-pairs, then-k-pairs, else-k-pairs}

has_pair : (c : After-pairs_of_row-pairs) (k : ℕ) → k < length c.args.costs.now → k < c.pairs_of_row-pairs.result
    → HasPair c.args.map.now c.args.axis (c.args.first.x + k) c.args.first.y c.args.first.f (c.index-start.result + k) c.stride-step.result
has_pair c k lt has =
    let first = c.args.first in
    pair_of_row c.args.map.now c.size-size.result c.args.axis first.x first.y first.f (length c.args.costs.now) k c.pairs_of_row-pairs.result c.index-start.result c.stride-step.result
    c.size-size.ensures.map c.size-size.ensures.size c.requires.counts c.requires.row lt (c.pairs_of_row-pairs.ensures k lt) has c.index-start.ensures.index c.stride-step.ensures

pub loop-k-preserved : goal.loop-k-preserved
loop-k-preserved c =
    let d = distance c.args.sample.now in
    let m = c.args.map.now in
    let axis = c.args.axis in
    let first = c.args.first in
    let made = c.loop-k.costs in
    let k = c.loop-k.k in
    let cost = c.if-k-pairs.costs in
    let lt : k < length c.args.costs.now = c.loop-k-test.true in
    let right : (cost ≡ pair_at d (map_at m) axis (spot (first.x + k) first.y first.f)) × (cost ≤ most_of_pair) = elim c.if-k-pairs.branch [
      | then-k-pairs w ↦
          let has = has_pair (goal.at.loop-k-preserved c).After-pairs_of_row-pairs k lt w.if-k-pairs.true in
          let is = w.costs-is ∙ w.from.ensures in (
            is ∙ w.cost_at.ensures.cost ∙ pair_by_index d m c.sources-sources.result.now axis (first.x + k) first.y first.f (c.index-start.result + k) c.stride-step.result has c.sources-sources.ensures,
            subst (λ n. n ≤ most_of_pair) (sym is) w.cost_at.ensures.small,
          )
      | else-k-pairs w ↦
          let none : has_next m.size axis (first.x + k) first.y first.f ≡ false =
          ap (λ (s : Size). has_next s axis (first.x + k) first.y first.f) (sym c.size-size.ensures.size) ∙ c.pairs_of_row-pairs.ensures k lt ∙ le-ltb k c.pairs_of_row-pairs.result w.if-k-pairs.false in
          (w.costs-is ∙ sym (no_pair d m axis (first.x + k) first.y first.f none), subst (λ n. n ≤ most_of_pair) (sym w.costs-is) (omega arith))
    ] in
    let inside : k < length made = omega (arith, c.loop-k.auto.costs, lt) in
    record {
      costs = set_more (λ i cost. cost ≡ pair_at d (map_at m) axis (spot (first.x + i) first.y first.f)) made k cost inside c.loop-k.invariant.costs right.0;
      small = set_more (λ _ cost. cost ≤ most_of_pair) made k cost inside c.loop-k.invariant.small right.1;
    }

pub cost_at-requires-clause-inside : goal.cost_at-requires-clause-inside
cost_at-requires-clause-inside c =
    let has = has_pair (goal.at.cost_at-requires-clause-inside c).After-pairs_of_row-pairs c.loop-k.k c.loop-k-test.true c.if-k-pairs.true in
    omega (arith, has.below, ap length c.sources-sources.ensures)

pub cost_at-requires-clause-sources : goal.cost_at-requires-clause-sources
cost_at-requires-clause-sources c = subst (All (λ source. IfSome source IsSource)) (sym c.sources-sources.ensures) c.size-size.ensures.map.sources

pub returns-clause-small : goal.returns-clause-small
returns-clause-small c = grind (arith, common_steps)

pub returns-clause-costs : goal.returns-clause-costs
returns-clause-costs c = grind (arith, common_steps)

pub bounds-costs-k : goal.bounds-costs-k
bounds-costs-k c = grind (arith, common_steps)

pub pairs_of_row-pairs-requires : goal.pairs_of_row-pairs-requires
pairs_of_row-pairs-requires c = subst (λ (size : Size). AreCounts size c.args.first.x c.args.first.y c.args.first.f) (sym c.size-size.ensures.size) c.requires.counts

pub index-start-requires-clause-counts : goal.index-start-requires-clause-counts
index-start-requires-clause-counts c = subst (λ (size : Size). AreCounts size c.args.first.x c.args.first.y c.args.first.f) (sym c.size-size.ensures.size) c.requires.counts

pub stride-step-requires : goal.stride-step-requires
stride-step-requires c = subst IsSmall (sym c.size-size.ensures.size) c.size-size.ensures.map.small

pub overflow_add-start : goal.overflow_add-start
overflow_add-start c = grind (arith, common_steps)
