use Rattle.std.proofs.lemmas.Grind.{common_steps}
use Rattle.std.proofs.Common.{◌≡◌, ◌+◌, ◌*◌, ◌%◌, ◌++◌, ◌∷◌, [], ℕ, List, length, get_or, map, take, sym, ◌∙◌, ap, add-one, arith}
use Rattle.std.proofs.Math.Seq.{take-length}
use Rattle.cyclic_products.specs.declared.residues.TheConstants.{LAST}
use Rattle.cyclic_products.specs.Splits.{table_of}
use Rattle.cyclic_products.proofs.tables.table.Goals as goal

pub levels-init : goal.levels-init
unfolding table_of
levels-init c = c.in_ok-push.ensures.items ∙ ap (λ (t : List ℕ). t ++ (c.args.first ∷ [])) c.new-table.ensures.items

pub levels-preserved : goal.levels-preserved
unfolding table_of
levels-preserved c =
    let ladder = c.args.ladder.now in
    let level = c.levels.level in
    let table = table_of LAST c.args.first ladder level in
    let whole : c.numbers.i ≡ length table = omega (arith, c.numbers-test.false, c.numbers.auto.i-end, c.numbers.invariant.whole) in
    let all : take c.numbers.i table ≡ table = ap (λ n. take n table) whole ∙ take-length table in
    c.numbers.invariant.items ∙ ap (λ (t : List ℕ). table ++ map (λ x. (x * get_or ladder level 0) % (LAST + 1)) t) all
    ∙ ap (λ n. table_of LAST c.args.first ladder n) (sym (add-one level))

pub numbers-preserved : goal.numbers-preserved
numbers-preserved c = grind (arith, common_steps)

pub index-requires : goal.index-requires
index-requires c = grind (arith, common_steps)

pub returns : goal.returns
returns c =
    let whole : c.levels.level ≡ c.args.levels = omega (arith, c.levels-test.false, c.levels.auto.level-end) in
    c.levels.invariant ∙ ap (table_of LAST c.args.first c.args.ladder.now) whole

pub bounds-ladder-level : goal.bounds-ladder-level
bounds-ladder-level c = omega arith
