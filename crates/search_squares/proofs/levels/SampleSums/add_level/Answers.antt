use Rattle.std.proofs.Common.{subst, sym}
use Rattle.std.specs.Prelude.{All}
use Rattle.std.proofs.lemmas.List.Elements.{All-push}
use Rattle.search_squares.specs.Sums.{AreCellSums, AreBlockSums}
use Rattle.search_squares.proofs.levels.SampleSums.add_level.Goals as goal

pub returns : goal.returns
returns c =
    subst (All (AreBlockSums c.args.sample.now)) (sym c.in_ok-push.ensures.items)
    (All-push (AreBlockSums c.args.sample.now) c.args.self.now.levels.items _ c.requires.sums c.in_ok-sums.ensures)

pub make-requires-clause-few : goal.make-requires-clause-few
make-requires-clause-few c = c.requires.few

pub make-requires-clause-some : goal.make-requires-clause-some
make-requires-clause-some c = c.requires.some

pub make-requires-clause-cells : goal.make-requires-clause-cells
make-requires-clause-cells c = λ some. subst (AreCellSums c.args.sample.now c.args.rect.now) (sym c.deref.ensures.value) (c.requires.cells some)

pub make-requires-clause-inside : goal.make-requires-clause-inside
make-requires-clause-inside c = c.holds.ensures.0 c.if-not-holds.false
