use Rattle.shelf_traits.specs.Files.{OnlyReadsFile}
use Rattle.cert_file.specs.CutTaking.{TookBits}
use Rattle.cert_file.proofs.choices.read_choice.Given as goal

abbrev pub invariant-loop-j : goal.invariant-loop-j
invariant-loop-j g l = record {
  took : TookBits l.name l.fn.file.at l.j l.bits.items (g.S.Shelf.state l.shelf) l.file;
  reads : OnlyReadsFile l.name (g.S.Shelf.state l.fn.shelf) (g.S.Shelf.state l.shelf);
}
