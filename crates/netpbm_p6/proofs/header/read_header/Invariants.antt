use Rattle.std.proofs.Common.{◌≡◌, ◌*◌, length}
use Rattle.shelf_traits.specs.Files.{Changes, OnlyReadsFile, content_of}
use Rattle.netpbm_p6.specs.Scanning.{IsOpenScan}
use Rattle.netpbm_p6.specs.Reading.{Reached}
use Rattle.netpbm_p6.proofs.header.read_header.Given as goal

abbrev pub invariant-loop-piece : goal.invariant-loop-piece
invariant-loop-piece g l = record {
  reads : OnlyReadsFile l.name (g.S.Shelf.state l.initial.shelf) (g.S.Shelf.state l.shelf);
  reached : Changes (g.S.Shelf.state l.initial.shelf) (g.S.Shelf.state l.shelf) (λ before after. Reached (content_of before l.name) (l.piece * 4096) l.scan);
  is_open : IsOpenScan l.scan;
  room : length l.buffer ≡ 4096;
}
