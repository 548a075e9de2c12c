use Rattle.std.proofs.lemmas.Grind.{common_steps}
use Rattle.std.proofs.Common.{◌≡◌, ◌≤◌, length, drop, sym, subst, arith}
use Rattle.std.proofs.lemmas.List.{length-take-le}
use Rattle.shelf_traits.specs.Files.{content_of}
use Rattle.shelf_traits.proofs.Sees.{Sees}
use Rattle.netpbm_p6.specs.Scanning.{IsSoundScanned}
use Rattle.netpbm_p6.specs.Reading.{ScansOn}
use Rattle.netpbm_p6.proofs.Pieces.{piece_scanned, cut_sound}
use Rattle.netpbm_p6.proofs.header.scan_at.Goals as goal

pub returns-clause-scanned : goal.returns-clause-scanned
returns-clause-scanned g c =
    let same : length c.get.new.into ≡ length c.args.buffer.now = omega arith in
    subst (λ room. Sees (g.S.Shelf.state c.args.shelf.now) (g.S.Shelf.state c.get.new.self) (λ files. ScansOn (drop c.args.at (content_of files c.args.name.now)) c.args.scan room c.cut_off.result)) same
    (subst (λ scanned. Sees (g.S.Shelf.state c.args.shelf.now) (g.S.Shelf.state c.get.new.self) (λ files. ScansOn (drop c.args.at (content_of files c.args.name.now)) c.args.scan (length c.get.new.into) scanned)) (sym c.cut_off.ensures)
    (piece_scanned c.args.name.now c.args.at c.args.scan c.get.new.into c.in_ok-count.count c.scan_piece-scanned.result (g.S.Shelf.state c.args.shelf.now) (g.S.Shelf.state c.get.new.self)
    c.scan_piece-scanned.ensures.scanned c.scan_piece-scanned.ensures.sound c.in_ok-count.ensures.read))

pub returns-clause-sound : goal.returns-clause-sound
returns-clause-sound g c =
    let same : length c.get.new.into ≡ length c.args.buffer.now = omega arith in
    let within : c.in_ok-count.count ≤ length c.get.new.into = omega (arith, same, c.in_ok-count.ensures.within) in
    subst (λ room. IsSoundScanned room c.cut_off.result) same
    (subst (IsSoundScanned (length c.get.new.into)) (sym c.cut_off.ensures)
    (cut_sound c.in_ok-count.count (length c.get.new.into) c.scan_piece-scanned.result within
    (subst (λ n. IsSoundScanned n c.scan_piece-scanned.result) (length-take-le c.in_ok-count.count c.get.new.into within) c.scan_piece-scanned.ensures.sound)))

pub slice_bounds-scan_piece-end-2 : goal.slice_bounds-scan_piece-end-2
slice_bounds-scan_piece-end-2 g c = grind (arith, common_steps)
