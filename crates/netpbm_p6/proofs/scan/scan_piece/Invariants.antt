use Rattle.std.proofs.Common.{◌≡◌, take}
use Rattle.std.specs.Prelude.{Some}
use Rattle.shelf_traits.specs.Decimals.{capped}
use Rattle.netpbm_p6.specs.Scanning.{run_of, IsOpenScan}
use Rattle.netpbm_p6.proofs.scan.scan_piece.Given as goal

abbrev pub invariant-loop-i : goal.invariant-loop-i
invariant-loop-i l = record { run : run_of capped l.fn.start (take l.i l.piece) ≡ Some l.scan; is_open : IsOpenScan l.scan }
