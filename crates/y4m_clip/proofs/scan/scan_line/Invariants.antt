use Rattle.std.proofs.Common.{◌≡◌, take}
use Rattle.std.specs.Prelude.{Some, ◌≢◌}
use Rattle.y4m_clip.specs.declared.scan.LineScan.TheVariants.{Magic, Whole}
use Rattle.y4m_clip.specs.Scanning.{line_run}
use Rattle.y4m_clip.proofs.scan.scan_line.Given as goal

abbrev pub invariant-loop-i : goal.invariant-loop-i
invariant-loop-i l = record { run : line_run Magic (take l.i l.text) ≡ Some l.scan; is_open : l.scan ≢ Whole }
