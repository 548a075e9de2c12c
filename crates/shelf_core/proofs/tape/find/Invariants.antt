-- The files passed have other names, and the rest comes after them.
use Rattle.std.proofs.Common.{◌≡◌, ◌+◌, length, drop}
use Rattle.std.specs.List.{position_from}
use Rattle.shelf_core.specs.Tapes.{has_name, cut, spanned}
use Rattle.shelf_core.proofs.tape.find.Given as goal

abbrev pub invariant-loop-i : goal.invariant-loop-i
invariant-loop-i l = record {
  left : l.start + spanned (drop l.i l.spans) ≡ length l.bytes;
  found : position_from (has_name l.name) l.i (cut (drop l.i l.spans) (drop l.start l.bytes)) ≡ position_from (has_name l.name) 0 (cut l.spans l.bytes);
}
