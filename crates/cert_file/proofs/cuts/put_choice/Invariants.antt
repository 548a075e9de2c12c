use Rattle.std.specs.Prelude.{map}
use Rattle.std.specs.List.{range_with_len}
use Rattle.file_bytes.specs.Writing.{Puts}
use Rattle.cert_file.specs.CutForms.{choice_byte}
use Rattle.cert_file.proofs.cuts.put_choice.Given as goal

abbrev pub invariant-loop-j : goal.invariant-loop-j
invariant-loop-j g l =
    let state = g.S.Shelf.state in
    Puts l.name (map (choice_byte l.choice) (range_with_len 0 l.j)) (state l.fn.shelf) (state l.shelf) l.fn.file l.file
