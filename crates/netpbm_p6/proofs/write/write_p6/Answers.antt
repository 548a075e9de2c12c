use Rattle.std.proofs.Common.{ap, refl, [], ◌∷◌, ◌++◌, decimal}
use Rattle.std.specs.Prelude.{codes}
use Rattle.cells.specs.declared.place.Size.{Size}
use Rattle.cells.specs.Cells.{bytes_of}
use Rattle.shelf_traits.proofs.FileLaws.{only_writes_then, rose_later}
use Rattle.shelf_traits.proofs.WrittenLaws.{shelf_begun}
use Rattle.netpbm_p6.proofs.Writing.{piece_added, number_added, stopped, number_stopped, on_err}
use Rattle.netpbm_p6.proofs.write.write_p6.Goals as goal

pub returns-in_err-add-clause-err : goal.returns-in_err-add-clause-err
returns-in_err-add-clause-err g c =
    let h0 = shelf_begun c.args.name.now (g.S.Shelf.state c.args.shelf.now) (g.S.Shelf.state c.begin.new.self) c.in_ok-begin.ensures.begun in
    on_err _ _ (stopped c.args.name.now [] (codes "P6\n") (codes "P6\n") ((decimal c.args.volume.now.size.w) ∷ codes " " ∷ (decimal c.args.volume.now.size.h) ∷ codes "\n" ∷ (decimal c.args.maxval) ∷ codes "\n" ∷ (bytes_of c.args.volume.now) ∷ []) (g.S.Shelf.state c.args.shelf.now) (g.S.Shelf.state c.begin.new.self) (g.S.Shelf.state c.add.new.self) refl h0 c.in_err-add.ensures.part)

pub returns-in_err-add_number-clause-err : goal.returns-in_err-add_number-clause-err
returns-in_err-add_number-clause-err g c =
    let h0 = shelf_begun c.args.name.now (g.S.Shelf.state c.args.shelf.now) (g.S.Shelf.state c.begin.new.self) c.in_ok-begin.ensures.begun in
    let h1 = piece_added c.args.name.now [] (codes "P6\n") (codes "P6\n") (g.S.Shelf.state c.args.shelf.now) (g.S.Shelf.state c.begin.new.self) (g.S.Shelf.state c.add.new.self) refl h0 c.in_ok-add.ensures.added in
    on_err _ _ (number_stopped c.args.name.now ([] ++ codes "P6\n") (decimal c.size-size.result.w) (decimal c.args.volume.now.size.w) (codes " ") ((decimal c.args.volume.now.size.h) ∷ codes "\n" ∷ (decimal c.args.maxval) ∷ codes "\n" ∷ (bytes_of c.args.volume.now) ∷ []) (g.S.Shelf.state c.args.shelf.now) (g.S.Shelf.state c.add.new.self) (g.S.Shelf.state c.add_number.new.shelf) (ap (λ (s : Size). decimal s.w) c.size-size.ensures.size) h1 c.in_err-add_number.ensures.part)

pub returns-in_err-add_number-2-clause-err : goal.returns-in_err-add_number-2-clause-err
returns-in_err-add_number-2-clause-err g c =
    let h0 = shelf_begun c.args.name.now (g.S.Shelf.state c.args.shelf.now) (g.S.Shelf.state c.begin.new.self) c.in_ok-begin.ensures.begun in
    let h1 = piece_added c.args.name.now [] (codes "P6\n") (codes "P6\n") (g.S.Shelf.state c.args.shelf.now) (g.S.Shelf.state c.begin.new.self) (g.S.Shelf.state c.add.new.self) refl h0 c.in_ok-add.ensures.added in
    let h2 = number_added c.args.name.now ([] ++ codes "P6\n") (decimal c.size-size.result.w) (decimal c.args.volume.now.size.w) (codes " ") (g.S.Shelf.state c.args.shelf.now) (g.S.Shelf.state c.add.new.self) (g.S.Shelf.state c.add_number.new.shelf) (ap (λ (s : Size). decimal s.w) c.size-size.ensures.size) h1 c.in_ok-add_number.ensures.added in
    on_err _ _ (number_stopped c.args.name.now (([] ++ codes "P6\n") ++ (decimal c.args.volume.now.size.w) ++ codes " ") (decimal c.size-size.result.h) (decimal c.args.volume.now.size.h) (codes "\n") ((decimal c.args.maxval) ∷ codes "\n" ∷ (bytes_of c.args.volume.now) ∷ []) (g.S.Shelf.state c.args.shelf.now) (g.S.Shelf.state c.add_number.new.shelf) (g.S.Shelf.state c.add_number-2.new.shelf) (ap (λ (s : Size). decimal s.h) c.size-size.ensures.size) h2 c.in_err-add_number-2.ensures.part)

pub returns-in_err-add_number-3-clause-err : goal.returns-in_err-add_number-3-clause-err
returns-in_err-add_number-3-clause-err g c =
    let h0 = shelf_begun c.args.name.now (g.S.Shelf.state c.args.shelf.now) (g.S.Shelf.state c.begin.new.self) c.in_ok-begin.ensures.begun in
    let h1 = piece_added c.args.name.now [] (codes "P6\n") (codes "P6\n") (g.S.Shelf.state c.args.shelf.now) (g.S.Shelf.state c.begin.new.self) (g.S.Shelf.state c.add.new.self) refl h0 c.in_ok-add.ensures.added in
    let h2 = number_added c.args.name.now ([] ++ codes "P6\n") (decimal c.size-size.result.w) (decimal c.args.volume.now.size.w) (codes " ") (g.S.Shelf.state c.args.shelf.now) (g.S.Shelf.state c.add.new.self) (g.S.Shelf.state c.add_number.new.shelf) (ap (λ (s : Size). decimal s.w) c.size-size.ensures.size) h1 c.in_ok-add_number.ensures.added in
    let h3 = number_added c.args.name.now (([] ++ codes "P6\n") ++ (decimal c.args.volume.now.size.w) ++ codes " ") (decimal c.size-size.result.h) (decimal c.args.volume.now.size.h) (codes "\n") (g.S.Shelf.state c.args.shelf.now) (g.S.Shelf.state c.add_number.new.shelf) (g.S.Shelf.state c.add_number-2.new.shelf) (ap (λ (s : Size). decimal s.h) c.size-size.ensures.size) h2 c.in_ok-add_number-2.ensures.added in
    on_err _ _ (number_stopped c.args.name.now ((([] ++ codes "P6\n") ++ (decimal c.args.volume.now.size.w) ++ codes " ") ++ (decimal c.args.volume.now.size.h) ++ codes "\n") (decimal c.from.result) (decimal c.args.maxval) (codes "\n") ((bytes_of c.args.volume.now) ∷ []) (g.S.Shelf.state c.args.shelf.now) (g.S.Shelf.state c.add_number-2.new.shelf) (g.S.Shelf.state c.add_number-3.new.shelf) (ap decimal c.from.ensures) h3 c.in_err-add_number-3.ensures.part)

pub returns-in_err-add-2-clause-err : goal.returns-in_err-add-2-clause-err
returns-in_err-add-2-clause-err g c =
    let h0 = shelf_begun c.args.name.now (g.S.Shelf.state c.args.shelf.now) (g.S.Shelf.state c.begin.new.self) c.in_ok-begin.ensures.begun in
    let h1 = piece_added c.args.name.now [] (codes "P6\n") (codes "P6\n") (g.S.Shelf.state c.args.shelf.now) (g.S.Shelf.state c.begin.new.self) (g.S.Shelf.state c.add.new.self) refl h0 c.in_ok-add.ensures.added in
    let h2 = number_added c.args.name.now ([] ++ codes "P6\n") (decimal c.size-size.result.w) (decimal c.args.volume.now.size.w) (codes " ") (g.S.Shelf.state c.args.shelf.now) (g.S.Shelf.state c.add.new.self) (g.S.Shelf.state c.add_number.new.shelf) (ap (λ (s : Size). decimal s.w) c.size-size.ensures.size) h1 c.in_ok-add_number.ensures.added in
    let h3 = number_added c.args.name.now (([] ++ codes "P6\n") ++ (decimal c.args.volume.now.size.w) ++ codes " ") (decimal c.size-size.result.h) (decimal c.args.volume.now.size.h) (codes "\n") (g.S.Shelf.state c.args.shelf.now) (g.S.Shelf.state c.add_number.new.shelf) (g.S.Shelf.state c.add_number-2.new.shelf) (ap (λ (s : Size). decimal s.h) c.size-size.ensures.size) h2 c.in_ok-add_number-2.ensures.added in
    let h4 = number_added c.args.name.now ((([] ++ codes "P6\n") ++ (decimal c.args.volume.now.size.w) ++ codes " ") ++ (decimal c.args.volume.now.size.h) ++ codes "\n") (decimal c.from.result) (decimal c.args.maxval) (codes "\n") (g.S.Shelf.state c.args.shelf.now) (g.S.Shelf.state c.add_number-2.new.shelf) (g.S.Shelf.state c.add_number-3.new.shelf) (ap decimal c.from.ensures) h3 c.in_ok-add_number-3.ensures.added in
    on_err _ _ (stopped c.args.name.now (((([] ++ codes "P6\n") ++ (decimal c.args.volume.now.size.w) ++ codes " ") ++ (decimal c.args.volume.now.size.h) ++ codes "\n") ++ (decimal c.args.maxval) ++ codes "\n") c.bytes.result.now (bytes_of c.args.volume.now) ([]) (g.S.Shelf.state c.args.shelf.now) (g.S.Shelf.state c.add_number-3.new.shelf) (g.S.Shelf.state c.add-2.new.self) c.bytes.ensures h4 c.in_err-add-2.ensures.part)

pub returns-clause-ok : goal.returns-clause-ok
returns-clause-ok g c =
    let h0 = shelf_begun c.args.name.now (g.S.Shelf.state c.args.shelf.now) (g.S.Shelf.state c.begin.new.self) c.in_ok-begin.ensures.begun in
    let h1 = piece_added c.args.name.now [] (codes "P6\n") (codes "P6\n") (g.S.Shelf.state c.args.shelf.now) (g.S.Shelf.state c.begin.new.self) (g.S.Shelf.state c.add.new.self) refl h0 c.in_ok-add.ensures.added in
    let h2 = number_added c.args.name.now ([] ++ codes "P6\n") (decimal c.size-size.result.w) (decimal c.args.volume.now.size.w) (codes " ") (g.S.Shelf.state c.args.shelf.now) (g.S.Shelf.state c.add.new.self) (g.S.Shelf.state c.add_number.new.shelf) (ap (λ (s : Size). decimal s.w) c.size-size.ensures.size) h1 c.in_ok-add_number.ensures.added in
    let h3 = number_added c.args.name.now (([] ++ codes "P6\n") ++ (decimal c.args.volume.now.size.w) ++ codes " ") (decimal c.size-size.result.h) (decimal c.args.volume.now.size.h) (codes "\n") (g.S.Shelf.state c.args.shelf.now) (g.S.Shelf.state c.add_number.new.shelf) (g.S.Shelf.state c.add_number-2.new.shelf) (ap (λ (s : Size). decimal s.h) c.size-size.ensures.size) h2 c.in_ok-add_number-2.ensures.added in
    let h4 = number_added c.args.name.now ((([] ++ codes "P6\n") ++ (decimal c.args.volume.now.size.w) ++ codes " ") ++ (decimal c.args.volume.now.size.h) ++ codes "\n") (decimal c.from.result) (decimal c.args.maxval) (codes "\n") (g.S.Shelf.state c.args.shelf.now) (g.S.Shelf.state c.add_number-2.new.shelf) (g.S.Shelf.state c.add_number-3.new.shelf) (ap decimal c.from.ensures) h3 c.in_ok-add_number-3.ensures.added in
    let h5 = piece_added c.args.name.now (((([] ++ codes "P6\n") ++ (decimal c.args.volume.now.size.w) ++ codes " ") ++ (decimal c.args.volume.now.size.h) ++ codes "\n") ++ (decimal c.args.maxval) ++ codes "\n") c.bytes.result.now (bytes_of c.args.volume.now) (g.S.Shelf.state c.args.shelf.now) (g.S.Shelf.state c.add_number-3.new.shelf) (g.S.Shelf.state c.add-2.new.self) c.bytes.ensures h4 c.in_ok-add-2.ensures.added in
    h5

pub returns-in_err-add-2-clause-writes : goal.returns-in_err-add-2-clause-writes
returns-in_err-add-2-clause-writes g c =
    let w2 = only_writes_then (g.S.Shelf.state c.args.shelf.now) (g.S.Shelf.state c.begin.new.self) (g.S.Shelf.state c.add.new.self) c.in_ok-begin.ensures.writes c.in_ok-add.ensures.writes in
    let w3 = only_writes_then (g.S.Shelf.state c.args.shelf.now) (g.S.Shelf.state c.add.new.self) (g.S.Shelf.state c.add_number.new.shelf) w2 c.in_ok-add_number.ensures.writes in
    let w4 = only_writes_then (g.S.Shelf.state c.args.shelf.now) (g.S.Shelf.state c.add_number.new.shelf) (g.S.Shelf.state c.add_number-2.new.shelf) w3 c.in_ok-add_number-2.ensures.writes in
    let w5 = only_writes_then (g.S.Shelf.state c.args.shelf.now) (g.S.Shelf.state c.add_number-2.new.shelf) (g.S.Shelf.state c.add_number-3.new.shelf) w4 c.in_ok-add_number-3.ensures.writes in
    only_writes_then (g.S.Shelf.state c.args.shelf.now) (g.S.Shelf.state c.add_number-3.new.shelf) (g.S.Shelf.state c.add-2.new.self) w5 c.in_err-add-2.ensures.writes

pub returns-clause-writes : goal.returns-clause-writes
returns-clause-writes g c =
    let w2 = only_writes_then (g.S.Shelf.state c.args.shelf.now) (g.S.Shelf.state c.begin.new.self) (g.S.Shelf.state c.add.new.self) c.in_ok-begin.ensures.writes c.in_ok-add.ensures.writes in
    let w3 = only_writes_then (g.S.Shelf.state c.args.shelf.now) (g.S.Shelf.state c.add.new.self) (g.S.Shelf.state c.add_number.new.shelf) w2 c.in_ok-add_number.ensures.writes in
    let w4 = only_writes_then (g.S.Shelf.state c.args.shelf.now) (g.S.Shelf.state c.add_number.new.shelf) (g.S.Shelf.state c.add_number-2.new.shelf) w3 c.in_ok-add_number-2.ensures.writes in
    let w5 = only_writes_then (g.S.Shelf.state c.args.shelf.now) (g.S.Shelf.state c.add_number-2.new.shelf) (g.S.Shelf.state c.add_number-3.new.shelf) w4 c.in_ok-add_number-3.ensures.writes in
    let w6 = only_writes_then (g.S.Shelf.state c.args.shelf.now) (g.S.Shelf.state c.add_number-3.new.shelf) (g.S.Shelf.state c.add-2.new.self) w5 c.in_ok-add-2.ensures.writes in
    w6

pub returns-in_err-add-2-clause-failed : goal.returns-in_err-add-2-clause-failed
returns-in_err-add-2-clause-failed g c =
    let w2 = only_writes_then (g.S.Shelf.state c.args.shelf.now) (g.S.Shelf.state c.begin.new.self) (g.S.Shelf.state c.add.new.self) c.in_ok-begin.ensures.writes c.in_ok-add.ensures.writes in
    let w3 = only_writes_then (g.S.Shelf.state c.args.shelf.now) (g.S.Shelf.state c.add.new.self) (g.S.Shelf.state c.add_number.new.shelf) w2 c.in_ok-add_number.ensures.writes in
    let w4 = only_writes_then (g.S.Shelf.state c.args.shelf.now) (g.S.Shelf.state c.add_number.new.shelf) (g.S.Shelf.state c.add_number-2.new.shelf) w3 c.in_ok-add_number-2.ensures.writes in
    let w5 = only_writes_then (g.S.Shelf.state c.args.shelf.now) (g.S.Shelf.state c.add_number-2.new.shelf) (g.S.Shelf.state c.add_number-3.new.shelf) w4 c.in_ok-add_number-3.ensures.writes in
    on_err _ _ (rose_later ((g.S.Shelf.state c.args.shelf.now).writes c.args.name.now) ((g.S.Shelf.state c.add_number-3.new.shelf).writes c.args.name.now) ((g.S.Shelf.state c.add-2.new.self).writes c.args.name.now) (w5.writes c.args.name.now) c.in_err-add-2.ensures.failed)

pub returns-in_err-add_number-3-clause-writes : goal.returns-in_err-add_number-3-clause-writes
returns-in_err-add_number-3-clause-writes g c =
    let w2 = only_writes_then (g.S.Shelf.state c.args.shelf.now) (g.S.Shelf.state c.begin.new.self) (g.S.Shelf.state c.add.new.self) c.in_ok-begin.ensures.writes c.in_ok-add.ensures.writes in
    let w3 = only_writes_then (g.S.Shelf.state c.args.shelf.now) (g.S.Shelf.state c.add.new.self) (g.S.Shelf.state c.add_number.new.shelf) w2 c.in_ok-add_number.ensures.writes in
    let w4 = only_writes_then (g.S.Shelf.state c.args.shelf.now) (g.S.Shelf.state c.add_number.new.shelf) (g.S.Shelf.state c.add_number-2.new.shelf) w3 c.in_ok-add_number-2.ensures.writes in
    only_writes_then (g.S.Shelf.state c.args.shelf.now) (g.S.Shelf.state c.add_number-2.new.shelf) (g.S.Shelf.state c.add_number-3.new.shelf) w4 c.in_err-add_number-3.ensures.writes

pub returns-in_err-add_number-3-clause-failed : goal.returns-in_err-add_number-3-clause-failed
returns-in_err-add_number-3-clause-failed g c =
    let w2 = only_writes_then (g.S.Shelf.state c.args.shelf.now) (g.S.Shelf.state c.begin.new.self) (g.S.Shelf.state c.add.new.self) c.in_ok-begin.ensures.writes c.in_ok-add.ensures.writes in
    let w3 = only_writes_then (g.S.Shelf.state c.args.shelf.now) (g.S.Shelf.state c.add.new.self) (g.S.Shelf.state c.add_number.new.shelf) w2 c.in_ok-add_number.ensures.writes in
    let w4 = only_writes_then (g.S.Shelf.state c.args.shelf.now) (g.S.Shelf.state c.add_number.new.shelf) (g.S.Shelf.state c.add_number-2.new.shelf) w3 c.in_ok-add_number-2.ensures.writes in
    on_err _ _ (rose_later ((g.S.Shelf.state c.args.shelf.now).writes c.args.name.now) ((g.S.Shelf.state c.add_number-2.new.shelf).writes c.args.name.now) ((g.S.Shelf.state c.add_number-3.new.shelf).writes c.args.name.now) (w4.writes c.args.name.now) c.in_err-add_number-3.ensures.failed)

pub returns-in_err-add_number-2-clause-writes : goal.returns-in_err-add_number-2-clause-writes
returns-in_err-add_number-2-clause-writes g c =
    let w2 = only_writes_then (g.S.Shelf.state c.args.shelf.now) (g.S.Shelf.state c.begin.new.self) (g.S.Shelf.state c.add.new.self) c.in_ok-begin.ensures.writes c.in_ok-add.ensures.writes in
    let w3 = only_writes_then (g.S.Shelf.state c.args.shelf.now) (g.S.Shelf.state c.add.new.self) (g.S.Shelf.state c.add_number.new.shelf) w2 c.in_ok-add_number.ensures.writes in
    only_writes_then (g.S.Shelf.state c.args.shelf.now) (g.S.Shelf.state c.add_number.new.shelf) (g.S.Shelf.state c.add_number-2.new.shelf) w3 c.in_err-add_number-2.ensures.writes

pub returns-in_err-add_number-2-clause-failed : goal.returns-in_err-add_number-2-clause-failed
returns-in_err-add_number-2-clause-failed g c =
    let w2 = only_writes_then (g.S.Shelf.state c.args.shelf.now) (g.S.Shelf.state c.begin.new.self) (g.S.Shelf.state c.add.new.self) c.in_ok-begin.ensures.writes c.in_ok-add.ensures.writes in
    let w3 = only_writes_then (g.S.Shelf.state c.args.shelf.now) (g.S.Shelf.state c.add.new.self) (g.S.Shelf.state c.add_number.new.shelf) w2 c.in_ok-add_number.ensures.writes in
    on_err _ _ (rose_later ((g.S.Shelf.state c.args.shelf.now).writes c.args.name.now) ((g.S.Shelf.state c.add_number.new.shelf).writes c.args.name.now) ((g.S.Shelf.state c.add_number-2.new.shelf).writes c.args.name.now) (w3.writes c.args.name.now) c.in_err-add_number-2.ensures.failed)

pub returns-in_err-add_number-clause-writes : goal.returns-in_err-add_number-clause-writes
returns-in_err-add_number-clause-writes g c =
    let w2 = only_writes_then (g.S.Shelf.state c.args.shelf.now) (g.S.Shelf.state c.begin.new.self) (g.S.Shelf.state c.add.new.self) c.in_ok-begin.ensures.writes c.in_ok-add.ensures.writes in
    only_writes_then (g.S.Shelf.state c.args.shelf.now) (g.S.Shelf.state c.add.new.self) (g.S.Shelf.state c.add_number.new.shelf) w2 c.in_err-add_number.ensures.writes

pub returns-in_err-add_number-clause-failed : goal.returns-in_err-add_number-clause-failed
returns-in_err-add_number-clause-failed g c =
    let w2 = only_writes_then (g.S.Shelf.state c.args.shelf.now) (g.S.Shelf.state c.begin.new.self) (g.S.Shelf.state c.add.new.self) c.in_ok-begin.ensures.writes c.in_ok-add.ensures.writes in
    on_err _ _ (rose_later ((g.S.Shelf.state c.args.shelf.now).writes c.args.name.now) ((g.S.Shelf.state c.add.new.self).writes c.args.name.now) ((g.S.Shelf.state c.add_number.new.shelf).writes c.args.name.now) (w2.writes c.args.name.now) c.in_err-add_number.ensures.failed)
