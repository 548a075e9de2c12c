use Rattle.std.proofs.Common.{ap, sym, subst}
use Rattle.std.specs.Prelude.{Result}
use Rattle.cells.specs.declared.place.Size.{Size}
use Rattle.map_canvas.specs.Canvases.{CanvasState}
use Rattle.map_canvas.specs.Maps.{SourceMap}
use Rattle.shelf_traits.specs.declared.fault.ReadError.{ReadError}
use Rattle.standing_files.specs.AsRead.{IsCanvasSize, JudgesAfter, JudgesToEnd, read_as}
use Rattle.standing_files.specs.Standing.{IsVerdict}
use Rattle.standing_files.specs.declared.verdict.Verdict.{Verdict}
use Rattle.standing_files.proofs.Concluding.{after, colours, went}
use Rattle.standing_files.proofs.as_read.judge_cells.Goals as goal
use Rattle.standing_files.proofs.as_read.judge_cells.Goals.{in-Ok, in-Err}

pub judge_records_to_end-found-requires-clause-colours : goal.judge_records_to_end-found-requires-clause-colours
judge_records_to_end-found-requires-clause-colours g c =
    colours c.args.samples.now c.args.out.now c.args.map_file.now c.args.none.now c.try_together-before.result c.try_together-before.ensures c.requires.sound.form

pub judge_left-requires : goal.judge_left-requires
judge_left-requires g c =
    let its = (c.in-Ok.ensures {u = tt}).answer in
    record {
      one = went c.args.samples.now c.args.out.now c.in_ok-canvas.canvas.map.size c.judge_records_to_end-found.new.canvas.map c.args.map_file.now c.args.none.now its.0
          c.try_together-before.result c.in-Ok.found c.try_together-before.ensures its.2;
    }

pub returns-clause-answer : goal.returns-clause-answer
returns-clause-answer g c =
    let state = g.S.Shelf.state in
    let samples = c.args.samples.now in
    let out = c.args.out.now in
    let map_file = c.args.map_file.now in
    let none = c.args.none.now in
    let before = c.try_together-before.result in
    let left = c.judge_records_to_end-found.new.canvas.map in
    let of = λ (verdict : Result Verdict ReadError). JudgesToEnd (IsVerdict samples out map_file) c.args.name.now c.args.file.now.at (state c.args.shelf.now) (state c.judge_records_to_end-found.new.shelf) (read_as none) verdict in
    let sized = subst (λ (size : Size). IsCanvasSize before map_file size) (sym (ap (λ (canvas : CanvasState). canvas.map.size) c.in_ok-canvas.ensures.empty)) c.canvas_size-size.ensures.is in
    elim c.match-found.branch [
      | in-Ok w ↦
          let its = (w.in-Ok.ensures {u = tt}).answer in
          let left_is = subst (λ (left : SourceMap). JudgesAfter w.in-Ok.found samples.volume out.volume map_file left w.judge_left.result) w.map.ensures.map w.judge_left.ensures in
          subst of (sym w.verdict-is)
          (its.0, its.1, after samples out c.in_ok-canvas.canvas.map.size left map_file none its.0 before w.in-Ok.found w.judge_left.result c.try_together-before.ensures sized its.2 left_is)
      | in-Err w ↦ subst of (sym w.verdict-is) (w.in-Err.ensures {u = tt}).answer
    ]
