use Rattle.std.proofs.Common.{◌∙◌, ap, length, sym, subst, [], refl}
use Rattle.map_canvas.specs.Choices.{map_after}
use Rattle.cut_replay.proofs.Replaying.{left_longer, stands_longer}
use Rattle.cut_replay.specs.Replay.{IsFormed}
use Rattle.std.proofs.lemmas.Option.{slice_get_read}
use Rattle.cut_check.specs.Records.{IsFirstCutFault, setting}
use Rattle.cut_replay.proofs.records.replay_each.Goals as goal

pub loop-number-preserved : goal.loop-number-preserved
loop-number-preserved c =
    let was = c.loop-number.canvas.map in
    let cut = c.index-cuts-number.result in
    record {
      stand = stands_longer c.args.sample.now c.args.canvas.now.map c.args.cuts.now c.loop-number.number cut c.loop-number-test.true c.index-cuts-number.is was c.loop-number.invariant.left
          c.loop-number.invariant.stand c.in-Ok.ensures.stands;
      left = left_longer c.args.sample.now c.args.canvas.now.map c.args.cuts.now c.loop-number.number cut c.loop-number-test.true c.index-cuts-number.is was c.loop-number.invariant.left
          c.put_choice.new.self.map (c.put_choice.ensures.map ∙ ap (map_after was cut.placement) c.as_slice.ensures);
      over = c.put_choice.ensures.stands;
      canvas = c.put_choice.ensures.canvas;
    }

pub returns-in-Err-clause-replayed : goal.returns-in-Err-clause-replayed
returns-in-Err-clause-replayed c =
    let so = c.loop-number.invariant in
    let cut = c.index-cuts-number.result in (
      record {
        before = so.stand;
        cut = cut;
        at = slice_get_read c.args.cuts.now (length c.args.cuts.now) c.loop-number.number cut refl c.loop-number-test.true c.index-cuts-number.is;
        breaks = subst (λ m. IsFirstCutFault (setting m c.args.sample.now []) cut c.in-Err.fault) so.left c.in-Err.ensures.fault;
      },
      so.left,
    )

pub put_choice-requires-clause-choices : goal.put_choice-requires-clause-choices
put_choice-requires-clause-choices c =
    let cut = c.index-cuts-number.result in
    let formed : IsFormed cut = subst IsFormed (sym c.index-cuts-number.is) (c.requires.formed c.loop-number.number cut c.loop-number-test.true) in
    ap length c.as_slice.ensures ∙ formed.choice
