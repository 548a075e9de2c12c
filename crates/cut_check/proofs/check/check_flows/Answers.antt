use Rattle.std.proofs.lemmas.Grind.{common_steps}
use Rattle.std.proofs.Common.{◌≡◌, ◌∙◌, List, Bool, refl, sym, ap, subst, inl, inr, arith, w64, to_z, of_z}
use Rattle.std.proofs.lemmas.Int.{ints}
use Rattle.std.specs.Prelude.{pos}
use Rattle.cells.specs.Distances.{distance}
use Rattle.map_canvas.specs.Maps.{SourceMap}
use Rattle.costs.specs.Lawful.{window_after}
use Rattle.cut_check.specs.Records.{BoundsAll, IsFirstUnbounded, Setting, setting}
use Rattle.cut_check.proofs.Parts.{part_at, parts_are}
use Rattle.cut_check.proofs.check.check_flows.Goals as goal
use Rattle.cut_check.proofs.check.check_flows.Goals.{else-value-ge0-via-then-value-ge0+else-value-window, else-value-ge0-via-else-value-ge0}

pub returns-in-Some-clause-fault : goal.returns-in-Some-clause-fault
returns-in-Some-clause-fault c =
    let cut = c.args.cut.now in
    let sample = c.args.sample.now in
    let held = c.args.held.now in
    inr (inr (inr (inl (record {
      kind = refl;
      lawful = c.requires.lawful;
      place = subst (λ (m : SourceMap). IsFirstUnbounded (setting m sample held) cut c.in-Some.number) c.map.ensures.map (c.in-Some.ensures.broken held);
    }))))

pub returns-in-Err-clause-fault : goal.returns-in-Err-clause-fault
returns-in-Err-clause-fault c =
    let cut = c.args.cut.now in
    let sample = c.args.sample.now in
    let held = c.args.held.now in
    inr (inr (inr (inr (inl (record {
      kind = refl;
      lawful = c.requires.lawful;
      bounded = subst (λ (m : SourceMap). BoundsAll (setting m sample held) cut) c.map.ensures.map (c.in_default.ensures.hold held);
      place = c.in-Err.ensures.balanced sample;
    })))))

pub returns-then-value-window-clause-stands : goal.returns-then-value-window-clause-stands
returns-then-value-window-clause-stands c =
    let cut = c.args.cut.now in
    let sample = c.args.sample.now in
    let held = c.args.held.now in
    let s : Setting = setting c.args.canvas.now.map sample held in
    let window = c.window_after-window.ensures ∙ ap (λ (choice : List Bool). window_after (distance sample) c.args.canvas.now.map cut.placement choice) c.as_slice.ensures in
    let exact : to_z w64 (of_z w64 c.in-Ok.value) ≡ c.in-Ok.value = omega (arith, ints, c.in-Ok.ensures.near) in
    record {
      lawful = c.requires.lawful;
      bounded = subst (λ (m : SourceMap). BoundsAll (setting m sample held) cut) c.map.ensures.map (c.in_default.ensures.hold held);
      balanced = c.in-Ok.ensures.balanced sample;
      value = record {
        part = part_at s cut;
        parts = parts_are s cut;
        sum = sym (c.in-Ok.ensures.value sample (part_at s cut) (parts_are s cut)) ∙ sym exact ∙ omega (arith, ints, c.if-value-ge0.true, c.if-value-window.true) ∙ ap pos window;
      };
    }

pub returns-else-value-ge0-clause-fault : goal.returns-else-value-ge0-clause-fault
returns-else-value-ge0-clause-fault c =
    let cut = c.args.cut.now in
    let sample = c.args.sample.now in
    let held = c.args.held.now in
    let window = c.window_after-window.ensures ∙ ap (λ (choice : List Bool). window_after (distance sample) c.args.canvas.now.map cut.placement choice) c.as_slice.ensures in
    let exact : to_z w64 (of_z w64 c.in-Ok.value) ≡ c.in-Ok.value = omega (arith, ints, c.in-Ok.ensures.near) in
    inr (inr (inr (inr (inr (record {
      kind = refl;
      place = refl;
      lawful = c.requires.lawful;
      bounded = subst (λ (m : SourceMap). BoundsAll (setting m sample held) cut) c.map.ensures.map (c.in_default.ensures.hold held);
      balanced = c.in-Ok.ensures.balanced sample;
      value = λ value. let is = exact ∙ c.in-Ok.ensures.value sample value.part value.parts ∙ value.sum ∙ ap pos (sym window) in
          elim c.else-value-ge0.branch [
            | else-value-ge0-via-then-value-ge0+else-value-window w ↦ w.if-value-window.false (omega (arith, ints, is, w.if-value-ge0.true))
            | else-value-ge0-via-else-value-ge0 w ↦ absurd (omega (arith, ints, is, w.if-value-ge0.false))
          ];
    })))))

pub first_unbounded-requires : goal.first_unbounded-requires
first_unbounded-requires c = grind (arith, common_steps)

pub overflow_cast-value : goal.overflow_cast-value
overflow_cast-value c = grind (arith, common_steps)

pub value_of-requires : goal.value_of-requires
value_of-requires c = grind (arith, common_steps)
