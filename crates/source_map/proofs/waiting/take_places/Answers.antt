use Rattle.std.proofs.Common.{◌*◌, ◌+◌, ◌++◌, [], ◌∷◌, refl, sym, ◌∙◌, subst, arith, ◌≡◌}
use Rattle.std.proofs.lemmas.List.Elements.{All-push}
use Rattle.std.specs.Prelude.{Option, Some, All, IfSome, IsSomeAnd}
use Rattle.cells.specs.declared.place.At.{At}
use Rattle.map_canvas.specs.Maps.{IsSource}
use Rattle.source_map.specs.declared.head.Version.TheVariants.{One}
use Rattle.source_map.specs.MapFiles.{IsInSamples, source_read}
use Rattle.source_map.specs.Waiting.{ExtendsIn}
use Rattle.source_map.proofs.Sources.{inside_source, one_in}
use Rattle.source_map.proofs.WaitingLaws.{grows_more}
use Rattle.source_map.proofs.waiting.take_places.Goals as goal

pub loop-n-preserved : goal.loop-n-preserved
loop-n-preserved c =
    let so = c.loop-n.invariant in
    let samples = c.args.samples.now in
    let size = c.at-size.result in
    let from = c.in-Some.from in
    let longer = c.loop-n.sources.items in
    let IsSound : Option At → Type 0 = λ source. IfSome source IsSource in
    let IsIn : Option At → Type 0 = λ source. IsSomeAnd source (IsInSamples samples) in
    let all = c.push_reserved.ensures.items ∙ (λ k. longer ++ c.new.ensures k ∷ []) in
    record {
      count = omega (arith, c.push_reserved.ensures.len, so.count);
      capacity = c.push_reserved.ensures.capacity ∙ so.capacity;
      grows = subst (ExtendsIn (source_read One samples) c.args.waiting.now (6 * (c.loop-n.n + 1)) c.args.sources.now.items) (sym all)
          (grows_more samples size c.args.waiting.now c.loop-n.n c.args.sources.now.items longer from c.at-size.ensures.size so.grows c.in-Some.ensures.waits);
      sources = λ sound. (
        subst (All IsSound) (sym all) (All-push IsSound longer (Some from) (so.sources sound).0 (inside_source size c.at-size.ensures.axes from c.in-Some.ensures.inside)),
        subst (All IsIn) (sym all) (All-push IsIn longer (Some from) (so.sources sound).1 (one_in samples 1 size from refl c.at-size.ensures.size c.in-Some.ensures.inside)),
      );
    }

pub new-requires : goal.new-requires
new-requires c =
    inside_source c.at-size.result c.at-size.ensures.axes c.in-Some.from c.in-Some.ensures.inside

pub returns-clause-grows : goal.returns-clause-grows
returns-clause-grows c =
    let all : c.loop-n.n ≡ c.args.most = omega (arith, c.loop-n-test.false, c.loop-n.auto.n-end) in
    subst (λ n. ExtendsIn (source_read One c.args.samples.now) c.args.waiting.now (6 * n) c.args.sources.now.items c.loop-n.sources.items) all c.loop-n.invariant.grows
