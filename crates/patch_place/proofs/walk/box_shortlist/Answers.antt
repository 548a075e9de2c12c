use Rattle.std.proofs.Common.{◌≡◌, [], ap, refl, arith, length, map, sym, subst, ◌∙◌}
use Rattle.std.proofs.lemmas.List.{length-map}
use Rattle.std.proofs.lemmas.List.Elements.{All-nil}
use Rattle.std.specs.Prelude.{All, Contains, IfSome}
use Rattle.patch_place.specs.BoxErrors.{box_list}
use Rattle.patch_picks.specs.Lists.{fit_list, lists_from}
use Rattle.patch_picks.proofs.PartLists.{before_all}
use Rattle.patch_place.specs.Tables.{IsShortlist, IsUnfilled}
use Rattle.patch_place.proofs.BoxWalk.{none_seen}
use Rattle.patch_place.proofs.Limits.{uncounted}
use Rattle.patch_place.proofs.walk.box_shortlist.Goals as goal

pub returns-then-count-eq0 : goal.returns-then-count-eq0
returns-then-count-eq0 g c =
    let f = g.E.BoxErrors.error c.args.errors.now in
    let list = box_list c.args.rect.now c.args.sample.now in
    record {
      short =
          c.begun.ensures.short (map f list) (uncounted f (g.E.BoxErrors.MayAsk c.args.errors.now) c.count-count.result c.count-count.ensures (omega (arith, c.if-count-eq0.true)) list c.requires.asked)
          (length-map list f ∙ sym c.box_count.ensures);
      sound = c.begun.ensures.sound;
      tolerance = c.begun.ensures.tol;
      known = subst (λ known. IfSome known (Contains (map f list))) (sym c.begun.ensures.known) tt;
    }

pub parts-init : goal.parts-init
parts-init g c = record {
  done = c.begun-short.ensures.short [] (All-nil IsUnfilled) refl;
  seen = none_seen c.args.rect.now c.parts_of-sizes.result c.begun-short.result.seen c.begun-short.ensures.seen;
  sound = c.begun-short.ensures.sound;
  tol = c.begun-short.ensures.tol;
  known =
      subst (λ known. IfSome known (Contains (map (g.E.BoxErrors.error c.args.errors.now) (box_list c.args.rect.now c.args.sample.now)))) (sym c.begun-short.ensures.known) c.least_hint-known.ensures.listed;
}

pub add_part-requires-clause-asked : goal.add_part-requires-clause-asked
add_part-requires-clause-asked g c =
    subst (λ s. All (g.E.BoxErrors.MayAsk c.args.errors.now) (lists_from (fit_list c.args.rect.now) s 1 s)) (sym c.parts_of-sizes.ensures.sizes) c.requires.asked

pub add_part-requires-clause-so_far : goal.add_part-requires-clause-so_far
add_part-requires-clause-so_far g c = c.parts.invariant.done

pub add_part-requires-clause-seen : goal.add_part-requires-clause-seen
add_part-requires-clause-seen g c = c.parts.invariant.seen

pub parts-preserved : goal.parts-preserved
parts-preserved g c = record {
  done = c.in_ok-add_part.ensures.done;
  seen = c.in_ok-add_part.ensures.seen;
  sound = c.in_ok-add_part.ensures.sound;
  tol = c.add_part.ensures.tol ∙ c.parts.invariant.tol;
  known =
      subst (λ known. IfSome known (Contains (map (g.E.BoxErrors.error c.args.errors.now) (box_list c.args.rect.now c.args.sample.now)))) (sym c.add_part.ensures.known) c.parts.invariant.known;
}

pub returns : goal.returns
returns g c =
    let f = g.E.BoxErrors.error c.args.errors.now in
    let list = fit_list c.args.rect.now in
    let whole : c.parts.n ≡ length c.parts_of-sizes.result = omega (arith, c.parts-test.false, c.parts.auto.n-end) in
    let all = before_all list c.parts_of-sizes.result c.parts.n whole ∙ ap (λ sizes. lists_from list sizes 1 sizes) c.parts_of-sizes.ensures.sizes in
    record {
      short = subst (λ entries. IsShortlist c.parts.short (map f entries)) all c.parts.invariant.done;
      sound = c.parts.invariant.sound;
      tolerance = c.parts.invariant.tol;
      known = c.parts.invariant.known;
    }
