use Rattle.std.proofs.lemmas.Grind.{common_steps}
use Rattle.std.specs.Prelude.{Contains, IfSome}
use Rattle.std.proofs.lemmas.List.{take_all}
use Rattle.std.proofs.Common.{[], map, take, refl, sym, subst, ◌∙◌, arith, rules}
use Rattle.match_error.specs.Errors.{error_of}
use Rattle.patch_picks.specs.Picks.{listed_on}
use Rattle.patch_place.specs.Tables.{IsShortlist}
use Rattle.patch_picks.proofs.Counting.{map_more}
use Rattle.patch_place.proofs.errors.placed_shortlist.Goals as goal

pub entries-preserved : goal.entries-preserved
entries-preserved c =
    let list = listed_on c.args.canvas.now c.args.sample.now c.args.list.now in
    let f = error_of c.args.canvas.now.map c.args.sample.now in
    record {
      short =
          subst (IsShortlist c.add.new.self) (sym (map_more f list c.entries.i _ c.entry_for-placement.ensures.at))
          (c.in_ok-add.ensures.more (map f (take c.entries.i list)) c.entries.invariant.short);
      sound = c.in_ok-add.ensures.sound;
      seen = omega (arith, c.in_ok-add.ensures.seen, c.entries.invariant.seen);
      tol = c.add.ensures.tol ∙ c.entries.invariant.tol;
      known = c.add.ensures.known ∙ c.entries.invariant.known;
      errors = c.in_ok-come_to.ensures.sums;
      part = c.in_ok-come_to.ensures.part;
    }

pub returns : goal.returns
returns c =
    let list = listed_on c.args.canvas.now c.args.sample.now c.args.list.now in
    let f = error_of c.args.canvas.now.map c.args.sample.now in
    record {
      short = subst (λ all. IsShortlist c.entries.short (map f all)) (take_all c.entries.i list (omega (arith, c.count_for-i-end.ensures, c.entries-test.false))) c.entries.invariant.short;
      sound = c.entries.invariant.sound;
      tolerance = c.entries.invariant.tol;
      known = subst (λ known. IfSome known (Contains (map f list))) (sym c.entries.invariant.known) tt;
    }

pub begin-errors-requires-clause-held : goal.begin-errors-requires-clause-held
begin-errors-requires-clause-held c = rw (c.size.ensures.size ∙ (λ t. (c.map.ensures.map t).size)) at c.around_of-around.ensures

pub count-requires-clause-inside : goal.count-requires-clause-inside
count-requires-clause-inside c = rw (c.size.ensures.size ∙ (λ t. (c.map.ensures.map t).size)) at c.around_of-around.ensures

pub squares_for-squares-requires-clause-inside : goal.squares_for-squares-requires-clause-inside
squares_for-squares-requires-clause-inside c = (c.entry_for-placement.ensures.fits c.requires.fit).inside

pub add-requires : goal.add-requires
add-requires c = record { over = c.requires.over; fits = c.entry_for-placement.ensures.fits c.requires.fit; counts = c.in_ok-counts.ensures; rows = c.in_ok-rows.ensures; errors = c.in_ok-come_to.ensures.sums; few = omega (arith, c.entries.invariant.seen, c.entries-test.true); sound = c.entries.invariant.sound }

pub around_of-around-requires : goal.around_of-around-requires
around_of-around-requires c = grind (arith, common_steps)

pub entries-init : goal.entries-init
entries-init c = record {
  short = c.begun-short.ensures.short [] (search rules) refl;
  sound = c.begun-short.ensures.sound;
  seen = c.begun-short.ensures.seen;
  tol = c.begun-short.ensures.tol;
  known = c.begun-short.ensures.known;
  errors = grind (arith, common_steps);
  part = grind (arith, common_steps);
}

pub come_to-requires : goal.come_to-requires
come_to-requires c = record { over = c.requires.over; held = rw (c.size.ensures.size ∙ (λ t. (c.map.ensures.map t).size)) at c.around_of-around.ensures; errors = c.entries.invariant.errors; part = c.entries.invariant.part }

pub make-requires : goal.make-requires
make-requires c = record { inside = rw (c.size.ensures.size ∙ (λ t. (c.map.ensures.map t).size)) at c.around_of-around.ensures }

pub gather-requires : goal.gather-requires
gather-requires c = record { inside = rw (c.size.ensures.size ∙ (λ t. (c.map.ensures.map t).size)) at c.around_of-around.ensures }
