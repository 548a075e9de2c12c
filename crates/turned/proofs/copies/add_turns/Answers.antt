use Rattle.std.proofs.Common.{◌≡◌, ◌≤◌, ◌+◌, ◌-◌, ◌*◌, ◌∙◌, ℕ, ap, arith, length, refl, sym}
use Rattle.cells.specs.Places.{cell_count}
use Rattle.cells.specs.Cells.{Cells, count_of, sizes_of, with_part}
use Rattle.turned.specs.TurnedPlaces.{sample_size}
use Rattle.turned.specs.TurnedParts.{turned}
use Rattle.turned.specs.Copies.{numbered_part, turns_from, with_parts}
use Rattle.turned.proofs.Turns.{turn_count}
use Rattle.turned.proofs.Copying.{count_alone, count_more, length_more, parts_more, room_left, turns_more, with_none}
use Rattle.turned.proofs.copies.add_turns.Goals as goal

no_turns : (part v : Cells) (first : ℕ) → v ≡ with_parts v (turns_from part first (first - first))
no_turns part v first = with_none v ∙ ap (λ n. with_parts v (turns_from part first n)) (let none : 0 ≡ first - first = omega arith in none)

no_room : (a first c : ℕ) → a ≡ a + (first - first) * c
no_room a first c = let none : first - first ≡ 0 = omega arith in rw none (omega arith)

pub loop-turn-init : goal.loop-turn-init
loop-turn-init c = record {
  all = no_turns (numbered_part c.args.samples.now c.args.number) c.args.all.now c.args.first;
  samples = refl;
  few = omega arith;
  room = no_room (count_of c.args.all.now) c.args.first (cell_count (sample_size c.args.sizes.now c.args.number));
}

-- how many cells one turn more has
pub add_part-requires-clause-room : goal.add_part-requires-clause-room
add_part-requires-clause-room c =
    let ok = c.in_ok-part.ensures {u = tt} in
    let part = c.in_ok-part.part in
    let count : count_of part ≡ cell_count (sample_size c.args.sizes.now c.args.number) =
    count_alone part ok.one ∙ ap cell_count ok.size ∙ turn_count c.loop-turn.turn (sample_size c.args.sizes.now c.args.number) in
    let left = room_left (count_of c.args.all.now) (c.loop-turn.turn - c.args.first) (8 - c.args.first) (cell_count (sample_size c.args.sizes.now c.args.number)) 33554432 (omega arith) c.requires.room in
    omega (arith, left, count, c.loop-turn.invariant.room)

counted : (now before more a first turn c : ℕ) → first ≤ turn → now ≡ before + more → before ≡ a + (turn - first) * c → more ≡ c → now ≡ a + (turn + 1 - first) * c
counted now before more a first turn c le is was same =
    let next : turn + 1 - first ≡ (turn - first) + 1 = omega (arith, le) in
    rw next (omega (arith, is, was, same))

pub loop-turn-preserved : goal.loop-turn-preserved
loop-turn-preserved c =
    let ok = c.in_ok-part.ensures {u = tt} in
    let part = numbered_part c.args.samples.now c.args.number in
    let first = c.args.first in
    let turn = c.loop-turn.turn in
    let le : first ≤ turn = omega arith in
    let joined : c.add_part.new.self ≡ with_part c.loop-turn.all c.in_ok-part.part = (c.in_ok-add_part.ensures {u = tt}).ok in
    record {
      all = joined ∙ (λ k. with_part (c.loop-turn.invariant.all k) (ok.turned k)) ∙ parts_more c.args.all.now (turns_from part first (turn - first)) (turned turn part)
          ∙ ap (with_parts c.args.all.now) (sym (turns_more part first turn le));
      samples = ap (λ (v : Cells). v.k) joined ∙ c.loop-turn.invariant.samples;
      few = omega (arith, ap (λ (v : Cells). length (sizes_of v)) joined, length_more c.loop-turn.all c.in_ok-part.part, c.loop-turn.invariant.few, le);
      room = counted (count_of c.add_part.new.self) (count_of c.loop-turn.all) (cell_count c.in_ok-part.part.size) (count_of c.args.all.now) first turn (cell_count (sample_size c.args.sizes.now c.args.number)) le
          (ap count_of joined ∙ count_more c.loop-turn.all c.in_ok-part.part) c.loop-turn.invariant.room
          (ap cell_count ok.size ∙ turn_count turn (sample_size c.args.sizes.now c.args.number));
    }
